-- How much a log or a listing can need.
use Rattle.std.specs.Prelude.{ℕ}

-- no log has more events
abbrev pub most_events : ℕ
most_events = 46

-- no log is longer
abbrev pub most_bytes : ℕ
most_bytes = 201

-- no listing is longer
abbrev pub most_listed : ℕ
most_listed = 34
