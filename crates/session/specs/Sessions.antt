-- A log session: it appends one visit's log at a time, and keeps the bytes used, the events, and the memory events at unknown addresses.
use Rattle.std.specs.Prelude.{◌≡◌, ℕ, ◌+◌, ◌%◌, ◌<◌, ◌≤◌, List, [], ◌∷◌, length, take}
use Rattle.registers.specs.Files.{file_of}
use Rattle.definition.specs.Addresses.{word}
use Rattle.definition.specs.Readings.{Reads}
use Rattle.definition.specs.Visits.{log_of, visit_of}
use Rattle.definition.specs.declared.Answer.{Answer}
use Rattle.definition.specs.declared.Answer.TheVariants.{Done, Refused, Complex, Short}
use Rattle.definition.specs.declared.Event.{Event}
use Rattle.definition.specs.declared.Event.TheVariants.{RegisterRead, RegisterWrite, MemoryRead, MemoryWrite, UnknownRead, UnknownWrite}
use Rattle.session.specs.declared.counts.Counts.{Counts}
use Rattle.session.specs.declared.appends.Session.{Session}

-- 1 for a memory event at an unknown address
abbrev pub unknown_in : Event → ℕ
unknown_in (RegisterRead y) = 0
unknown_in (RegisterWrite y) = 0
unknown_in (MemoryRead a n) = 0
unknown_in (MemoryWrite a n) = 0
unknown_in (UnknownRead n) = 1
unknown_in (UnknownWrite n) = 1

-- events, and those among them at unknown addresses
abbrev pub no_counts : Counts
no_counts = record { events = 0; unknown = 0 }

abbrev pub counting : Event → Counts → Counts
counting e c = record { events = c.events + 1; unknown = c.unknown + unknown_in e }

unfoldable pub counts_of : List Event → Counts
counts_of [] = no_counts
counts_of (e ∷ es) = counting e (counts_of es)

abbrev pub empty : Session
empty = record { used = 0; events = 0; unknown = 0 }

-- n bytes more, which are these events; counts are modulo two to the 64
unfoldable pub further : Session → ℕ → List Event → Session
further s n es =
    record {
      used = s.used + n;
      events = (s.events + (counts_of es).events) % word;
      unknown = (s.unknown + (counts_of es).unknown) % word;
    }

-- what an answer makes of a session, by the events that were logged: refused, it stays
abbrev pub session_after : Session → List Event → Answer → Session
session_after s es (Done n) = further s n es
session_after s es (Refused k) = s
session_after s es (Complex o) = s
session_after s es (Short n) = s

-- a session and the buffer that its last call left
abbrev pub Held : Type 0
Held = Session × List ℕ

-- AN APPEND is a visit behind the bytes used
unfoldable pub appended : List ℕ → List ℕ → Held → Answer × Held
appended b f h =
    let o = visit_of b f h.1 h.0.used in
    (o.0, (session_after h.0 (log_of b (file_of f)) o.0, o.1))

-- the calls of a session: an append of a record under a file, with the buffer that is lent to it; a reset
pub data Call : Type 0 where
  append : List ℕ → List ℕ → List ℕ → Call
  reset : Call

unfoldable pub after : Held → Call → Held
after h (append b f p) = (appended b f (h.0, p)).1
after h reset = (empty, h.1)

unfoldable pub after_all : Held → List Call → Held
after_all h [] = h
after_all h (q ∷ qs) = after_all (after h q) qs

-- each buffer lent has, up to `used`, the bytes that the last call left; it may be another buffer, or the same with other bytes behind
unfoldable pub Lent : Held → List Call → Type 0
Lent h [] = Unit {0}
Lent h (append b f p ∷ qs) = (length p < word) × (take h.0.used p ≡ take h.0.used h.1) × Lent (after h (append b f p)) qs
Lent h (reset ∷ qs) = Lent (after h reset) qs

-- THE INVARIANT: `used` lies within the buffer, the bytes before it read whole as events, and the counts are counts over these
pub record Counted (s : Session) (p : List ℕ) : Type 0 where
  pub log : List Event
  pub within : s.used ≤ length p
  pub reads : Reads (take s.used p) log
  pub events : s.events ≡ (counts_of log).events
  pub unknown : s.unknown ≡ (counts_of log).unknown
