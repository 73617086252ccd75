-- What stands at place k of a buffer of 0xA5s after a call that wrote these bytes from the start on.
use Rattle.std.specs.Prelude.{ℕ, ◌-◌, cond, List, length, nat_lt, slice_index}

abbrev pub left_at : ℕ → List ℕ → ℕ → ℕ
left_at start written k = cond (nat_lt k start) 165 (cond (nat_lt (k - start) (length written)) (slice_index written (k - start)) 165)
