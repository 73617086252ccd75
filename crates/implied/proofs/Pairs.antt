-- Two runs of events, written one behind the other. Assumes nothing.
use Rattle.std.proofs.Common.{ℕ, ◌≤◌, List, ◌++◌, length, arith}
use Rattle.laws.specs.Lending.{size, Logged}
use Rattle.laws.proofs.Lending.{part, room, size_append}
use Rattle.definition.specs.Logs.{event_bytes}
use Rattle.definition.specs.declared.Event.{Event}

-- the first has room in the whole
pub first_fits : (xs ys : List Event) {k : ℕ} → size event_bytes (xs ++ ys) ≤ k → size event_bytes xs ≤ k
first_fits xs ys h = omega (arith, size_append event_bytes xs ys)

-- the second has room behind the first
pub rest_fits :
    {xs : List Event} (ys : List Event) {old mid : List ℕ} {m : ℕ}
    → Logged event_bytes xs old mid m → size event_bytes (xs ++ ys) ≤ length old → size event_bytes ys ≤ length (part mid m)
rest_fits {xs} ys l h = room (size event_bytes ys) l (omega (arith, size_append event_bytes xs ys))
