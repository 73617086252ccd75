-- The parts of a case lie in a list of n bytes, one after the other.
use Rattle.std.specs.Prelude.{ℕ, ◌≤◌, Option, Some, None}
use Rattle.replay.specs.declared.cases.Case.{Case}

abbrev pub Parted : ℕ → Case → Type 0
Parted n c = (c.subject ≤ c.written) × (c.written ≤ c.next) × (c.next ≤ n)

abbrev pub Whole : ℕ → Option Case → Type 0
Whole n (Some c) = Parted n c
Whole n None = Unit {0}
