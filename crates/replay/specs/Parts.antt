-- Parts of the list: a list of n bytes has all of a part, or the part is missing.
use Rattle.std.specs.Prelude.{◌≡◌, ℕ, ◌+◌, ◌<◌, ◌≤◌, Option, Some, None}
use Rattle.std.specs.declared.ops.Range.{Range}

abbrev pub IsPart : ℕ → ℕ → ℕ → Option (Range ℕ) → Type 0
IsPart n at count (Some part) = (part.start ≡ at) × (part.end ≡ at + count) × (part.end ≤ n)
IsPart n at count None = n < at + count

abbrev pub Within : ℕ → Option (Range ℕ) → Type 0
Within n (Some part) = (part.start ≤ part.end) × (part.end ≤ n)
Within n None = Unit {0}
