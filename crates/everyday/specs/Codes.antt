-- How the code holds a row: the four bytes of the digest as one number, 0 where there is no row. `everyday_digest` and `is_everyday`
-- promise what Rows says, so no promise to a caller rests on these.
use Rattle.std.specs.Prelude.{ℕ, ◌+◌, ◌*◌, ◌/◌, ◌%◌, Result, Ok, Err}
use Rattle.digest.specs.declared.BehaviorDigest.{BehaviorDigest}
use Rattle.everyday.specs.Rows.{everyday_digest}
use Rattle.laws.specs.declared.refusals.Refusal.{Refusal}

abbrev pub code_of : Result BehaviorDigest Refusal → ℕ
code_of (Ok d) = d.behavior + 256 * d.operands + 65536 * d.extra
code_of (Err r) = 0

abbrev pub digest_from : ℕ → BehaviorDigest
digest_from code = record { behavior = code % 256; operands = code / 256 % 256; extra = code / 65536 }

unfoldable pub code_at : ℕ → ℕ
code_at o = code_of (everyday_digest o)
