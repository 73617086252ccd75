-- The low 32 bits with their sign. Assumes nothing.
use Rattle.std.proofs.Common.{ℕ, ◌≡◌, ◌+◌, ◌%◌, ◌<◌, ◌≤◌, add-zero, arith}
use Rattle.laws.proofs.Bits.{bit_set, bit_clear}
use Rattle.definition.specs.Addresses.{signed32}

pub signed_low : (v : ℕ) → v % 4294967296 < 2147483648 → v % 4294967296 ≡ signed32 v
unfolding signed32
signed_low v h = rw (bit_clear v 31 (λ e. omega arith), add-zero)

pub signed_high : (v : ℕ) → 2147483648 ≤ v % 4294967296 → v % 4294967296 + 18446744069414584320 ≡ signed32 v
unfolding signed32
signed_high v h = rw (bit_set v 31 (omega arith))
