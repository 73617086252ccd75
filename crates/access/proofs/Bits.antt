-- One bit of a number, set or cleared. Assumes nothing.
use Prim.Native.Nat.{ℕ, ◌+◌, ◌-◌, ◌*◌, ◌^◌, ◌/◌, ◌%◌, ◌≤◌, ◌<◌}
use native.Mathlib.Nat.{mod-lt, one-mul}
use native.Mathlib.Omega.{arith}
use mathlib.Core.Path.{◌≡◌, ap, ◌∙◌}
use mathlib.Core.Bool.{Bool, true, false, cond}
use lib.Dec.{lit<, eqb}
use borrow.Author.Tests.{eq-eqb}
use lib.Pow.{pow_pos, shl_exact}
use Rattle.laws.specs.Words.{bit}
use Rattle.access.specs.Exceptions.{with_bit}
use Rattle.access.proofs.Fields.{with_own, side_same, side_other, side_bound}

-- bit k, at its place
abbrev pub own : ℕ → ℕ → ℕ
own v k = v / 2 ^ k % 2 * 2 ^ k

module _ (v k : ℕ) where
  -- the number without bit k
  pub cleared : v - own v k ≡ with_bit v k false
  unfolding with_bit
  cleared = omega (arith, with_own v (2 ^ k) 2 (pow_pos k) (lit< tt))

  pub own_le : own v k ≤ v
  own_le = omega (arith, with_own v (2 ^ k) 2 (pow_pos k) (lit< tt))

  pub filled : with_bit v k false + 2 ^ k ≡ with_bit v k true
  unfolding with_bit
  filled = omega arith

  -- a shift that moves nothing out
  pub own_shifted : k < 32 → own v k % 2 ^ 32 ≡ own v k
  own_shifted h = shl_exact 1 k 32 (mod-lt (v / 2 ^ k) (lit< tt)) (omega arith)

pub one_shifted : (k : ℕ) → k < 32 → 1 * 2 ^ k % 2 ^ 32 ≡ 2 ^ k
one_shifted k h = shl_exact 1 k 32 (lit< tt) (omega arith) ∙ one-mul (2 ^ k)

-- the number with its bit cleared, and then with the bit set, as the code computes them
pub without_bit : (v k : ℕ) → k < 32 → v - own v k % 2 ^ 32 ≡ with_bit v k false
without_bit v k h = rw (own_shifted v k h) (cleared v k)

pub within_bit : (v k : ℕ) → k < 32 → v - own v k % 2 ^ 32 + 1 * 2 ^ k % 2 ^ 32 ≡ with_bit v k true
within_bit v k h = rw (without_bit v k h, one_shifted k h) (filled v k)

digit : (b : Bool) → cond b 1 0 < 2
digit true = lit< tt
digit false = lit< tt

-- 32 bits stay 32 bits
pub bit_bound : (v k : ℕ) (b : Bool) → k < 32 → v < 2 ^ 32 → with_bit v k b < 2 ^ 32
unfolding with_bit
bit_bound v k b h l = side_bound v 2 (cond b 1 0) (digit b) k 32 h l

-- the bit that was set, and any other
pub bit_same : (v k : ℕ) (b : Bool) → bit (with_bit v k b) k ≡ b
unfolding bit with_bit
bit_same v k true = eq-eqb _ 1 (side_same v 2 1 (lit< tt) k)
bit_same v k false = ap (λ (n : ℕ). eqb n 1) (side_same v 2 0 (lit< tt) k)

pub bit_other : (v k j : ℕ) (b : Bool) → (k ≡ j → ⊥) → bit (with_bit v k b) j ≡ bit v j
unfolding bit with_bit
bit_other v k j b ne = ap (λ (n : ℕ). eqb n 1) (side_other v 2 (cond b 1 0) (digit b) k j ne)
