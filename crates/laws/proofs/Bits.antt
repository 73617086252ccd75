-- What code finds of a bit. Assumes nothing.
use Prim.Native.Nat.{ℕ, ◌^◌, ◌/◌, ◌%◌}
use mathlib.Core.Path.{◌≡◌}
use mathlib.Core.Bool.{true, false}
use borrow.Author.Tests.{eq-eqb, ne_eqb}
use Rattle.laws.specs.Words.{bit}

pub bit_set : (v k : ℕ) → v / 2 ^ k % 2 ≡ 1 → bit v k ≡ true
unfolding bit
bit_set v k e = eq-eqb (v / 2 ^ k % 2) 1 e

pub bit_clear : (v k : ℕ) → (v / 2 ^ k % 2 ≡ 1 → ⊥) → bit v k ≡ false
unfolding bit
bit_clear v k ne = ne_eqb (v / 2 ^ k % 2) 1 ne
