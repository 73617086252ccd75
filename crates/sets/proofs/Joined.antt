-- Numbers joined to a set. Assumes nothing.
use Prim.Native.Nat.{ℕ, ◌^◌, ◌<◌}
use native.Mathlib.Nat.{zero-add}
use mathlib.Core.Path.{◌≡◌, refl, sym, ◌∙◌}
use mathlib.Core.List.{List, [], ◌∷◌, ◌++◌}
use mathlib.Core.Bool.{Bool, true, false, ◌||◌}
use lib.Dec.{lit<, eqb}
use lib.Pow.{pow_pos}
use borrow.Author.Tests.{lt-ltb, eqb-true, eqb-false}
use Rattle.laws.specs.Words.{bit}
use Rattle.laws.specs.Tests.{any, is_in}
use Rattle.laws.proofs.Every.{Every}
use Rattle.access.specs.Exceptions.{with_bit}
use Rattle.access.proofs.Bits.{bit_same, bit_other}
use Rattle.access.proofs.Fields.{side_bound}
use Rattle.sets.specs.Sets.{bits_from, joined}
use Rattle.sets.proofs.Bits.{bit_none, bits_are, bits_below, same_bits}

pub joined_append : (v : ℕ) (xs ys : List ℕ) → joined v (xs ++ ys) ≡ joined (joined v xs) ys
unfolding joined
joined_append v [] ys = refl
joined_append v (x ∷ xs) ys = joined_append (with_bit v x true) xs ys

-- a number is in the set that is it, or that was in it before
with_bit_lem : (v k j : ℕ) → bit (with_bit v k true) j ≡ (eqb j k || bit v j)
with_bit_lem v k j = by (eqb j k) refl
  where
    by : (t : Bool) → eqb j k ≡ t → bit (with_bit v k true) j ≡ (t || bit v j)
    by true e = rw (eqb-true j k e) (bit_same v k true)
    by false e = bit_other v k j true (λ (h : k ≡ j). eqb-false j k e (sym h))

or_turn : (a b c : Bool) → (a || b || c) ≡ (b || (a || c))
or_turn true true c = refl
or_turn true false c = refl
or_turn false true c = refl
or_turn false false c = refl

pub joined_bit : (v : ℕ) (ks : List ℕ) (j : ℕ) → bit (joined v ks) j ≡ (bit v j || is_in j ks)
unfolding joined is_in any
joined_bit v [] j = by (bit v j)
  where
    by : (t : Bool) → t ≡ (t || false)
    by true = refl
    by false = refl
joined_bit v (k ∷ ks) j = joined_bit (with_bit v k true) ks j ∙ rw (with_bit_lem v k j) (or_turn (eqb j k) (bit v j) (is_in j ks))

-- numbers below n joined to a set of numbers below n
pub joined_below : (n v : ℕ) (ks : List ℕ) → v < 2 ^ n → Every (λ (k : ℕ). k < n) ks → joined v ks < 2 ^ n
unfolding joined with_bit
joined_below n v [] h e = h
joined_below n v (k ∷ ks) h e = joined_below n (with_bit v k true) ks (side_bound v 2 1 (lit< tt) k n e.0 h) e.1

-- to the empty set: the set of those numbers
pub joined_is : (n : ℕ) (ks : List ℕ) → Every (λ (k : ℕ). k < n) ks → joined 0 ks ≡ bits_from (λ (k : ℕ). is_in k ks) 0 n
joined_is n ks e =
    same_bits n (joined 0 ks) (bits_from (λ (k : ℕ). is_in k ks) 0 n)
    (joined_below n 0 ks (pow_pos n) e)
    (bits_below (λ (k : ℕ). is_in k ks) 0 n)
    (λ j h. joined_bit 0 ks j ∙ rw (bit_none j) (sym (bits_are (λ (k : ℕ). is_in k ks) 0 n j ∙ rw (lt-ltb j n h, zero-add j))))
