-- Numbers that pass a test, as bits. Assumes nothing.
use Prim.Native.Nat.{ℕ, zero, suc, ◌+◌, ◌*◌, ◌^◌, ◌/◌, ◌%◌, ◌≤◌, ◌<◌}
use native.Mathlib.Omega.{arith}
use native.Mathlib.Nat.{div-div-eq-div-mul, pow-succ', zero-div}
use mathlib.Core.Path.{◌≡◌, refl, sym, ◌∙◌}
use mathlib.Core.Bool.{Bool, true, false, cond, ◌&&◌}
use lib.Dec.{ltb, eqb}
use borrow.Author.Tests.{lt-ltb, le-ltb, ltb-true, ltb-false, eqb-true, eqb-false}
use Rattle.laws.specs.Words.{bit}
use Rattle.sets.specs.Sets.{bits_from}

bit_suc : (v k : ℕ) → bit v (suc k) ≡ bit (v / 2) k
unfolding bit
bit_suc v k = rw (pow-succ' 2 k, ← div-div-eq-div-mul v 2 (2 ^ k))

pub bit_none : (k : ℕ) → bit 0 k ≡ false
unfolding bit
bit_none k = rw (zero-div (2 ^ k))

bit_zero : (t : Bool) (r : ℕ) → bit (cond t 1 0 + 2 * r) 0 ≡ t
unfolding bit
bit_zero true r = let z : (1 + 2 * r) / 2 ^ 0 % 2 ≡ 1 = omega arith in rw z
bit_zero false r = let z : (0 + 2 * r) / 2 ^ 0 % 2 ≡ 0 = omega arith in rw z

half : (t : Bool) (r : ℕ) → (cond t 1 0 + 2 * r) / 2 ≡ r
half true r = omega arith
half false r = omega arith

below_suc : (j n : ℕ) (t : Bool) → ltb j n ≡ t → ltb j n ≡ ltb (suc j) (suc n)
below_suc j n true e = e ∙ sym (lt-ltb (suc j) (suc n) (omega (arith, ltb-true j n e)))
below_suc j n false e = e ∙ sym (le-ltb (suc j) (suc n) (omega (arith, ltb-false j n e)))

-- bit j is that of the number k + j, and none is set past the n numbers
pub bits_are : (p : ℕ → Bool) (k n j : ℕ) → bit (bits_from p k n) j ≡ (ltb j n && p (k + j))
unfolding bits_from
bits_are p k zero j = bit_none j ∙ rw (le-ltb j 0 (omega arith))
bits_are p k (suc n) zero =
    let z : k + 0 ≡ k = omega arith in
    bit_zero (p k) (bits_from p (k + 1) n) ∙ rw (lt-ltb 0 (suc n) (omega arith), z)
bits_are p k (suc n) (suc j) =
    let z : k + 1 + j ≡ k + suc j = omega arith in
    rw (bit_suc (cond (p k) 1 0 + 2 * bits_from p (k + 1) n) j, half (p k) (bits_from p (k + 1) n))
    (bits_are p (k + 1) n j ∙ rw (z, below_suc j n (ltb j n) refl))

one_most : (t : Bool) → cond {A = ℕ} t 1 0 ≤ 1
one_most true = omega arith
one_most false = omega arith

-- n bits are below two to the n
pub bits_below : (p : ℕ → Bool) (k n : ℕ) → bits_from p k n < 2 ^ n
unfolding bits_from
bits_below p k zero = omega arith
bits_below p k (suc n) = omega (arith, one_most (p k), bits_below p (k + 1) n)

-- two digits of one bit
same_digit : (a b : ℕ) → a < 2 → b < 2 → eqb a 1 ≡ eqb b 1 → a ≡ b
same_digit a b h k e = by (eqb a 1) (eqb b 1) refl refl e
  where
    by : (s t : Bool) → eqb a 1 ≡ s → eqb b 1 ≡ t → s ≡ t → a ≡ b
    by true true p q e = eqb-true a 1 p ∙ sym (eqb-true b 1 q)
    by true false p q e = absurd (let z : ◌≡◌ {A = ℕ} 0 1 = cc in omega arith)
    by false true p q e = absurd (let z : ◌≡◌ {A = ℕ} 0 1 = cc in omega arith)
    by false false p q e =
        let m : a ≡ 1 → ⊥ = eqb-false a 1 p in
        let n : b ≡ 1 → ⊥ = eqb-false b 1 q in
        omega (arith, h, k, m, n)

-- numbers of n bits with equal bits are equal
pub same_bits : (n v w : ℕ) → v < 2 ^ n → w < 2 ^ n → ((j : ℕ) → j < n → bit v j ≡ bit w j) → v ≡ w
unfolding bit
same_bits zero v w h k e = omega arith
same_bits (suc n) v w h k e =
    let low : v / 2 ^ 0 % 2 ≡ w / 2 ^ 0 % 2 = same_digit (v / 2 ^ 0 % 2) (w / 2 ^ 0 % 2) (omega arith) (omega arith) (e 0 (omega arith)) in
    let high : v / 2 ≡ w / 2 =
    same_bits n (v / 2) (w / 2) (omega arith) (omega arith) (λ j l. sym (bit_suc v j) ∙ e (suc j) (omega arith) ∙ bit_suc w j) in
    omega (arith, low, high)
