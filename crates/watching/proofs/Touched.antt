-- Which of the variable's bytes a store touches, as bits. Assumes nothing.
use Rattle.std.proofs.Common.{◌≡◌, ℕ, suc, ◌+◌, ◌-◌, ◌*◌, ◌%◌, ◌^◌, ◌<◌, ◌≤◌, Bool, true, cond, leb, arith, leb-true}
use native.Mathlib.Nat.{pow-le-pow_right, sub_self, sub-zero}
use Rattle.laws.specs.Tests.{is_in}
use Rattle.std.proofs.lemmas.Bool.{and_parts}
use Rattle.definition.specs.Addresses.{word}
use Rattle.sets.specs.Sets.{bits_from}
use Rattle.sets.proofs.Bits.{bits_below}
use Rattle.watching.specs.Verdicts.{is_length, bytes_from}
use Rattle.watching.specs.declared.verdicts.Variable.{Variable}

-- byte i of the variable is among the n bytes from an address on
abbrev pub touching : Variable → ℕ → ℕ → ℕ → Bool
touching v a n i = is_in ((v.address + i) % word) (bytes_from a n)

module _ (p : ℕ → Bool) where
  -- one byte more, below the others
  pub bits_more : (i length : ℕ) → 0 < i → i ≤ length → bits_from p (i - 1) (length - (i - 1)) ≡ cond {A = ℕ} (p (i - 1)) 1 0 + 2 * bits_from p i (length - i)
  unfolding bits_from
  bits_more i length h l =
      let n : length - (i - 1) ≡ suc (length - i) = omega arith in
      let k : i - 1 + 1 ≡ i = omega arith in
      rw (n, k)

  pub none_left : (length : ℕ) → 0 ≡ bits_from p length (length - length)
  unfolding bits_from
  none_left length = rw (sub_self length)

  pub all_done : (length i : ℕ) → i ≡ 0 → bits_from p i (length - i) ≡ bits_from p 0 length
  all_done length i e = rw (e, sub-zero length)

  -- where a byte is still to come, there is room for its bit
  pub bits_few : (length i : ℕ) → is_length length ≡ true → 0 < i → bits_from p i (length - i) < 2 ^ 7
  bits_few length i h k =
      let most = leb-true length 8 ((and_parts (leb 1 length) (leb length 8) h).1) in
      let few : length - i ≤ 7 = omega arith in
      let below : 2 ^ (length - i) ≤ 2 ^ 7 = pow-le-pow_right (omega arith) few in
      omega (arith, bits_below p i (length - i), below)
