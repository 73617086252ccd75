-- What the answer to a file's bytes says, for those who call. Assumes nothing.
use Rattle.std.specs.Prelude.{Ok, Err, Result}
use Prim.Native.Nat.{ℕ, ◌+◌, ◌^◌, ◌<◌, ◌≤◌}
use native.Mathlib.Omega.{arith}
use mathlib.Core.Path.{◌≡◌, refl, sym, ap, ◌∙◌}
use mathlib.Core.Logic.{◌⊎◌, inl, inr}
use mathlib.Core.List.{List}
use mathlib.Core.Bool.{Bool, true, false, cond, ◌&&◌}
use lib.ListN.{length, get_or}
use lib.Dec.{ltb, eqb}
use borrow.Author.Tests.{eqb-true, ltb-true, eq-eqb, ne_eqb, lt-ltb, le-ltb}
use Rattle.laws.specs.Words.{number_at}
use Rattle.std.proofs.lemmas.Bool.{and_parts}
use Rattle.registers.specs.Files.{file_kind, based_kind, file_bytes, based_bytes, file_values, file_length, file_of, is_file, FileLong, file_answer}
use Rattle.registers.specs.Told.{file_refusal}
use Rattle.laws.specs.Refusals.{answered_by, refused_by, refusal_number}
use Rattle.laws.specs.declared.refusals.Refusal.{Refusal}
use Rattle.laws.specs.declared.refusals.Refusal.TheVariants.{BadFile}

-- the number is the refusal
pub file_number : (b : List ℕ) → refused_by (file_answer b) ≡ cond (is_file b) 0 3
unfolding file_answer
file_number b = by (is_file b)
  where
    by : (t : Bool) → refused_by (cond t (Ok (file_of b)) (Err BadFile)) ≡ cond t 0 3
    by true = refl
    by false = refl

-- and where it is 0 the file is answered
pub file_read : (b : List ℕ) → is_file b ≡ true → file_answer b ≡ Ok (file_of b)
unfolding file_answer
file_read b e = rw e

-- The same by the refusal that was found
module _ (b : List ℕ) where
  file_if : (t : Bool) → is_file b ≡ t → file_refusal b ≡ cond t 0 3
  unfolding file_refusal
  file_if t e = rw e

  pub is_file_lem : file_refusal b ≡ 0 → is_file b ≡ true
  is_file_lem z = by (is_file b) refl
    where
      by : (t : Bool) → is_file b ≡ t → is_file b ≡ true
      by true e = e
      by false e = absurd (omega (arith, file_if false e, z))

  pub is_none : (file_refusal b ≡ 0 → ⊥) → is_file b ≡ false
  is_none ne = by (is_file b) refl
    where
      by : (t : Bool) → is_file b ≡ t → is_file b ≡ false
      by true e = absurd (ne (file_if true e))
      by false e = e

  -- a kind's length is that of one of the two
  kind_long : (k n : ℕ) → 0 < n → n ≡ file_length k → (file_bytes ≤ n) × ((n ≡ file_bytes) ⊎ (n ≡ based_bytes))
  unfolding file_length
  kind_long k n h e = by (eqb k file_kind) (eqb k based_kind) e
    where
      by : (s t : Bool) → n ≡ cond s file_bytes (cond t based_bytes 0) → (file_bytes ≤ n) × ((n ≡ file_bytes) ⊎ (n ≡ based_bytes))
      by true t e = (omega arith, inl e)
      by false true e = (omega arith, inr e)
      by false false e = absurd (omega (arith, h, e))

  pub file_long : file_refusal b ≡ 0 → (file_bytes ≤ length b) × FileLong b
  unfolding is_file
  file_long z =
      let some = ltb 0 (length b) in
      let long = eqb (length b) (file_length (get_or b 0 0)) in
      let both = (and_parts (some && long) (ltb (number_at b 1 4) (2 ^ file_values (get_or b 0 0))) (is_file_lem z)).0 in
      kind_long (get_or b 0 0) (length b) (ltb-true 0 (length b) ((and_parts some long both).0)) (eqb-true (length b) (file_length (get_or b 0 0)) ((and_parts some long both).1))

  pub bad : 3 ≡ file_refusal b → Err BadFile ≡ answered_by (file_refusal b) (tt {0})
  bad e = rw (← e)

  pub good : 0 ≡ file_refusal b → Ok tt ≡ answered_by (file_refusal b) (tt {0})
  good e = rw (← e)

  -- The refusal, test by test
  pub refused_empty : length b ≡ 0 → 3 ≡ file_refusal b
  unfolding file_refusal is_file
  refused_empty e = rw (le-ltb 0 (length b) (omega arith))

  module _ (some : length b ≡ 0 → ⊥) {n : ℕ} (e : n ≡ file_length (get_or b 0 0)) where
    pub refused_length : (length b ≡ n → ⊥) → 3 ≡ file_refusal b
    unfolding file_refusal is_file
    refused_length ne = rw (lt-ltb 0 (length b) (omega (arith, some)), ne_eqb (length b) (file_length (get_or b 0 0)) (λ (q : length b ≡ file_length (get_or b 0 0)). ne (q ∙ sym e)))

    module _ (long : length b ≡ n) where
      pub has_bits : 1 + 4 ≤ length b
      has_bits = omega (arith, (kind_long (get_or b 0 0) (length b) (omega (arith, some)) (long ∙ e)).0)

      module _ {u m : ℕ} (p : u ≡ number_at b 1 4) (q : m ≡ 2 ^ file_values (get_or b 0 0)) where
        pub refused_bits : m ≤ u → 3 ≡ file_refusal b
        unfolding file_refusal is_file
        refused_bits h = rw (lt-ltb 0 (length b) (omega (arith, some)), eq-eqb (length b) (file_length (get_or b 0 0)) (long ∙ e), le-ltb (number_at b 1 4) (2 ^ file_values (get_or b 0 0)) (rw (p, q) at h))

        pub not_refused : u < m → 0 ≡ file_refusal b
        unfolding file_refusal is_file
        not_refused h = rw (lt-ltb 0 (length b) (omega (arith, some)), eq-eqb (length b) (file_length (get_or b 0 0)) (long ∙ e), lt-ltb (number_at b 1 4) (2 ^ file_values (get_or b 0 0)) (rw (p, q) at h))

  -- what is answered by the refusal's number
  pub file_answered : file_answer b ≡ answered_by (file_refusal b) (file_of b)
  unfolding file_answer file_refusal
  file_answered = by (is_file b)
    where
      by : (t : Bool) → cond t (Ok (file_of b)) (Err BadFile) ≡ answered_by (cond t 0 3) (file_of b)
      by true = refl
      by false = refl

  pub number_filed : {e : Refusal} {r : Result (Unit {0}) Refusal} → r ≡ answered_by (file_refusal b) tt → r ≡ Err e → refusal_number e ≡ file_refusal b
  unfolding file_refusal
  number_filed {e} {r} p q = by (is_file b) (sym q ∙ p)
    where
      by : (t : Bool) → Err e ≡ answered_by (cond t 0 3) (tt {0}) → refusal_number e ≡ cond t 0 3
      by true h = absurd (cc h)
      by false h = ap refused_by h

  pub bad_alone : {e : Refusal} {r : Result (Unit {0}) Refusal} → r ≡ answered_by (file_refusal b) tt → r ≡ Err e → e ≡ BadFile
  unfolding file_refusal
  bad_alone {e} {r} p q = by (is_file b) (sym q ∙ p)
    where
      by : (t : Bool) → Err e ≡ answered_by (cond t 0 3) (tt {0}) → e ≡ BadFile
      by true h = absurd (cc h)
      by false h = cc h
