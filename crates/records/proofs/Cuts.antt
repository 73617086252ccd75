-- A walk along a list of records. Assumes nothing.
use Prim.Native.Nat.{ℕ, zero, suc, ◌+◌, ◌*◌, ◌/◌, ◌%◌, ◌≤◌, ◌<◌}
use native.Mathlib.Omega.{arith}
use native.Mathlib.Nat.{add_comm, div-add-mod', add-div_right, div-eq_of_lt}
use mathlib.Core.Path.{◌≡◌, refl, ap, ◌∙◌}
use mathlib.Core.List.{List, [], ◌∷◌, ◌++◌}
use mathlib.Core.Bool.{Bool, true, false, ◌||◌}
use lib.ListN.{length, drop, length-append}
use lib.Dec.{eqb, lit≤}
use lib.Seq.{take-append_seam, drop-append_seam}
use borrow.Author.Tests.{eqb-true, not-false, ltb-false}
use Rattle.laws.specs.Tests.{any, is_in}
use Rattle.laws.proofs.Every.{first_zero}
use Rattle.record.specs.Records.{everyday_bytes, record_bytes, segment_bytes}
use Rattle.records.specs.Lists.{record_lengths, most_records, list_refusal, cut, records_in}

-- what a list keeps to that is not refused
pub record Listed (n each : ℕ) : Type 0 where
  pub some : 0 < each
  pub whole : n / each * each ≡ n
  pub few : n / each ≤ most_records

pub one_of_lengths : (each : ℕ) → is_in each record_lengths ≡ true → 0 < each
unfolding is_in any
one_of_lengths each e = by (eqb each everyday_bytes) (eqb each record_bytes) (eqb each segment_bytes) refl refl refl e
  where
    by :
        (s t u : Bool) → eqb each everyday_bytes ≡ s → eqb each record_bytes ≡ t → eqb each segment_bytes ≡ u → (s || (t || (u || false))) ≡ true
        → 0 < each
    by true t u f g h e = omega (arith, eqb-true each everyday_bytes f)
    by false true u f g h e = omega (arith, eqb-true each record_bytes g)
    by false false true f g h e = omega (arith, eqb-true each segment_bytes h)
    by false false false f g h e = absurd (let z : ◌≡◌ {A = ℕ} 0 1 = cc in omega arith)

pub listed : (n each : ℕ) → list_refusal n each ≡ 0 → Listed n each
unfolding list_refusal
listed n each e =
    let t = first_zero _ (lit≤ tt, (lit≤ tt, (lit≤ tt, tt))) e in
    let z = eqb-true (n % each) 0 (not-false (eqb (n % each) 0) t.1.0) in
    record {
      some = one_of_lengths each (not-false (is_in each record_lengths) t.0);
      whole = omega (arith, div-add-mod' n each, z);
      few = ltb-false most_records (n / each) t.1.1.0;
    }

-- there are as many records as are cut
pub cut_length : (n each : ℕ) (b : List ℕ) → length (cut n each b) ≡ n
unfolding cut
cut_length zero each b = refl
cut_length (suc n) each b = ap suc (cut_length n each (drop each b))

-- the bytes that are left of a list begin with record x
module _ (each : ℕ) {left : List ℕ} (x rest : List ℕ) (some : 0 < each) (long : length x ≡ each) (next : left ≡ x ++ rest) where
  -- how many records they are
  pub count_next : length left / each ≡ suc (length rest / each)
  count_next =
      let n : length (x ++ rest) ≡ length rest + each = length-append x rest ∙ add_comm (length x) (length rest) ∙ ap (λ (k : ℕ). length rest + k) long in
      rw (next, n) (omega (arith, add-div_right (length rest) some))

  -- that record, and those behind it
  pub records_next : records_in each left ≡ x ∷ records_in each rest
  unfolding records_in cut
  records_next = rw (count_next, next, ← long, take-append_seam x rest, drop-append_seam x rest)

-- none is left
pub count_end : (each : ℕ) (left : List ℕ) → length left < each → length left / each ≡ 0
count_end each left short = div-eq_of_lt short

pub records_end : (each : ℕ) (left : List ℕ) → length left < each → records_in each left ≡ []
unfolding records_in cut
records_end each left short = rw (count_end each left short)
