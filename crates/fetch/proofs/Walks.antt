-- The walks: along the bits of a set, and along the records of a list. Assumes nothing.
use Prim.Native.Nat.{ℕ, zero, suc, ◌+◌, ◌≤◌, ◌<◌}
use native.Mathlib.Omega.{arith}
use mathlib.Core.Path.{◌≡◌, refl, sym, ap, ◌∙◌}
use mathlib.Core.List.{List, ◌++◌}
use Rattle.std.proofs.Common.{Option, Some, None, MatchOption}
use mathlib.Core.Bool.{Bool, true, false, not, cond, ◌&&◌, ◌||◌}
use lib.ListN.{length}
use lib.Dec.{eqb}
use borrow.Author.Tests.{eqb-true, eqb-false}
use Rattle.laws.specs.Words.{bit}
use Rattle.laws.specs.Lists.{each}
use Rattle.laws.specs.Tests.{is_in}
use Rattle.std.proofs.lemmas.Bool.{and_parts}
use Rattle.sets.specs.Sets.{joined}
use Rattle.sets.proofs.Bits.{bit_none}
use Rattle.sets.proofs.Joined.{joined_append, joined_bit, joined_is}
use Rattle.records.specs.Lists.{records_in}
use Rattle.records.proofs.Cuts.{records_next, records_end}
use Rattle.fetching.specs.Needs.{needs_of}
use Rattle.fetching.specs.Judging.{set_bits, all_in, first_from, lacked_by, judge_from, proposed}
use Rattle.fetching.specs.declared.Judgement.TheVariants.{Accepted, Lacking}
use Rattle.fetching.proofs.Members.{in_true, true_in, all_mem, all_false, mem_each, need_low, every_mem}
use Rattle.fetch.specs.Parts.{lacking}

-- what is said of an answer, said in other words
pub on_either :
    {A : Type 0} (r : Option A) {P Q : Type 0} {F G : A → Type 0}
    → MatchOption r P F → (P → Q) → ((x : A) → F x → G x) → MatchOption r Q G
on_either None h f g = f h
on_either (Some x) h f g = g x h

-- the first of the numbers from k on that passes a test
first_is :
    (p : ℕ → Bool) (k n i : ℕ) → k ≤ i → i < k + n → p i ≡ true → ((j : ℕ) → k ≤ j → j < i → p j ≡ false) → first_from p k n ≡ i
unfolding first_from
first_is p k zero i l h e before = absurd (omega (arith, l, h))
first_is p k (suc n) i l h e before =
    by (λ ne. first_is p (k + 1) n i (omega (arith, ne, l)) (omega (arith, h)) e (λ j a b. before j (omega (arith, a)) b)) (eqb i k) refl
  where
    by : ((i ≡ k → ⊥) → first_from p (k + 1) n ≡ i) → (t : Bool) → eqb i k ≡ t → cond (p k) k (first_from p (k + 1) n) ≡ i
    by rest true s = let same : i ≡ k = eqb-true i k s in let here : p k ≡ true = rw (← same) e in rw here (sym same)
    by rest false s =
        let ne : i ≡ k → ⊥ = eqb-false i k s in
        rw (before k (omega arith) (omega (arith, ne, l))) (rest ne)

-- The lowest bit that a record lacks, as the code finds it in its needs m
module _ (set : ℕ) (b : List ℕ) {m : ℕ} (are : m ≡ joined 0 (needs_of b)) where
  needed : (j : ℕ) → bit m j ≡ is_in j (needs_of b)
  needed j = ap (λ (v : ℕ). bit v j) are ∙ joined_bit 0 (needs_of b) j ∙ ap (λ (t : Bool). t || is_in j (needs_of b)) (bit_none j)

  same : (j : ℕ) → lacking m set j ≡ (is_in j (needs_of b) && not (bit set j))
  same j = rw (needed j)

  lacked_found : {k : ℕ} → k < set_bits → lacking m set k ≡ true → ((j : ℕ) → j < k → lacking m set j ≡ false) → lacked_by set b ≡ k
  unfolding lacked_by
  lacked_found {k} l e before =
      first_is (λ (j : ℕ). is_in j (needs_of b) && not (bit set j)) 0 set_bits k (omega arith) (omega (arith, l)) (sym (same k) ∙ e) (λ j a h. sym (same j) ∙ before j h)

  lacked_none : ((j : ℕ) → j < set_bits → lacking m set j ≡ false) → all_in set (needs_of b) ≡ true
  lacked_none none = go (all_in set (needs_of b)) refl
    where
      go : (t : Bool) → all_in set (needs_of b) ≡ t → t ≡ true
      go true e = refl
      go false e =
          let r = all_false set (needs_of b) e in
          let lacks : lacking m set r.0 ≡ true = rw (same r.0, true_in r.0 (needs_of b) r.1, r.2) in
          absurd (let clash : ◌≡◌ {A = Bool} true false = sym lacks ∙ none r.0 (omega (arith, need_low b r.0 r.1)) in cc)

  lacked_some : (k : ℕ) → lacking m set k ≡ true → all_in set (needs_of b) ≡ false
  lacked_some k e = go (all_in set (needs_of b)) refl
    where
      lacks : (is_in k (needs_of b) && not (bit set k)) ≡ true
      lacks = sym (same k) ∙ e

      go : (t : Bool) → all_in set (needs_of b) ≡ t → t ≡ false
      go true a =
          let has = all_mem set (needs_of b) a k (in_true k (needs_of b) ((and_parts (is_in k (needs_of b)) (not (bit set k)) lacks).0)) in
          sym (rw has at ((and_parts (is_in k (needs_of b)) (not (bit set k)) lacks).1))
      go false a = refl

-- Along the bytes that are left of the records of n bytes: the first record, and those behind it
module _ (n : ℕ) {left : List ℕ} (x rest : List ℕ) (some : 0 < n) (long : length x ≡ n) (next : left ≡ x ++ rest) where
  module _ (set i : ℕ) {m : ℕ} (are : m ≡ joined 0 (needs_of x)) where
    pub judged_here :
        {k : ℕ} → (k < set_bits) × (lacking m set k ≡ true) × ((j : ℕ) → j < k → lacking m set j ≡ false)
        → Lacking i k ≡ judge_from set i (records_in n left)
    unfolding judge_from
    judged_here {k} h =
        rw (records_next n x rest some long next, lacked_some set x are k h.1, lacked_found set x are h.0 h.1 h.2)

    pub judged_next :
        ((j : ℕ) → j < set_bits → lacking m set j ≡ false)
        → judge_from set (i + 1) (records_in n rest) ≡ judge_from set i (records_in n left)
    unfolding judge_from
    judged_next none = rw (records_next n x rest some long next, lacked_none set x are none)

  pub joined_next :
      (set : ℕ) {r : ℕ} → r ≡ joined set (needs_of x)
      → joined r (each needs_of (records_in n rest)) ≡ joined set (each needs_of (records_in n left))
  unfolding each
  joined_next set e =
      rw (records_next n x rest some long next, joined_append set (needs_of x) (each needs_of (records_in n rest)), e)

-- none is left
module _ (n : ℕ) (left : List ℕ) (short : length left < n) where
  pub judged_end : (set i : ℕ) → Accepted ≡ judge_from set i (records_in n left)
  unfolding judge_from
  judged_end set i = rw (records_end n left short)

  pub joined_end : (set : ℕ) → set ≡ joined set (each needs_of (records_in n left))
  unfolding joined each
  joined_end set = rw (records_end n left short)

-- all of them, joined to the empty set, are proposed
pub joined_all : (bs : List (List ℕ)) → joined 0 (each needs_of bs) ≡ proposed bs
unfolding proposed
joined_all bs =
    joined_is set_bits (each needs_of bs)
    (every_mem (λ (k : ℕ). k < set_bits) (each needs_of bs)
    (λ k m. let r = mem_each needs_of bs k m in omega (arith, need_low r.0 k r.2)))
