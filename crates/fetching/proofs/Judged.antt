-- The judge is right, and the proposer's set is the least that it accepts. Assumes nothing.
use Prim.Native.Nat.{ℕ, ◌+◌, ◌^◌, ◌≤◌, ◌<◌}
use native.Mathlib.Omega.{arith}
use native.Mathlib.Nat.{zero-add}
use mathlib.Core.Path.{◌≡◌, refl, sym, ◌∙◌}
use mathlib.Core.Logic.{◌↔◌}
use mathlib.Core.List.{List, [], ◌∷◌, ◌++◌, Memᴰ}
use mathlib.Core.Bool.{Bool, true, false, cond, ◌&&◌, ◌||◌, or_assoc}
use lib.Dec.{ltb}
use borrow.Author.Tests.{lt-ltb, ltb-true, ltb-false}
use Rattle.laws.specs.Words.{bit}
use Rattle.laws.specs.Lists.{each}
use Rattle.laws.specs.Tests.{any, is_in}
use Rattle.std.proofs.lemmas.Bool.{and_parts}
use Rattle.laws.proofs.Lists.{each_append}
use Rattle.sets.proofs.Bits.{bits_are, bits_below}
use Rattle.fetching.specs.Needs.{needs_of}
use Rattle.fetching.specs.Judging.{set_bits, all_in, accepts, lacked_by, judge_from, judge, proposed}
use Rattle.fetching.specs.Promises.{Suffices, JudgeIsRight, JudgeAgrees, ProposedAccepted, ProposedLeast, BlocksUnite}
use Rattle.fetching.specs.declared.Judgement.TheVariants.{Accepted, NoSuchBit, Lacking}
use Rattle.fetching.proofs.Members.{both, in_true, true_in, all_mem, mem_all, all_append, mem_each, each_mem, need_low}

pub judge_is_right : JudgeIsRight
unfolding accepts
judge_is_right v bs = (to, from)
  where
    to : (ltb v (2 ^ set_bits) && all_in v (each needs_of bs)) ≡ true → (v < 2 ^ set_bits) × Suffices v bs
    to e = (
      ltb-true v (2 ^ set_bits) ((and_parts (ltb v (2 ^ set_bits)) (all_in v (each needs_of bs)) e).0),
      λ b m k n. all_mem v (each needs_of bs) ((and_parts (ltb v (2 ^ set_bits)) (all_in v (each needs_of bs)) e).1) k (each_mem needs_of bs b k m n),
    )

    from : v < 2 ^ set_bits → Suffices v bs → (ltb v (2 ^ set_bits) && all_in v (each needs_of bs)) ≡ true
    from h f =
        both (ltb v (2 ^ set_bits)) (all_in v (each needs_of bs)) (lt-ltb v (2 ^ set_bits) h)
        (mem_all v (each needs_of bs) (λ k m. let r = mem_each needs_of bs k m in f r.0 r.1 k r.2))

-- the bits of the proposed set
module _ (bs : List (List ℕ)) where
  abbrev needed : List ℕ
  needed = each needs_of bs

  pub proposed_bit : (k : ℕ) → bit (proposed bs) k ≡ (ltb k set_bits && is_in k needed)
  unfolding proposed
  proposed_bit k = bits_are (λ (j : ℕ). is_in j needed) 0 set_bits k ∙ rw (zero-add k)

  pub proposed_in : (k : ℕ) → bit (proposed bs) k ≡ true → Memᴰ k needed
  proposed_in k e = in_true k needed ((and_parts (ltb k set_bits) (is_in k needed) (sym (proposed_bit k) ∙ e)).1)

  need_small : (k : ℕ) → Memᴰ k needed → k < set_bits
  need_small k m = let r = mem_each needs_of bs k m in omega (arith, need_low r.0 k r.2)

  in_proposed : (k : ℕ) → Memᴰ k needed → bit (proposed bs) k ≡ true
  in_proposed k m = proposed_bit k ∙ both (ltb k set_bits) (is_in k needed) (lt-ltb k set_bits (need_small k m)) (true_in k needed m)

pub proposed_accepted : ProposedAccepted
unfolding accepts proposed
proposed_accepted bs =
    both (ltb (proposed bs) (2 ^ set_bits)) (all_in (proposed bs) (each needs_of bs))
    (lt-ltb (proposed bs) (2 ^ set_bits) (bits_below (λ (k : ℕ). is_in k (each needs_of bs)) 0 set_bits))
    (mem_all (proposed bs) (each needs_of bs) (in_proposed bs))

pub proposed_least : ProposedLeast
unfolding accepts
proposed_least v bs e k h = all_mem v (each needs_of bs) ((and_parts (ltb v (2 ^ set_bits)) (all_in v (each needs_of bs)) e).1) k (proposed_in bs k h)

-- two lists, one after the other
and_both : (s a b : Bool) → (s && (a && b)) ≡ (s && a && (s && b))
and_both true a b = refl
and_both false a b = refl

and_or : (s a b : Bool) → (s && (a || b)) ≡ (s && a || s && b)
and_or true a b = refl
and_or false a b = refl

in_append : (k : ℕ) (xs ys : List ℕ) → is_in k (xs ++ ys) ≡ (is_in k xs || is_in k ys)
unfolding is_in any
in_append k [] ys = refl
in_append k (x ∷ xs) ys = rw (in_append k xs ys, or_assoc)

pub blocks_unite : BlocksUnite
unfolding accepts
blocks_unite bs cs = (
  λ v. rw (each_append needs_of bs cs, all_append v (each needs_of bs) (each needs_of cs))
      (and_both (ltb v (2 ^ set_bits)) (all_in v (each needs_of bs)) (all_in v (each needs_of cs))),
  λ k.
      proposed_bit (bs ++ cs) k
      ∙ rw (each_append needs_of bs cs, in_append k (each needs_of bs) (each needs_of cs), proposed_bit bs k, proposed_bit cs k)
      (and_or (ltb k set_bits) (is_in k (each needs_of bs)) (is_in k (each needs_of cs))),
)

-- What the judge says
pub accepted_not : (i k : ℕ) → Lacking i k ≡ Accepted → ⊥
accepted_not i k e = let z : ◌≡◌ {A = ℕ} 0 1 = cc in omega arith

high_not : NoSuchBit ≡ Accepted → ⊥
high_not e = let z : ◌≡◌ {A = ℕ} 0 1 = cc in omega arith

lacking_high : (i k : ℕ) → Lacking i k ≡ NoSuchBit → ⊥
lacking_high i k e = let z : ◌≡◌ {A = ℕ} 0 1 = cc in omega arith

module _ (v : ℕ) where
  from_is : (i : ℕ) (bs : List (List ℕ)) → judge_from v i bs ≡ Accepted ↔ all_in v (each needs_of bs) ≡ true
  unfolding judge_from each all_in
  from_is i [] = (λ e. refl, λ e. refl)
  from_is i (b ∷ bs) =
      let r = go (from_is (i + 1) bs) (all_in v (needs_of b)) in
      (λ e. all_append v (needs_of b) (each needs_of bs) ∙ r.0 e, λ e. r.1 (sym (all_append v (needs_of b) (each needs_of bs)) ∙ e))
    where
      go :
          judge_from v (i + 1) bs ≡ Accepted ↔ all_in v (each needs_of bs) ≡ true
          → (t : Bool) → cond t (judge_from v (i + 1) bs) (Lacking i (lacked_by v b)) ≡ Accepted ↔ (t && all_in v (each needs_of bs)) ≡ true
      go f true = f
      go f false = (λ e. absurd (accepted_not i (lacked_by v b) e), λ e. absurd (let q : ◌≡◌ {A = ℕ} 0 1 = cc in omega arith))

  from_low : (i : ℕ) (bs : List (List ℕ)) → judge_from v i bs ≡ NoSuchBit → ⊥
  unfolding judge_from
  from_low i [] e = high_not (sym e)
  from_low i (b ∷ bs) e = go (from_low (i + 1) bs) (all_in v (needs_of b)) e
    where
      go : (judge_from v (i + 1) bs ≡ NoSuchBit → ⊥) → (t : Bool) → cond t (judge_from v (i + 1) bs) (Lacking i (lacked_by v b)) ≡ NoSuchBit → ⊥
      go f true e = f e
      go f false e = lacking_high i (lacked_by v b) e

pub judge_agrees : JudgeAgrees
unfolding judge accepts
judge_agrees v bs = (by (ltb v (2 ^ set_bits)), high (ltb v (2 ^ set_bits)) refl)
  where
    by : (t : Bool) → cond t (judge_from v 0 bs) NoSuchBit ≡ Accepted ↔ (t && all_in v (each needs_of bs)) ≡ true
    by true = from_is v 0 bs
    by false = (λ e. absurd (high_not e), λ e. absurd (let q : ◌≡◌ {A = ℕ} 0 1 = cc in omega arith))

    high : (t : Bool) → ltb v (2 ^ set_bits) ≡ t → cond t (judge_from v 0 bs) NoSuchBit ≡ NoSuchBit ↔ 2 ^ set_bits ≤ v
    high true h = (λ e. absurd (from_low v 0 bs e), λ l. absurd (omega (arith, l, ltb-true v (2 ^ set_bits) h)))
    high false h = (λ e. ltb-false v (2 ^ set_bits) h, λ l. refl)
