-- What the judge names: the first record that lacks a register, and its lowest. Assumes nothing.
use Prim.Native.Nat.{ℕ, zero, suc, ◌+◌, ◌^◌, ◌≤◌, ◌<◌}
use native.Mathlib.Omega.{arith}
use mathlib.Core.Path.{◌≡◌, refl, sym}
use mathlib.Core.List.{List, [], ◌∷◌}
use mathlib.Core.Bool.{Bool, true, false, not, cond, ◌&&◌}
use lib.ListN.{length, get_or}
use lib.Dec.{ltb, eqb}
use borrow.Author.Tests.{eqb-true, eqb-false, not-true}
use Rattle.laws.specs.Words.{bit}
use Rattle.laws.specs.Tests.{is_in}
use Rattle.std.proofs.lemmas.Bool.{and_parts}
use Rattle.fetching.specs.Needs.{needs_of}
use Rattle.fetching.specs.Judging.{set_bits, all_in, first_from, lacked_by, judge_from, judge}
use Rattle.fetching.specs.Promises.{Lacks, JudgeNames}
use Rattle.fetching.specs.declared.Judgement.TheVariants.{NoSuchBit, Lacking}
use Rattle.fetching.proofs.Members.{in_true, true_in, all_false, need_low}
use Rattle.fetching.proofs.Judged.{accepted_not}

-- the lowest number that passes a test, where one does
module _ (p : ℕ → Bool) where
  abbrev Lowest : ℕ → ℕ → Type 0
  Lowest k r = (p r ≡ true) × ((j : ℕ) → k ≤ j → j < r → p j ≡ false)

  first_from_lem : (k n j : ℕ) → k ≤ j → j < k + n → p j ≡ true → Lowest k (first_from p k n)
  unfolding first_from
  first_from_lem k zero j l m e = absurd (omega (arith, l, m))
  first_from_lem k (suc n) j l m e = go (λ h. first_from_lem (k + 1) n j h (omega arith) e) (p k) refl
    where
      at_front : (r : ℕ) → p k ≡ false → Lowest (k + 1) r → (i : ℕ) → k ≤ i → i < r → p i ≡ false
      at_front r h q i a b = by (eqb i k) refl
        where
          by : (t : Bool) → eqb i k ≡ t → p i ≡ false
          by true g = rw (eqb-true i k g) h
          by false g = let ne : i ≡ k → ⊥ = eqb-false i k g in q.1 i (omega (arith, ne)) b

      go : (k + 1 ≤ j → Lowest (k + 1) (first_from p (k + 1) n)) → (t : Bool) → p k ≡ t → Lowest k (cond t k (first_from p (k + 1) n))
      go f true h = (h, λ i a b. absurd (omega (arith, a, b)))
      go f false h =
          let ne : j ≡ k → ⊥ = λ g. (let w : p k ≡ true = rw (← g) e in absurd (let q : ◌≡◌ {A = ℕ} 0 1 = cc in omega arith)) in
          let q = f (omega (arith, ne)) in
          (q.0, at_front (first_from p (k + 1) n) h q)

not_both : (a b : Bool) → a ≡ true → (a && not b) ≡ false → b ≡ true
not_both true true e h = refl
not_both true false e h = sym h
not_both false b e h = absurd (let q : ◌≡◌ {A = ℕ} 0 1 = cc in omega arith)

pub lacked_is : (v : ℕ) (b : List ℕ) → all_in v (needs_of b) ≡ false → Lacks v b (lacked_by v b)
unfolding lacked_by
lacked_is v b e =
    let r = all_false v (needs_of b) e in
    let p : ℕ → Bool = λ (k : ℕ). is_in k (needs_of b) && not (bit v k) in
    let q = first_from_lem p 0 set_bits r.0 (omega arith) (omega (arith, need_low b r.0 r.1)) (rw (true_in r.0 (needs_of b) r.1, r.2)) in
    let k = first_from p 0 set_bits in (
      in_true k (needs_of b) ((and_parts (is_in k (needs_of b)) (not (bit v k)) q.0).0),
      not-true (bit v k) ((and_parts (is_in k (needs_of b)) (not (bit v k)) q.0).1),
      λ j l m. not_both (is_in j (needs_of b)) (bit v j) (true_in j (needs_of b) m) (q.1 j (omega arith) l),
    )

high_lacks : (i k : ℕ) → NoSuchBit ≡ Lacking i k → ⊥
high_lacks i k e = let z : ◌≡◌ {A = ℕ} 0 1 = cc in omega arith

lacks_record : {i j k l : ℕ} → Lacking i k ≡ Lacking j l → i ≡ j
lacks_record e = cc

lacks_register : {i j k l : ℕ} → Lacking i k ≡ Lacking j l → k ≡ l
lacks_register e = cc

module _ (v k : ℕ) where
  abbrev Named : List (List ℕ) → ℕ → Type 0
  Named bs m = (m < length bs) × Lacks v (get_or bs m []) k × ((j : ℕ) → j < m → all_in v (needs_of (get_or bs j [])) ≡ true)

  from_names : (i : ℕ) (bs : List (List ℕ)) (j : ℕ) → judge_from v i bs ≡ Lacking j k → (m : ℕ) × (j ≡ i + m) × Named bs m
  unfolding judge_from
  from_names i [] j e = absurd (accepted_not j k (sym e))
  from_names i (b ∷ bs) j e = go (λ h. from_names (i + 1) bs j h) (all_in v (needs_of b)) refl e
    where
      before : (m : ℕ) → all_in v (needs_of b) ≡ true → Named bs m → (l : ℕ) → l < suc m → all_in v (needs_of (get_or (b ∷ bs) l [])) ≡ true
      before m h q zero a = h
      before m h q (suc l) a = q.2 l (omega arith)

      go :
          (judge_from v (i + 1) bs ≡ Lacking j k → (m : ℕ) × (j ≡ i + 1 + m) × Named bs m)
          → (t : Bool) → all_in v (needs_of b) ≡ t → cond t (judge_from v (i + 1) bs) (Lacking i (lacked_by v b)) ≡ Lacking j k
          → (m : ℕ) × (j ≡ i + m) × Named (b ∷ bs) m
      go f true h e = let r = f e in (suc r.0, omega (arith, r.1), (omega (arith, r.2.0), r.2.1, before r.0 h r.2))
      go f false h e =
          (0, omega (arith, lacks_record e), (omega arith, rw (lacks_register e) at (lacked_is v b h), λ l a. absurd (omega (arith, a))))

pub judge_names : JudgeNames
unfolding judge
judge_names v bs i k e = go (ltb v (2 ^ set_bits)) e
  where
    go : (t : Bool) → cond t (judge_from v 0 bs) NoSuchBit ≡ Lacking i k → Named v k bs i
    go true e = let r = from_names v k 0 bs i e in let z : r.0 ≡ i = omega (arith, r.1) in rw z at r.2
    go false e = absurd (high_lacks i k e)
