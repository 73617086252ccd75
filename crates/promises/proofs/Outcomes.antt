-- What an outcome says of its refusal and its buffer. Assumes nothing.
use Prim.Native.Nat.{ℕ, ◌+◌, ◌-◌, ◌≤◌}
use native.Mathlib.Omega.{arith}
use borrow.Author.Tests.{ltb-false, eqb-true}
use mathlib.Core.Path.{◌≡◌, refl, sym, ap, ◌∙◌}
use mathlib.Core.List.{List, ◌++◌, append_assoc}
use mathlib.Core.Bool.{Bool, true, false, cond}
use lib.ListN.{length, take, drop, length-append, length-take, length-drop}
use lib.Seq.{take_at, drop_at}
use lib.Dec.{ltb, eqb}
use Rattle.laws.specs.Lending.{splice}
use Rattle.std.proofs.lemmas.Bool.{or_parts}
use Rattle.definition.specs.Refusals.{no_room}
use Rattle.definition.specs.Visits.{outcome, number_of, count_of}
use Rattle.definition.specs.declared.Answer.{Answer}
use Rattle.definition.specs.declared.Answer.TheVariants.{Done, Refused, Complex, Short}
use Rattle.promises.specs.Calls.{Refusal, by_number, by_opcode, by_room_lem, Written}

-- the two parts of an outcome, and the answers apart
buffers : {a c : Answer} {p q : List ℕ} → ◌≡◌ {A = Answer × List ℕ} (a, p) (c, q) → p ≡ q
buffers e = ap (λ (r : Answer × List ℕ). r.1) e

answers : {a c : Answer} {p q : List ℕ} → ◌≡◌ {A = Answer × List ℕ} (a, p) (c, q) → a ≡ c
answers e = ap (λ (r : Answer × List ℕ). r.0) e

count_is : (n m : ℕ) → Done n ≡ Done m → n ≡ m
count_is n m e = ap count_of e

pub not_refused : (n k : ℕ) → Done n ≡ Refused k → ⊥
not_refused n k e = let z : ◌≡◌ {A = ℕ} 0 1 = cc in omega arith

pub not_complex : (n o : ℕ) → Done n ≡ Complex o → ⊥
not_complex n o e = let z : ◌≡◌ {A = ℕ} 0 1 = cc in omega arith

pub not_short : (n m : ℕ) → Done n ≡ Short m → ⊥
not_short n m e = let z : ◌≡◌ {A = ℕ} 0 7 = ap number_of e in omega arith

module _ (k o : ℕ) (l p : List ℕ) (s : ℕ) where
  abbrev chosen : Bool → Bool → Bool → Answer × List ℕ
  chosen t u v = cond t (Done (length l), splice p s l) (cond u (Complex o, p) (cond v (Short (length l), p) (Refused k, p)))

  -- the answer's number is the refusal's
  pub number_is : number_of (outcome k o l p s).0 ≡ k
  unfolding outcome
  number_is = go (eqb k 0) (eqb k 4) (eqb k 7) refl refl refl
    where
      go : (t u v : Bool) → eqb k 0 ≡ t → eqb k 4 ≡ u → eqb k 7 ≡ v → number_of (chosen t u v).0 ≡ k
      go true u v e h i = sym (eqb-true k 0 e)
      go false true v e h i = sym (eqb-true k 4 h)
      go false false true e h i = sym (eqb-true k 7 i)
      go false false false e h i = refl

  pub done_is : (n : ℕ) (new : List ℕ) → outcome k o l p s ≡ (Done n, new) → (k ≡ 0) × (n ≡ length l) × (new ≡ splice p s l)
  unfolding outcome
  done_is n new e = go (eqb k 0) (eqb k 4) (eqb k 7) refl e
    where
      go : (t u v : Bool) → eqb k 0 ≡ t → chosen t u v ≡ (Done n, new) → (k ≡ 0) × (n ≡ length l) × (new ≡ splice p s l)
      go true u v h e = (eqb-true k 0 h, sym (count_is (length l) n (answers e)), sym (buffers e))
      go false true v h e = absurd (not_complex n o (sym (answers e)))
      go false false true h e = absurd (not_short n (length l) (sym (answers e)))
      go false false false h e = absurd (not_refused n k (sym (answers e)))

  pub short_is : (n : ℕ) → (outcome k o l p s).0 ≡ Short n → (k ≡ 7) × (n ≡ length l)
  unfolding outcome
  short_is n e = (sym number_is ∙ ap number_of e, go (eqb k 0) (eqb k 4) (eqb k 7) e)
    where
      go : (t u v : Bool) → (chosen t u v).0 ≡ Short n → n ≡ length l
      go true u v e = absurd (not_short (length l) n e)
      go false true v e = absurd (let z : ◌≡◌ {A = ℕ} 4 7 = ap number_of e in omega arith)
      go false false true e = sym (ap count_of e)
      go false false false e = absurd (let z : ◌≡◌ {A = ℕ} 0 7 = cc in omega arith)

  pub refused_is : (a : Answer) (new : List ℕ) → Refusal a → outcome k o l p s ≡ (a, new) → new ≡ p
  unfolding outcome
  refused_is a new r e = go (eqb k 0) (eqb k 4) (eqb k 7) a r e
    where
      go : (t u v : Bool) (a : Answer) → Refusal a → chosen t u v ≡ (a, new) → new ≡ p
      go true u v a (by_number {k = j}) e = absurd (not_refused (length l) j (answers e))
      go true u v a (by_opcode {o = j}) e = absurd (not_complex (length l) j (answers e))
      go true u v a (by_room_lem {n = j}) e = absurd (not_short (length l) j (answers e))
      go false true v a r e = sym (buffers e)
      go false false true a r e = sym (buffers e)
      go false false false a r e = sym (buffers e)

-- bytes laid over a buffer that has room for them
pub spliced : (l p : List ℕ) (s : ℕ) → no_room (length l) p s ≡ false → Written l p (splice p s l) s (length l)
unfolding splice no_room
spliced l p s h =
    let a : s ≤ length p = ltb-false (length p) s ((or_parts (ltb (length p) s) _ h).0) in
    let b : length l ≤ length p - s = ltb-false (length p - s) (length l) ((or_parts (ltb (length p) s) _ h).1) in
    let e : length (take s p) ≡ s = simp length-take (omega arith) in
    let front : length (take s p ++ l) ≡ s + length l = simp (length-append, length-take) (omega arith) in
    record {
      count = refl;
      long = simp (length-append, length-drop, length-take) (omega arith);
      before = rw (append_assoc (take s p) l (drop (s + length l) p)) (take_at (take s p) (l ++ drop (s + length l) p) s e);
      inside =
          rw (append_assoc (take s p) l (drop (s + length l) p), drop_at (take s p) (l ++ drop (s + length l) p) s e)
          (take_at l (drop (s + length l) p) (length l) refl);
      behind = drop_at (take s p ++ l) (drop (s + length l) p) (s + length l) front;
    }
