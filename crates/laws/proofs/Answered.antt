-- What an answer says of the number that refuses it, and what is handed on. Assumes nothing.
use Rattle.std.specs.Prelude.{ℕ, ◌≡◌, refl, Result, Ok, Err, cond, eqb, true, false, Bool}
use Rattle.std.proofs.Common.{sym}
use borrow.Author.Tests.{eqb-true}
use Rattle.laws.specs.Refusals.{refusal_named, answered_by}
use Rattle.laws.specs.declared.refusals.Refusal.{Refusal}

-- a refusal is handed on as it is
pub handed_on : {A B : Type 0} (n : ℕ) (x : A) {e : Refusal} {r : Result A Refusal} (y : B) → r ≡ answered_by n x → r ≡ Err e → Err e ≡ answered_by n y
handed_on {A} {B} n x {e} {r} y p q = by (eqb n 0) p
  where
    by : (t : Bool) → r ≡ cond t (Ok x) (Err (refusal_named n)) → ◌≡◌ {A = Result B Refusal} (Err e) (cond t (Ok y) (Err (refusal_named n)))
    by true h = absurd (cc (h, q))
    by false h = cc (h, q)

-- and what is answered is of the number 0
pub passed : {A : Type 0} (n : ℕ) (x : A) {y : A} {r : Result A Refusal} → r ≡ answered_by n x → r ≡ Ok y → n ≡ 0
passed {A} n x {y} {r} p q = by (eqb n 0) refl p
  where
    by : (t : Bool) → eqb n 0 ≡ t → r ≡ cond t (Ok x) (Err (refusal_named n)) → n ≡ 0
    by true e h = eqb-true n 0 e
    by false e h = absurd (cc (h, q))

pub not_refused : {A : Type 0} (n : ℕ) (x : A) → n ≡ 0 → answered_by n x ≡ Ok x
not_refused n x e = rw e

-- what is answered is what there was to answer
pub answered_is : {A : Type 0} (n : ℕ) (x : A) {y : A} {r : Result A Refusal} → r ≡ answered_by n x → r ≡ Ok y → y ≡ x
answered_is {A} n x {y} {r} p q = by (eqb n 0) p
  where
    by : (t : Bool) → r ≡ cond t (Ok x) (Err (refusal_named n)) → y ≡ x
    by true h = cc (h, q)
    by false h = absurd (cc (h, q))

-- a refusal is of another number than 0
pub refused_not : {A : Type 0} (n : ℕ) (x : A) {e : Refusal} {r : Result A Refusal} → r ≡ answered_by n x → r ≡ Err e → n ≡ 0 → ⊥
refused_not n x {e} {r} p q z = let h : r ≡ Ok x = rw z at p in absurd (cc (h, q))
