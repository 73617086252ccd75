-- What holds of every element of a list. Assumes nothing.
use Prim.Native.Nat.{ℕ, zero, suc, ◌+◌, ◌<◌}
use native.Mathlib.Nat.{zero-add, add-zero, suc-add, add-suc}
use mathlib.Core.Path.{◌≡◌, refl, ◌∙◌}
use mathlib.Core.List.{List, [], ◌∷◌, ◌++◌, map}
use mathlib.Core.Bool.{Bool, true, false, cond, ◌&&◌}
use lib.ListN.{get_or, take}
use native.Mathlib.Omega.{arith}
use Rattle.std.proofs.lemmas.Bool.{and_parts, or_parts}
use Rattle.laws.proofs.Choice.{any_later, in_later, first_later}
use Rattle.laws.specs.Tests.{any, is_in, first_of}
use Rattle.laws.specs.Lists.{each}

module _ {A : Type 0} where
  abbrev pub Every : (A → Type 0) → List A → Type 0
  Every P [] = Unit {0}
  Every P (x ∷ xs) = P x × Every P xs

  module _ (P : A → Type 0) where
    pub every_append : (xs ys : List A) → Every P xs → Every P ys → Every P (xs ++ ys)
    every_append [] ys p q = q
    every_append (x ∷ xs) ys p q = (p.0, every_append xs ys p.1 q)

    pub every_take : (k : ℕ) (xs : List A) → Every P xs → Every P (take k xs)
    every_take zero xs p = tt
    every_take (suc k) [] p = tt
    every_take (suc k) (x ∷ xs) p = (p.0, every_take k xs p.1)

    pub every_at : (xs : List A) (d : A) → Every P xs → P d → (k : ℕ) → P (get_or xs k d)
    every_at [] d p q k = q
    every_at (x ∷ xs) d p q zero = p.0
    every_at (x ∷ xs) d p q (suc k) = every_at xs d p.1 q k

    pub every_cond : (t : Bool) (xs : List A) → (t ≡ true → Every P xs) → Every P (cond t xs [])
    every_cond true xs p = p refl
    every_cond false xs p = tt

    pub every_if : (t : Bool) (xs ys : List A) → Every P xs → Every P ys → Every P (cond t xs ys)
    every_if true xs ys p q = p
    every_if false xs ys p q = q

    pub every_unless : (t : Bool) (xs : List A) → (t ≡ false → Every P xs) → Every P (cond t [] xs)
    every_unless true xs p = tt
    every_unless false xs p = p refl

  pub every_weaken : (P Q : A → Type 0) → ((x : A) → P x → Q x) → (xs : List A) → Every P xs → Every Q xs
  every_weaken P Q h [] p = tt
  every_weaken P Q h (x ∷ xs) p = (h x p.0, every_weaken P Q h xs p.1)

  pub any_false : (p : A → Bool) (xs : List A) → any p xs ≡ false → Every (λ x. p x ≡ false) xs
  unfolding any
  any_false p [] e = tt
  any_false p (x ∷ xs) e = ((or_parts (p x) (any p xs) e).0, any_false p xs ((or_parts (p x) (any p xs) e).1))

  pub any_none : (p : A → Bool) (xs : List A) → Every (λ x. p x ≡ false) xs → any p xs ≡ false
  unfolding any
  any_none p [] h = refl
  any_none p (x ∷ xs) h = any_later p x xs h.0 ∙ any_none p xs h.1

-- a number is none of these
pub in_none : (n : ℕ) (ks : List ℕ) → Every (λ k. n ≡ k → ⊥) ks → is_in n ks ≡ false
unfolding is_in any
in_none n [] h = refl
in_none n (k ∷ ks) h = in_later n k ks h.0 ∙ in_none n ks h.1

-- no test holds
pub first_none : (ts : List (Bool × ℕ)) → Every (λ t. t.0 ≡ false) ts → first_of ts ≡ 0
unfolding first_of
first_none [] h = refl
first_none (t ∷ ts) h = first_later t.0 t.1 ts h.0 ∙ first_none ts h.1

-- 0 says so, where no test has the number 0
pub first_zero : (ts : List (Bool × ℕ)) → Every (λ t. 0 < t.1) ts → first_of ts ≡ 0 → Every (λ t. t.0 ≡ false) ts
unfolding first_of
first_zero [] h e = tt
first_zero ((true, n) ∷ ts) h e = absurd (omega (arith, h.0))
first_zero ((false, n) ∷ ts) h e = (refl, first_zero ts h.1 e)

pub every_map : {A B : Type 0} (P : B → Type 0) (f : A → B) (xs : List A) → Every (λ x. P (f x)) xs → Every P (map f xs)
every_map P f [] p = tt
every_map P f (x ∷ xs) p = (p.0, every_map P f xs p.1)

pub every_each : {A B : Type 0} (Q : A → Type 0) (P : B → Type 0) (f : A → List B) → ((x : A) → Q x → Every P (f x)) → (xs : List A) → Every Q xs → Every P (each f xs)
unfolding each
every_each Q P f h [] q = tt
every_each Q P f h (x ∷ xs) q = every_append P (f x) (each f xs) (h x q.0) (every_each Q P f h xs q.1)

-- a test of a table's entries by their places, which antt computes
abbrev pub tested : {A : Type 0} → (ℕ → A → Bool) → ℕ → List A → Bool
tested f i [] = true
tested f i (x ∷ xs) = f i x && tested f (suc i) xs

from : {A : Type 0} (f : ℕ → A → Bool) (xs : List A) (d : A) (i : ℕ) → tested f i xs ≡ true → ((k : ℕ) → f k d ≡ true) → (k : ℕ) → f (k + i) (get_or xs k d) ≡ true
from f [] d i t h k = h (k + i)
from f (x ∷ xs) d i t h zero = rw zero-add ((and_parts (f i x) (tested f (suc i) xs) t).0)
from f (x ∷ xs) d i t h (suc k) = rw (suc-add, ← add-suc) (from f xs d (suc i) ((and_parts (f i x) (tested f (suc i) xs) t).1) h k)

pub at : {A : Type 0} (f : ℕ → A → Bool) (xs : List A) (d : A) → tested f 0 xs ≡ true → ((k : ℕ) → f k d ≡ true) → (k : ℕ) → f k (get_or xs k d) ≡ true
at f xs d t h k = rw add-zero at (from f xs d 0 t h k)
