-- A list of tests taken one by one, as code takes them. Assumes nothing.
use Prim.Native.Nat.{ℕ}
use mathlib.Core.Path.{◌≡◌, refl}
use mathlib.Core.List.{List, ◌∷◌}
use mathlib.Core.Bool.{Bool, true, false, cond, ◌&&◌, ◌||◌}
use borrow.Author.Tests.{eq-eqb, ne_eqb}
use Rattle.laws.specs.Tests.{any, is_in, first_of}

-- the first test of a list holds
pub first_here : (t : Bool) (n : ℕ) (ts : List (Bool × ℕ)) → t ≡ true → first_of ((t, n) ∷ ts) ≡ n
unfolding first_of
first_here t n ts e = rw e

-- it does not, so the others decide
pub first_later : (t : Bool) (n : ℕ) (ts : List (Bool × ℕ)) → t ≡ false → first_of ((t, n) ∷ ts) ≡ first_of ts
unfolding first_of
first_later t n ts e = rw e

module _ {A : Type 0} (p : A → Bool) (x : A) (xs : List A) where
  pub any_here : p x ≡ true → any p (x ∷ xs) ≡ true
  unfolding any
  any_here e = rw e

  pub any_later : p x ≡ false → any p (x ∷ xs) ≡ any p xs
  unfolding any
  any_later e = rw e

-- the same of a number in a list, by what code finds of it
pub in_here : (n k : ℕ) (ks : List ℕ) → n ≡ k → is_in n (k ∷ ks) ≡ true
unfolding is_in any
in_here n k ks e = rw (eq-eqb n k e)

pub in_later : (n k : ℕ) (ks : List ℕ) → (n ≡ k → ⊥) → is_in n (k ∷ ks) ≡ is_in n ks
unfolding is_in any
in_later n k ks ne = rw (ne_eqb n k ne)
