-- What each element of a list gives, one after the other. Assumes nothing.
use mathlib.Core.Path.{◌≡◌, refl, sym, ap, ◌∙◌}
use mathlib.Core.List.{List, [], ◌∷◌, ◌++◌, map, append_assoc}
use Rattle.laws.specs.Lists.{each, flat}

module _ {ℓ κ} {A : Type ℓ} {B : Type κ} (f : A → List B) where
  pub each_append : (xs ys : List A) → each f (xs ++ ys) ≡ each f xs ++ each f ys
  unfolding each
  each_append [] ys = refl
  each_append (x ∷ xs) ys = ap (λ (l : List B). f x ++ l) (each_append xs ys) ∙ sym (append_assoc (f x) (each f xs) (each f ys))

  -- what each gives is what the segments of all give
  pub each_flat : (xs : List A) → flat (map f xs) ≡ each f xs
  unfolding each flat
  each_flat [] = refl
  each_flat (x ∷ xs) = ap (λ (l : List B). f x ++ l) (each_flat xs)
