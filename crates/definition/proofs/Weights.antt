-- The weight of a list: the sum of what each element weighs. Assumes nothing.
use Prim.Native.Nat.{ℕ, zero, suc, ◌+◌, ◌≤◌, zero-le}
use native.Mathlib.Omega.{arith}
use mathlib.Core.Path.{◌≡◌, refl, ap, ◌∙◌}
use mathlib.Core.List.{List, [], ◌∷◌, ◌++◌, map}
use mathlib.Core.Bool.{Bool, true, false, cond, ◌&&◌}
use lib.ListN.{length, length-append, get_or, take}
use lib.Dec.{leb, T, leb→le}
use Rattle.laws.specs.Lists.{each}

both_left : (a b : Bool) → T (a && b) → T a
both_left true b t = tt
both_left false b t = t

both_right : (a b : Bool) → T (a && b) → T b
both_right true b t = t
both_right false b t = absurd t

pub cond_le : (t : Bool) {a b n : ℕ} → a ≤ n → b ≤ n → cond t a b ≤ n
cond_le true p q = p
cond_le false p q = q

module _ {ℓ} {A : Type ℓ} where
  abbrev pub weigh : (A → ℕ) → List A → ℕ
  weigh v [] = 0
  weigh v (x ∷ xs) = v x + weigh v xs

  pub weigh_append : (v : A → ℕ) (xs ys : List A) → weigh v (xs ++ ys) ≡ weigh v xs + weigh v ys
  weigh_append v [] ys = omega arith
  weigh_append v (x ∷ xs) ys = omega (arith, weigh_append v xs ys)

  pub weigh_cond : (v : A → ℕ) (t : Bool) (xs ys : List A) → weigh v (cond t xs ys) ≡ cond t (weigh v xs) (weigh v ys)
  weigh_cond v true xs ys = refl
  weigh_cond v false xs ys = refl

  pub weigh_le : {u v : A → ℕ} → ((x : A) → u x ≤ v x) → (xs : List A) → weigh u xs ≤ weigh v xs
  weigh_le h [] = omega arith
  weigh_le h (x ∷ xs) = omega (arith, h x, weigh_le h xs)

  pub weigh_take : (v : A → ℕ) (k : ℕ) (xs : List A) → weigh v (take k xs) ≤ weigh v xs
  weigh_take v zero xs = zero-le
  weigh_take v (suc k) [] = zero-le
  weigh_take v (suc k) (x ∷ xs) = omega (arith, weigh_take v k xs)

  -- a table whose every entry weighs at most n: a test that antt computes
  abbrev pub light : (A → ℕ) → ℕ → List (List A) → Bool
  light v n [] = true
  light v n (x ∷ xs) = leb (weigh v x) n && light v n xs

  pub light_at : (v : A → ℕ) (n : ℕ) (xs : List (List A)) → T (light v n xs) → (k : ℕ) → weigh v (get_or xs k []) ≤ n
  light_at v n [] t k = zero-le
  light_at v n (x ∷ xs) t zero = leb→le (weigh v x) n (both_left (leb (weigh v x) n) (light v n xs) t)
  light_at v n (x ∷ xs) t (suc k) = light_at v n xs (both_right (leb (weigh v x) n) (light v n xs) t) k

pub weigh_map {ℓ κ} : {A : Type ℓ} {B : Type κ} (v : B → ℕ) (f : A → B) (xs : List A) → weigh v (map f xs) ≡ weigh (λ x. v (f x)) xs
weigh_map v f [] = refl
weigh_map v f (x ∷ xs) = ap (λ (n : ℕ). v (f x) + n) (weigh_map v f xs)

pub weigh_each {ℓ κ} : {A : Type ℓ} {B : Type κ} (v : B → ℕ) (u : A → ℕ) (f : A → List B) → ((x : A) → weigh v (f x) ≤ u x) → (xs : List A) → weigh v (each f xs) ≤ weigh u xs
unfolding each
weigh_each v u f h [] = zero-le
weigh_each v u f h (x ∷ xs) = omega (arith, h x, weigh_each v u f h xs, weigh_append v (f x) (each f xs))

pub length_each {ℓ κ} : {A : Type ℓ} {B : Type κ} (f : A → List B) (xs : List A) → length (each f xs) ≡ weigh (λ x. length (f x)) xs
unfolding each
length_each f [] = refl
length_each f (x ∷ xs) = length-append (f x) (each f xs) ∙ ap (λ (n : ℕ). length (f x) + n) (length_each f xs)
