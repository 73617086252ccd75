-- Tests over lists, and the first of several tests that holds.
use Rattle.std.specs.Prelude.{ℕ, List, [], ◌∷◌, Bool, false, ◌||◌, cond, eqb}

unfoldable pub any {ℓ} : {A : Type ℓ} → (A → Bool) → List A → Bool
any p [] = false
any p (x ∷ xs) = p x || any p xs

-- some test of a list holds
abbrev pub some_of : List Bool → Bool
some_of ts = any (λ t. t) ts

-- a number is one of these
unfoldable pub is_in : ℕ → List ℕ → Bool
is_in n ks = any (λ (k : ℕ). eqb n k) ks

-- the number of the first test that holds, 0 where none does
unfoldable pub first_of : List (Bool × ℕ) → ℕ
first_of [] = 0
first_of (t ∷ ts) = cond t.0 t.1 (first_of ts)
