-- Lists of lists, one after the other.
use Rattle.std.specs.Prelude.{List, [], ◌∷◌, ◌++◌}

-- what each element gives, one after the other
unfoldable pub each {ℓ κ} : {A : Type ℓ} {B : Type κ} → (A → List B) → List A → List B
each f [] = []
each f (x ∷ xs) = f x ++ each f xs

-- the segments one after the other
unfoldable pub flat {ℓ} : {A : Type ℓ} → List (List A) → List A
flat [] = []
flat (s ∷ ss) = s ++ flat ss
