-- Numbers in bytes, lowest byte first, and the bits of a number.
use Rattle.std.specs.Prelude.{ℕ, zero, suc, ◌+◌, ◌*◌, ◌^◌, ◌/◌, ◌%◌, List, [], ◌∷◌, Bool, get_or, eqb}

-- the number that the n bytes from place i on make
unfoldable pub number_at : List ℕ → ℕ → ℕ → ℕ
number_at b i zero = 0
number_at b i (suc n) = get_or b i 0 + 256 * number_at b (i + 1) n

-- the n lowest bytes of a number
unfoldable pub little : ℕ → ℕ → List ℕ
little zero v = []
little (suc n) v = v % 256 ∷ little n (v / 256)

-- bit k of a number is set
unfoldable pub bit : ℕ → ℕ → Bool
bit v k = eqb (v / 2 ^ k % 2) 1
