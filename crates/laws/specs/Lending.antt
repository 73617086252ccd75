-- What a writer leaves in a buffer that was lent to it, whatever the things are whose bytes it writes.
use Rattle.std.specs.Prelude.{ℕ, ◌+◌, ◌-◌, ◌≡◌, Bool, ◌||◌, List, ◌++◌, length, take, drop, ltb}
use Rattle.laws.specs.Lists.{each}

-- how many bytes the things take, by the bytes of one
unfoldable pub size : {A : Type 0} → (A → List ℕ) → List A → ℕ
size enc es = length (each enc es)

-- `new` is `old` with the bytes of es at its front and nothing else changed, and n is how many bytes they are
pub record Logged {A : Type 0} (enc : A → List ℕ) (es : List A) (old new : List ℕ) (n : ℕ) : Type 0 where
  pub count : n ≡ length (each enc es)
  pub bytes : new ≡ each enc es ++ drop (length (each enc es)) old

-- so many bytes have no room from a start to the end of a buffer: the start lies past the end, or the part from it is shorter
abbrev pub lacks_room : ℕ → ℕ → ℕ → Bool
lacks_room n start end = ltb end start || ltb (end - start) n

-- bytes laid over a buffer from a start
unfoldable pub splice : List ℕ → ℕ → List ℕ → List ℕ
splice buffer start bytes = take start buffer ++ bytes ++ drop (start + length bytes) buffer
