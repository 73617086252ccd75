-- A line's pieces: letters and numbers.
use Rattle.std.specs.Prelude.{ℕ, zero, suc, ◌/◌, List, cond, ltb}
use Rattle.io.specs.Digits.{last_digits}

-- letters as they stand, a number in decimal
pub data Word : Type 0 where
  letters : List ℕ → Word
  decimal : ℕ → Word

-- how many digits a number has, where it has no more than one and the limit
unfoldable pub places : ℕ → ℕ → ℕ
places zero n = 1
places (suc limit) n = cond (ltb n 10) 1 (suc (places limit (n / 10)))

-- the last k digits of a number
unfoldable pub spelt : ℕ → ℕ → List ℕ
spelt k n = last_digits 10 k n

unfoldable pub word_bytes : Word → List ℕ
word_bytes (letters t) = t
word_bytes (decimal n) = spelt (places 19 n) n
