-- Sets of small numbers, as the bits of a number.
use Rattle.std.specs.Prelude.{ℕ, zero, suc, ◌+◌, ◌*◌, List, [], ◌∷◌, Bool, true, cond}
use Rattle.access.specs.Exceptions.{with_bit}

-- the n numbers from k on that pass a test, as bits, that of k lowest
unfoldable pub bits_from : (ℕ → Bool) → ℕ → ℕ → ℕ
bits_from p k zero = 0
bits_from p k (suc n) = cond (p k) 1 0 + 2 * bits_from p (k + 1) n

-- a set with each of these numbers in it
unfoldable pub joined : ℕ → List ℕ → ℕ
joined v [] = v
joined v (k ∷ ks) = joined (with_bit v k true) ks
