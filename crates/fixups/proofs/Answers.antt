-- The two exceptions as bits of a set. Assumes nothing.
use Prim.Native.Nat.{◌+◌, ◌^◌}
use mathlib.Core.Path.{◌≡◌, refl}
use mathlib.Core.Bool.{Bool, true, false, cond}
use Rattle.access.specs.Exceptions.{with_bit}

pub two_vectors : (p f : Bool) → with_bit (with_bit 0 13 p) 14 f ≡ cond p (2 ^ 13) 0 + cond f (2 ^ 14) 0
unfolding with_bit
two_vectors true true = refl
two_vectors true false = refl
two_vectors false true = refl
two_vectors false false = refl
