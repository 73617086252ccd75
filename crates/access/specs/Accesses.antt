-- How an operand is used: two bits, the lower one for a read, the upper one for a write.
use Rattle.std.specs.Prelude.{ℕ, [], ◌∷◌, Bool, get_or}
use Rattle.laws.specs.Words.{bit}
use Rattle.access.specs.declared.Access.{Access}
use Rattle.access.specs.declared.Access.TheVariants.{None, Read, Write, ReadWrite}

-- 0 none, 1 read, 2 write, 3 both
abbrev pub access_number : Access → ℕ
access_number None = 0
access_number Read = 1
access_number Write = 2
access_number ReadWrite = 3

-- the access of two bits
abbrev pub access_of : ℕ → Access
access_of n = get_or (None ∷ Read ∷ Write ∷ ReadWrite ∷ []) n None

abbrev pub reading : ℕ → Bool
reading a = bit a 0

abbrev pub writing : ℕ → Bool
writing a = bit a 1
