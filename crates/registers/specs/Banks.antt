-- Registers, and the banks that they stand in.
use Rattle.std.specs.Prelude.{ℕ, List, [], ◌∷◌, Bool, get_or, ltb}
use Rattle.registers.specs.declared.RegSpec.{RegSpec}

abbrev pub reg : ℕ → ℕ → RegSpec
reg b n = record { bank = b; number = n }

-- by bank, what a record may name: Q D W rB B X Y Z K RIP EIP RFLAGS other
abbrev pub bank_numbers : List ℕ
bank_numbers = 16 ∷ 16 ∷ 16 ∷ 16 ∷ 8 ∷ 32 ∷ 32 ∷ 32 ∷ 8 ∷ 1 ∷ 1 ∷ 1 ∷ 32 ∷ []

-- what an event of a log may name: the same, and the bases of fs and gs
abbrev pub logged_numbers : List ℕ
logged_numbers = 16 ∷ 16 ∷ 16 ∷ 16 ∷ 8 ∷ 32 ∷ 32 ∷ 32 ∷ 8 ∷ 1 ∷ 1 ∷ 1 ∷ 32 ∷ 2 ∷ []

abbrev pub fs : RegSpec
fs = reg 13 0

abbrev pub gs : RegSpec
gs = reg 13 1

abbrev pub bank_widths : List ℕ
bank_widths = 8 ∷ 4 ∷ 2 ∷ 1 ∷ 1 ∷ 16 ∷ 32 ∷ 64 ∷ 8 ∷ 8 ∷ 4 ∷ 8 ∷ 8 ∷ 8 ∷ []

-- a bank and a number that a record may name
unfoldable pub is_register : ℕ → ℕ → Bool
is_register b n = ltb n (get_or bank_numbers b 0)

-- a bank and a number that an event may name
unfoldable pub is_logged : ℕ → ℕ → Bool
is_logged b n = ltb n (get_or logged_numbers b 0)

-- how many bytes a register has
unfoldable pub width_of : RegSpec → ℕ
width_of x = get_or bank_widths x.bank 0
