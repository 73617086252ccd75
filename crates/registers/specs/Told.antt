-- What the code asks of a file in parts: its refusal, two registers at once, and of a register that is not whole whether a file
-- tells of it, in which slot, and which part of it.
use Rattle.std.specs.Prelude.{ℕ, ◌+◌, ◌/◌, ◌%◌, ◌^◌, List, Bool, cond, ltb, eqb}
use Rattle.registers.specs.Files.{plain_slots, is_file, value_of}
use Rattle.registers.specs.declared.RegSpec.{RegSpec}
use Rattle.registers.specs.declared.RegisterFile.{RegisterFile}
use Rattle.registers.specs.declared.TwoValues.{TwoValues}

-- the refusal of a file's bytes, 0 for none
unfoldable pub file_refusal : List ℕ → ℕ
file_refusal b = cond (is_file b) 0 3

abbrev pub two_values : RegisterFile → RegSpec → RegSpec → TwoValues
two_values f y z = record { base = value_of f y; index = value_of f z }

-- how many registers of a bank a file tells of
unfoldable pub told_numbers : ℕ → ℕ
told_numbers b = cond (ltb b 4) 16 (cond (eqb b 4) 8 (cond (eqb b 9) 1 (cond (eqb b 10) 1 (cond (eqb b 13) 2 0))))

unfoldable pub is_told : RegSpec → Bool
is_told x = ltb x.number (told_numbers x.bank)

unfoldable pub told_slot : RegSpec → ℕ
told_slot x =
    cond (eqb x.bank 13) (plain_slots + x.number % 2)
    (cond (ltb 4 x.bank) 16
    (cond (eqb x.bank 4) (x.number % 4)
    (x.number % 16)))

unfoldable pub told_byte : ℕ → ℕ → ℕ
told_byte n v = cond (ltb 3 n) (v / 256 % 256) (v % 256)

unfoldable pub told_part : RegSpec → ℕ → ℕ
told_part x v =
    cond (eqb x.bank 4) (told_byte x.number v)
    (cond (eqb x.bank 3) (v % 256)
    (cond (eqb x.bank 2) (v % 65536)
    (cond (eqb x.bank 1) (v % 2 ^ 32)
    (cond (eqb x.bank 10) (v % 2 ^ 32) v))))
