-- How the code holds the lists: an entry as a code of four hexadecimal digits, 0, form, bank, number; a list as a row of four codes, its
-- first entry's the lowest. `implicit_entry` promises the entries of Lists, so no promise to a caller rests on these.
use Rattle.std.specs.Prelude.{ℕ, ◌+◌, ◌*◌, ◌^◌, ◌/◌, ◌%◌, Option, None, Some, List, [], ◌∷◌, map, get_or}
use Rattle.registers.specs.Banks.{reg}
use Rattle.registers.specs.declared.RegSpec.{RegSpec}
use Rattle.implicit.specs.declared.Way.{Way}
use Rattle.implicit.specs.declared.Way.TheVariants.{Read, Write}
use Rattle.implicit.specs.declared.ImplicitOperand.TheVariants.{Register, MemDeref, Disp, MemBaseIndexScale}
use Rattle.implicit.specs.declared.Entry.{Entry}
use Rattle.implicit.specs.declared.Entry.TheVariants.{Operand, Slot}
use Rattle.implicit.specs.Lists.{al, minus8, implicits}

-- the entries by form, for a register; a slot goes by the number alone
abbrev pub forms : RegSpec → List (Option Entry)
forms x =
    None
    ∷ Some (Operand (Register x) Read)
    ∷ Some (Operand (Register x) Write)
    ∷ Some (Operand (MemDeref x) Read)
    ∷ Some (Operand (MemDeref x) Write)
    ∷ Some (Operand (Disp x minus8) Write)
    ∷ Some (Operand (MemBaseIndexScale x al 1) Read)
    ∷ Some (Slot x.number Read)
    ∷ Some (Slot x.number Write)
    ∷ []

abbrev pub register_in : ℕ → RegSpec
register_in code = reg (code / 16 % 16) (code % 16)

-- from a code to its entry
unfoldable pub entry_of : ℕ → Option Entry
entry_of code = get_or (forms (register_in code)) (code / 256) None

-- and from an entry to its code
abbrev pub code_with : ℕ → RegSpec → ℕ
code_with form x = 256 * form + 16 * x.bank + x.number

abbrev pub by_way : Way → ℕ
by_way Read = 0
by_way Write = 1

abbrev pub code_of : Entry → ℕ
code_of (Operand (Register x) way) = code_with (1 + by_way way) x
code_of (Operand (MemDeref x) way) = code_with (3 + by_way way) x
code_of (Operand (Disp x d) way) = code_with 5 x
code_of (Operand (MemBaseIndexScale x y s) way) = code_with 6 x
code_of (Slot n way) = code_with (7 + by_way way) (reg 0 n)

-- the code at a place of a row
unfoldable pub code_in : ℕ → ℕ → ℕ
code_in row i = row / 2 ^ (16 * i) % 65536

-- and the row of each list
abbrev pub joined : List Entry → ℕ
joined [] = 0
joined (e ∷ es) = code_of e + 65536 * joined es

abbrev pub rows : List ℕ
rows = map joined implicits

abbrev pub row_of : ℕ → ℕ
row_of l = get_or rows l 0
