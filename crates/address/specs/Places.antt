-- What a file says of the registers that a record's addresses are made of, and sums of what is known.
use Rattle.std.specs.Prelude.{ℕ, ◌+◌, ◌*◌, ◌%◌, ◌^◌, false, List, [], ◌∷◌, Some, None}
use Rattle.registers.specs.Files.{after, value_of}
use Rattle.registers.specs.declared.RegisterFile.{RegisterFile}
use Rattle.registers.specs.Values.{Value}
use Rattle.implicit.specs.Lists.{rdi, rsi, implicit_of}
use Rattle.implicit.specs.declared.ImplicitOperand.{ImplicitOperand}
use Rattle.implicit.specs.declared.ImplicitOperand.TheVariants.{Register, MemDeref, Disp, MemBaseIndexScale}
use Rattle.implicit.specs.declared.Entry.{Entry}
use Rattle.implicit.specs.declared.Entry.TheVariants.{Operand, Slot}
use Rattle.record.specs.Records.{reg_at, address_size}
use Rattle.record.specs.declared.Record.{Record}
use Rattle.definition.specs.Addresses.{word, signed32, low_if, address_of, segment_register}
use Rattle.definition.specs.declared.Term.TheVariants.{Absent, Plain, Scaled}
use Rattle.address.specs.declared.places.Sources.{Sources}

-- sums of what is known: unknown where a term is
abbrev pub plus_of : Value → ℕ → Value
plus_of v n = after v (λ a. Some ((a + n) % word))

abbrev pub sum_of : Value → Value → Value
sum_of u v = after u (λ a. plus_of v a)

abbrev pub low_of : Value → Value
low_of v = after v (λ a. Some (a % 2 ^ 32))

abbrev pub scaled_of : Value → ℕ → Value
scaled_of v k = after v (λ a. Some (a * k % word))

-- where an explicit operand of a record lies, by its sum
abbrev pub cut_of : Record → Value → Value
cut_of x v = after v (λ a. Some (low_if (address_size x) a))

-- where an implicit operand lies; a register lies nowhere, and there the others of its list decide
unfoldable pub operand_place : RegisterFile → Value → ImplicitOperand → Value
operand_place f v (Register y) = v
operand_place f v (MemDeref y) = address_of f (record { base = Plain y; index = Absent; offset = 0; cut = false })
operand_place f v (Disp y n) = address_of f (record { base = Plain y; index = Absent; offset = signed32 n; cut = false })
operand_place f v (MemBaseIndexScale y z k) = address_of f (record { base = Plain y; index = Scaled z k; offset = 0; cut = false })

unfoldable pub entry_place : RegisterFile → Value → Entry → Value
entry_place f v (Operand o w) = operand_place f v o
entry_place f v (Slot i w) = v

unfoldable pub list_place : RegisterFile → List Entry → Value
list_place f [] = None
list_place f (e ∷ es) = entry_place f (list_place f es) e

-- where the memory of an implicit list lies: unknown for one that touches none
unfoldable pub implied_place : RegisterFile → ℕ → Value
implied_place f l = list_place f (implicit_of l)

-- what the addresses of a record after fix-ups are made of
unfoldable pub sources_of : RegisterFile → Record → Sources
sources_of f x =
    record {
      base = value_of f (reg_at x 1);
      index = scaled_of (value_of f (reg_at x 2)) x.scale;
      rdi = value_of f rdi;
      rsi = value_of f rsi;
      implied = implied_place f x.digest.extra;
      segment = value_of f (segment_register x.segment);
    }
