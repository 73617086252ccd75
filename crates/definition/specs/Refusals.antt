-- What refusals 5, 6 and 7 ask. The record is one after fix-ups.
use Rattle.std.specs.Prelude.{ℕ, List, [], ◌∷◌, Bool, true, false, not, ◌&&◌, ◌||◌, length, eqb}
use Rattle.laws.specs.Lending.{lacks_room}
use Rattle.laws.specs.Tests.{any, some_of, is_in}
use Rattle.registers.specs.Banks.{is_register}
use Rattle.record.specs.Records.{spec_at}
use Rattle.record.specs.declared.Record.{Record}
use Rattle.definition.specs.Tables.{string_specs}
use Rattle.definition.specs.Behaviors.{Operand, operands_of, is_memory}
use Rattle.definition.specs.Steps.{fourth_of}
use Rattle.definition.specs.declared.Shape.{Shape}
use Rattle.definition.specs.declared.Shape.TheVariants.{Nothing, Register, Fourth, Immediate, Memory}

-- some operand below count with access other than none passes a test
unfoldable pub accessed : (Shape → Bool) → Record → Bool
accessed p x = any (λ (o : Operand). not (eqb o.access 0) && p o.shape) (operands_of x)

-- a shape that names no register: Nothing, or Reg4 outside the bank of regs[3]
unfoldable pub unnamed : Record → Shape → Bool
unnamed x Nothing = true
unnamed x (Register i m) = false
unnamed x Fourth = not (is_register (fourth_of x).bank (fourth_of x).number)
unnamed x Immediate = false
unnamed x (Memory b i d m) = false

-- a slot, even past count, that does not hold spec 18, 20, 21, 22 or 23
unfoldable pub no_slot : Record → ℕ → Bool
no_slot x i = not (is_in (spec_at x i) string_specs)

-- refusal 5
unfoldable pub nameless : Record → Bool
nameless x =
    some_of
    (accessed (unnamed x) x
    ∷ (is_in x.digest.extra (24 ∷ 25 ∷ []) && no_slot x 0)
    ∷ (eqb x.digest.extra 25 && no_slot x 1)
    ∷ [])

-- refusal 6
unfoldable pub sizeless : Record → Bool
sizeless x = eqb x.size 0 && (accessed is_memory x || is_in x.digest.extra (15 ∷ 16 ∷ 26 ∷ 27 ∷ 28 ∷ []))

-- refusal 7: the start lies past the buffer's end, or the part from it is shorter than n
unfoldable pub no_room : ℕ → List ℕ → ℕ → Bool
no_room n buffer start = lacks_room n start (length buffer)
