-- What visiting a record does, as steps that no register file enters. The record is one after fix-ups.
use Rattle.std.specs.Prelude.{ℕ, List, [], ◌∷◌, ◌++◌, map, Bool, true, false, cond, eqb, ◌%◌}
use Rattle.laws.specs.Lists.{each, flat}
use Rattle.laws.specs.Tests.{is_in}
use Rattle.access.specs.Accesses.{reading, writing}
use Rattle.registers.specs.Banks.{reg}
use Rattle.registers.specs.declared.RegSpec.{RegSpec}
use Rattle.digest.specs.Digests.{flags_access}
use Rattle.implicit.specs.Lists.{implicit_of}
use Rattle.implicit.specs.declared.Way.{Way}
use Rattle.implicit.specs.declared.Way.TheVariants.{Read, Write}
use Rattle.implicit.specs.declared.ImplicitOperand.{ImplicitOperand}
use Rattle.implicit.specs.declared.ImplicitOperand.TheVariants as implied
use Rattle.implicit.specs.declared.Entry.{Entry}
use Rattle.implicit.specs.declared.Entry.TheVariants as entries
use Rattle.record.specs.Records.{spec_at, reg_at}
use Rattle.record.specs.declared.Record.{Record}
use Rattle.definition.specs.Tables.{shape_of, string_specs}
use Rattle.definition.specs.Behaviors.{Operand, operands_of}
use Rattle.definition.specs.Addresses.{signed32, term_registers, registers_of, base_of, operand_address, segment_of}
use Rattle.definition.specs.declared.Base.{Base}
use Rattle.definition.specs.declared.Base.TheVariants.{NoBase}
use Rattle.definition.specs.declared.Shape.{Shape}
use Rattle.definition.specs.declared.Shape.TheVariants.{Nothing, Register, Fourth, Immediate, Memory}
use Rattle.definition.specs.declared.Term.TheVariants.{Absent, Plain, Scaled}
use Rattle.definition.specs.declared.Address.{Address}

pub data Step : Type 0 where
  reads : RegSpec → Step
  writes : RegSpec → Step
  -- the base of a segment by its number is read, then the address's registers, then the mask by its number; then so many bytes of
  -- memory are touched
  touches : Way → ℕ → Address → ℕ → ℕ → Step

abbrev pub register_step : Way → RegSpec → Step
register_step Read y = reads y
register_step Write y = writes y

-- Mask 0 is never logged
unfoldable pub mask_registers : ℕ → List RegSpec
mask_registers m = cond (eqb m 0) [] (reg 8 m ∷ [])

-- the mask of a spec: the record's for a masked form, else none
abbrev pub mask_for : Record → Bool → ℕ
mask_for x masked = cond masked x.mask 0

abbrev pub mask_steps : ℕ → List Step
mask_steps m = map reads (mask_registers m)

abbrev pub is_lea : Record → Bool
is_lea x = eqb x.opcode 28

-- Reg4: the bank of regs[3] and the low byte of imm
abbrev pub fourth_of : Record → RegSpec
fourth_of x = reg (reg_at x 3).bank (x.imm % 256)

-- a write to bank D is logged as bank Q
unfoldable pub widened : RegSpec → RegSpec
widened y = cond (eqb y.bank 1) (reg 0 y.number) y

-- Explicit operands
-- LEA's read part touches no memory, and asks for no segment
unfoldable pub read_part : Record → Shape → List Step
read_part x Nothing = []
read_part x (Register i m) = reads (reg_at x i) ∷ mask_steps (mask_for x m)
read_part x Fourth = reads (fourth_of x) ∷ []
read_part x Immediate = []
read_part x (Memory b i d m) =
    cond (is_lea x)
    (map reads (registers_of (operand_address x b i d)) ++ mask_steps (mask_for x m))
    (touches Read (segment_of x b) (operand_address x b i d) (mask_for x m) x.size ∷ [])

unfoldable pub write_part : Record → Shape → List Step
write_part x Nothing = []
write_part x (Register i false) = writes (widened (reg_at x i)) ∷ []
write_part x (Register i true) = mask_steps x.mask ++ (writes (reg_at x i) ∷ [])
write_part x Fourth = writes (widened (fourth_of x)) ∷ []
write_part x Immediate = []
write_part x (Memory b i d m) = touches Write (segment_of x b) (operand_address x b i d) (mask_for x m) x.size ∷ []

-- its read part, then its write part
unfoldable pub operand_steps : Record → Operand → List Step
operand_steps x o =
    flat
    (cond (reading o.access) (read_part x o.shape) []
    ∷ cond (writing o.access) (write_part x o.shape) []
    ∷ [])

-- Implicit lists
unfoldable pub shape_base : Shape → Base
shape_base Nothing = NoBase
shape_base (Register i m) = NoBase
shape_base Fourth = NoBase
shape_base Immediate = NoBase
shape_base (Memory b i d m) = b

-- the register of a slot's spec, where a string list may log it
unfoldable pub slot_registers : Record → ℕ → List RegSpec
slot_registers x i = cond (is_in (spec_at x i) string_specs) (term_registers (base_of x (shape_base (shape_of (spec_at x i))))) []

-- what a list touches lies in no segment and is never cut
unfoldable pub implicit_step : ℕ → Way → ImplicitOperand → Step
implicit_step size w (implied.Register y) = register_step w y
implicit_step size w (implied.MemDeref y) = touches w 0 (record { base = Plain y; index = Absent; offset = 0; cut = false }) 0 size
implicit_step size w (implied.Disp y n) = touches w 0 (record { base = Plain y; index = Absent; offset = signed32 n; cut = false }) 0 size
implicit_step size w (implied.MemBaseIndexScale y z k) = touches w 0 (record { base = Plain y; index = Scaled z k; offset = 0; cut = false }) 0 size

-- a string slot logs its register and no memory
unfoldable pub entry_steps : Record → Entry → List Step
entry_steps x (entries.Operand o w) = implicit_step x.size w o ∷ []
entry_steps x (entries.Slot i w) = map (register_step w) (slot_registers x i)

abbrev pub rflags : RegSpec
rflags = reg 11 0

unfoldable pub flag_steps : ℕ → List Step
flag_steps a = flat (cond (reading a) (reads rflags ∷ []) [] ∷ cond (writing a) (writes rflags ∷ []) [] ∷ [])

-- The order of visiting: implicit list, then flags read, flags write, then each explicit operand
unfoldable pub steps_of : Record → List Step
steps_of x =
    flat
    (each (entry_steps x) (implicit_of x.digest.extra)
    ∷ flag_steps (flags_access x.digest)
    ∷ each (operand_steps x) (operands_of x)
    ∷ [])
