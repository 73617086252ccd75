-- The needs of a record by its parts, as the code goes through them: no promise to a caller rests on these.
use Rattle.std.specs.Prelude.{ℕ, List, [], ◌∷◌, Bool, false, not, cond, ◌&&◌, ltb, Option, Some, None}
use Rattle.laws.specs.Words.{bit}
use Rattle.laws.specs.Lists.{each, flat}
use Rattle.access.specs.Accesses.{reading, writing}
use Rattle.implicit.specs.Lists.{implicit_of}
use Rattle.implicit.specs.declared.ImplicitOperand.{ImplicitOperand}
use Rattle.implicit.specs.declared.ImplicitOperand.TheVariants as implied
use Rattle.implicit.specs.declared.Entry.{Entry}
use Rattle.implicit.specs.declared.Entry.TheVariants as entries
use Rattle.record.specs.declared.Record.{Record}
use Rattle.definition.specs.Behaviors.{Operand}
use Rattle.definition.specs.Addresses.{operand_address, segment_of}
use Rattle.definition.specs.Steps.{is_lea}
use Rattle.definition.specs.declared.Shape.{Shape}
use Rattle.definition.specs.declared.Shape.TheVariants.{Nothing, Register, Fourth, Immediate, Memory}
use Rattle.fetching.specs.Needs.{held_registers, slots_of, access_needs}

-- a memory spec has an index
unfoldable pub shape_index : Shape → Bool
shape_index Nothing = false
shape_index (Register i m) = false
shape_index Fourth = false
shape_index Immediate = false
shape_index (Memory b i d m) = i

-- the segment that it is accessed in, none where it is no memory
unfoldable pub shape_segment : Record → Shape → ℕ
shape_segment x Nothing = 0
shape_segment x (Register i m) = 0
shape_segment x Fourth = 0
shape_segment x Immediate = 0
shape_segment x (Memory b i d m) = segment_of x b

-- the needs of its access
unfoldable pub shape_needs : Record → Shape → List ℕ
shape_needs x Nothing = []
shape_needs x (Register i m) = []
shape_needs x Fourth = []
shape_needs x Immediate = []
shape_needs x (Memory b i d m) = access_needs (segment_of x b) (operand_address x b i d)

-- a read of memory is one, but under LEA
abbrev pub loads_at : Record → Bool → Bool
loads_at x read = read && not (is_lea x)

-- where an operand is read, and where it is written
unfoldable pub operand_needs : Record → Operand → List ℕ
operand_needs x o =
    flat
    (cond (loads_at x (reading o.access)) (shape_needs x o.shape) []
    ∷ cond (writing o.access) (shape_needs x o.shape) []
    ∷ [])

-- an entry of an implicit list: a string slot touches no memory
unfoldable pub form_needs : ImplicitOperand → List ℕ
form_needs (implied.Register y) = []
form_needs (implied.MemDeref y) = slots_of y
form_needs (implied.Disp y n) = slots_of y
form_needs (implied.MemBaseIndexScale y z k) = each slots_of (y ∷ z ∷ [])

unfoldable pub entry_needs : Entry → List ℕ
entry_needs (entries.Operand o w) = form_needs o
entry_needs (entries.Slot i w) = []

unfoldable pub list_needs : ℕ → List ℕ
list_needs l = each entry_needs (implicit_of l)

-- a bit that is needed and not in the set
abbrev pub lacking : ℕ → ℕ → ℕ → Bool
lacking needs set k = bit needs k && not (bit set k)

-- a slot of a file, none for what lies nowhere
abbrev pub held_slot : ℕ → Option ℕ
held_slot k = cond (ltb k held_registers) (Some k) None
