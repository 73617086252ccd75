-- Listing: the items of a record in their order, their bytes, and the call. The record of an item is one after fix-ups.
use Rattle.std.specs.Prelude.{ℕ, List, [], ◌∷◌, ◌++◌, cond, length, take, eqb}
use Rattle.laws.specs.Words.{little}
use Rattle.laws.specs.Tests.{first_of}
use Rattle.laws.specs.Lists.{each, flat}
use Rattle.access.specs.Accesses.{access_number, access_of}
use Rattle.access.specs.declared.Access.{Access}
use Rattle.access.specs.declared.Access.TheVariants as accesses
use Rattle.registers.specs.declared.RegSpec.{RegSpec}
use Rattle.digest.specs.Digests.{access_at, flags_access}
use Rattle.implicit.specs.Lists.{implicit_of, rdi}
use Rattle.implicit.specs.declared.Way.{Way}
use Rattle.implicit.specs.declared.Way.TheVariants.{Read, Write}
use Rattle.implicit.specs.declared.ImplicitOperand.{ImplicitOperand}
use Rattle.implicit.specs.declared.ImplicitOperand.TheVariants.{Register, MemDeref, Disp, MemBaseIndexScale}
use Rattle.implicit.specs.declared.Entry.{Entry}
use Rattle.implicit.specs.declared.Entry.TheVariants.{Operand, Slot}
use Rattle.record.specs.Records.{record_of, record_tests, spec_at}
use Rattle.record.specs.declared.Record.{Record}
use Rattle.definition.specs.Behaviors.{complex}
use Rattle.definition.specs.Refusals.{no_room}
use Rattle.definition.specs.Visits.{fixed_record, outcome}
use Rattle.definition.specs.declared.Item.{Item}
use Rattle.definition.specs.declared.Item.TheVariants.{Flags, Implicit, Explicit}
use Rattle.definition.specs.declared.Answer.{Answer}

abbrev pub way_access : Way → Access
way_access Read = accesses.Read
way_access Write = accesses.Write

-- Deref_rdi lists as MemDeref rdi
unfoldable pub entry_items : Entry → List Item
entry_items (Operand o w) = Implicit o (way_access w) ∷ []
entry_items (Slot i w) = Implicit (MemDeref rdi) (way_access w) ∷ []

unfoldable pub explicit_at : Record → ℕ → Item
explicit_at x i = Explicit i (spec_at x i) (access_of (access_at x.digest i))

unfoldable pub flag_items : ℕ → List Item
flag_items a = cond (eqb a 0) [] (Flags (access_of a) ∷ [])

-- The order of listing: flags if not none, implicit list, explicit operands (access none included)
unfoldable pub items_of : Record → List Item
items_of x =
    flat
    (flag_items (flags_access x.digest)
    ∷ each entry_items (implicit_of x.digest.extra)
    ∷ take x.count (explicit_at x 0 ∷ explicit_at x 1 ∷ explicit_at x 2 ∷ explicit_at x 3 ∷ [])
    ∷ [])

abbrev register_pair : RegSpec → List ℕ
register_pair y = y.bank ∷ y.number ∷ []

unfoldable pub operand_bytes : ImplicitOperand → List ℕ
operand_bytes (Register y) = 0x42 ∷ register_pair y
operand_bytes (MemDeref y) = 0x43 ∷ register_pair y
operand_bytes (Disp y n) = 0x44 ∷ (register_pair y ++ little 4 n)
operand_bytes (MemBaseIndexScale y z k) = 0x45 ∷ (register_pair y ++ (register_pair z ++ (k ∷ [])))

-- the last byte is always the access
unfoldable pub item_bytes : Item → List ℕ
item_bytes (Flags a) = 0x41 ∷ access_number a ∷ []
item_bytes (Implicit o a) = operand_bytes o ++ (access_number a ∷ [])
item_bytes (Explicit i s a) = 0x46 ∷ i ∷ s ∷ access_number a ∷ []

abbrev pub listing_of : Record → List ℕ
listing_of x = each item_bytes (items_of x)

-- refusals 1, 2, 9, 4 and 7
unfoldable pub listing_refusal : List ℕ → List ℕ → ℕ → ℕ
listing_refusal b buffer start =
    first_of
    (record_tests b
    ++ ((complex (fixed_record b), 4)
    ∷ (no_room (length (listing_of (fixed_record b))) buffer start, 7)
    ∷ []))

unfoldable pub listing_call : List ℕ → List ℕ → ℕ → Answer × List ℕ
listing_call b buffer start = outcome (listing_refusal b buffer start) (record_of b).opcode (listing_of (fixed_record b)) buffer start
