-- The implicit lists as events, from where the memory of the record's list lies.
use Rattle.std.specs.Prelude.{ℕ, List, [], ◌∷◌, get_or}
use Rattle.laws.specs.Lists.{flat}
use Rattle.registers.specs.declared.RegSpec.{RegSpec}
use Rattle.registers.specs.Values.{Value}
use Rattle.implicit.specs.Lists.{al, ax, cx, dx, eax, ecx, edx, edi, rax, rcx, rdx, rbx, rsp, rdi, xmm0}
use Rattle.implicit.specs.declared.Way.TheVariants.{Read, Write}
use Rattle.record.specs.declared.Record.{Record}
use Rattle.definition.specs.Steps.{slot_registers}
use Rattle.definition.specs.Logs.{memory_event}
use Rattle.definition.specs.declared.Event.{Event}
use Rattle.definition.specs.declared.Event.TheVariants.{RegisterRead, RegisterWrite}
use Rattle.event.specs.Moves.{moved}

-- a string slot is read, then written: its register and no memory
unfoldable pub slot_events : Record → ℕ → List Event
slot_events x i = flat (moved Read (slot_registers x i) ∷ moved Write (slot_registers x i) ∷ [])

unfoldable pub slots_events : Record → List Event
slots_events x = flat (slot_events x 0 ∷ slot_events x 1 ∷ [])

abbrev r : RegSpec → Event
r y = RegisterRead y

abbrev w : RegSpec → Event
w y = RegisterWrite y

-- by list, 0 to 28
abbrev pub lists : Record → Value → List (List Event)
lists x v =
    []
    -- MUL
    ∷ (r al ∷ w ax ∷ []) ∷ (r ax ∷ w ax ∷ w dx ∷ []) ∷ (r eax ∷ w rax ∷ w rdx ∷ []) ∷ (r rax ∷ w rax ∷ w rdx ∷ [])
    -- DIV
    ∷ (r ax ∷ w ax ∷ []) ∷ (r ax ∷ r dx ∷ w ax ∷ w dx ∷ []) ∷ (r eax ∷ r edx ∷ w rax ∷ w rdx ∷ []) ∷ (r rax ∷ r rdx ∷ w rax ∷ w rdx ∷ [])
    -- CMPXCHG
    ∷ (r al ∷ w al ∷ []) ∷ (r ax ∷ w ax ∷ []) ∷ (r eax ∷ w rax ∷ []) ∷ (r rax ∷ w rax ∷ [])
    -- MULX
    ∷ (r edx ∷ []) ∷ (r rdx ∷ [])
    -- VMASKMOVDQU
    ∷ (r edi ∷ memory_event Write v x.size ∷ []) ∷ (r rdi ∷ memory_event Write v x.size ∷ [])
    -- PCMPESTRI, PCMPESTRM
    ∷ (r eax ∷ r edx ∷ w rcx ∷ []) ∷ (r rax ∷ r rdx ∷ w rcx ∷ []) ∷ (r eax ∷ r edx ∷ w xmm0 ∷ []) ∷ (r rax ∷ r rdx ∷ w xmm0 ∷ [])
    -- LOOP
    ∷ (r rcx ∷ w rcx ∷ []) ∷ (r cx ∷ w cx ∷ []) ∷ (r ecx ∷ w rcx ∷ [])
    -- String
    ∷ slot_events x 0 ∷ slots_events x
    -- Push, pop, XLAT
    ∷ (r rsp ∷ w rsp ∷ r rsp ∷ memory_event Write v x.size ∷ []) ∷ (r rsp ∷ w rsp ∷ r rsp ∷ memory_event Read v x.size ∷ [])
    ∷ (r rbx ∷ r al ∷ memory_event Read v x.size ∷ [])
    ∷ []

unfoldable pub list_events : Record → Value → ℕ → List Event
list_events x v l = get_or (lists x v) l []
