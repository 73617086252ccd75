-- What a part of an explicit operand does to registers and memory, as events: no register file enters.
use Rattle.std.specs.Prelude.{ℕ, List, [], ◌∷◌, Bool, false, cond}
use Rattle.laws.specs.Lists.{flat}
use Rattle.registers.specs.declared.RegSpec.{RegSpec}
use Rattle.registers.specs.Values.{Value}
use Rattle.implicit.specs.declared.Way.{Way}
use Rattle.implicit.specs.declared.Way.TheVariants.{Read, Write}
use Rattle.record.specs.Records.{reg_at}
use Rattle.record.specs.declared.Record.{Record}
use Rattle.definition.specs.Steps.{mask_registers, is_lea, widened}
use Rattle.definition.specs.Logs.{memory_event}
use Rattle.definition.specs.declared.Event.{Event}
use Rattle.definition.specs.declared.Event.TheVariants.{RegisterRead, RegisterWrite}
use Rattle.address.specs.Places.{sum_of, cut_of}
use Rattle.event.specs.Moves.{moved}

-- a register: a write is widened
unfoldable pub plain_events : Way → RegSpec → List Event
plain_events Read y = RegisterRead y ∷ []
plain_events Write y = RegisterWrite (widened y) ∷ []

-- a register under a mask: read before it, written after it and as it is
unfoldable pub masked_events : Way → RegSpec → ℕ → List Event
masked_events Read y m = flat ((RegisterRead y ∷ []) ∷ moved Read (mask_registers m) ∷ [])
masked_events Write y m = flat (moved Read (mask_registers m) ∷ (RegisterWrite y ∷ []) ∷ [])

-- under LEA a read part stops before the access
abbrev pub stops : Record → Way → Bool
stops x Read = is_lea x
stops x Write = false

-- the access itself, by the whole sum v and what the base of its segment adds
unfoldable pub access_events : Record → Way → Value → Value → List Event
access_events x w v g = cond (stops x w) [] (memory_event w (sum_of g (cut_of x v)) x.size ∷ [])

-- one register of an address, the mask, the access
unfoldable pub deref_events : Record → Way → RegSpec → ℕ → Value → Value → List Event
deref_events x w y m v g = flat ((RegisterRead y ∷ []) ∷ moved Read (mask_registers m) ∷ access_events x w v g ∷ [])

-- base and index
unfoldable pub indexed_events : Record → Way → ℕ → Value → Value → List Event
indexed_events x w m v g = flat ((RegisterRead (reg_at x 1) ∷ []) ∷ deref_events x w (reg_at x 2) m v g ∷ [])
