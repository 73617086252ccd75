-- The events and bytes of steps under a register file: the one place where a file enters.
use Rattle.std.specs.Prelude.{ℕ, List, [], ◌∷◌, ◌++◌, map, Some, None}
use Rattle.laws.specs.Words.{little}
use Rattle.laws.specs.Lists.{each, flat}
use Rattle.registers.specs.declared.RegSpec.{RegSpec}
use Rattle.registers.specs.declared.RegisterFile.{RegisterFile}
use Rattle.registers.specs.Values.{Value}
use Rattle.implicit.specs.declared.Way.{Way}
use Rattle.implicit.specs.declared.Way.TheVariants.{Read, Write}
use Rattle.definition.specs.Addresses.{registers_of, address_of, segment_registers, based_of}
use Rattle.definition.specs.Steps.{mask_registers, Step, reads, writes, touches}
use Rattle.definition.specs.declared.Event.{Event}
use Rattle.definition.specs.declared.Event.TheVariants.{RegisterRead, RegisterWrite, MemoryRead, MemoryWrite, UnknownRead, UnknownWrite}

unfoldable pub memory_event : Way → Value → ℕ → Event
memory_event Read (Some a) n = MemoryRead a n
memory_event Read None n = UnknownRead n
memory_event Write (Some a) n = MemoryWrite a n
memory_event Write None n = UnknownWrite n

-- all registers of an address and its base are logged, whether they are known or not
unfoldable pub step_events : RegisterFile → Step → List Event
step_events f (reads y) = RegisterRead y ∷ []
step_events f (writes y) = RegisterWrite y ∷ []
step_events f (touches w s a m n) =
    flat
    (map RegisterRead (segment_registers s)
    ∷ map RegisterRead (registers_of a)
    ∷ map RegisterRead (mask_registers m)
    ∷ (memory_event w (based_of f s (address_of f a)) n ∷ [])
    ∷ [])

abbrev pub events_of : RegisterFile → List Step → List Event
events_of f ss = each (step_events f) ss

-- a kind and a register; a kind, an address and a size; a kind and a size
abbrev pub register_bytes : ℕ → RegSpec → List ℕ
register_bytes kind y = kind ∷ y.bank ∷ y.number ∷ []

abbrev pub memory_bytes : ℕ → ℕ → ℕ → List ℕ
memory_bytes kind a n = kind ∷ (little 8 a ++ (n ∷ []))

abbrev pub unknown_bytes : ℕ → ℕ → List ℕ
unknown_bytes kind n = kind ∷ n ∷ []

unfoldable pub event_bytes : Event → List ℕ
event_bytes (RegisterRead y) = register_bytes 1 y
event_bytes (RegisterWrite y) = register_bytes 2 y
event_bytes (MemoryRead a n) = memory_bytes 3 a n
event_bytes (MemoryWrite a n) = memory_bytes 4 a n
event_bytes (UnknownRead n) = unknown_bytes 5 n
event_bytes (UnknownWrite n) = unknown_bytes 6 n

abbrev pub bytes_of : List Event → List ℕ
bytes_of es = each event_bytes es

-- the bytes of one step
unfoldable pub step_bytes : RegisterFile → Step → List ℕ
step_bytes f s = bytes_of (step_events f s)
