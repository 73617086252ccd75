-- When one register file knows all that another knows, when one log says all that another says, and when files agree.
use Rattle.std.specs.Prelude.{ℕ, ◌≡◌, Some, None}
use mathlib.Core.List.{List, [], ◌∷◌, Memᴰ}
use Rattle.registers.specs.Files.{slot_of, value_of}
use Rattle.registers.specs.declared.RegSpec.{RegSpec}
use Rattle.registers.specs.declared.RegisterFile.{RegisterFile}
use Rattle.registers.specs.Values.{Value}
use Rattle.definition.specs.declared.Event.{Event}
use Rattle.definition.specs.declared.Event.TheVariants.{RegisterRead, MemoryRead, MemoryWrite, UnknownRead, UnknownWrite}

-- what the first value gives, the second gives too
abbrev pub Gives : Value → Value → Type 0
Gives (Some v) u = u ≡ Some v
Gives None u = Unit {0}

-- the second file knows all that the first knows, with equal values
abbrev pub Extends : RegisterFile → RegisterFile → Type 0
Extends f g = (k : ℕ) → Gives (slot_of f k) (slot_of g k)

-- the same event, or one whose unknown address is filled in
pub data Refines : Event → Event → Type 0 where
  same : {e : Event} → Refines e e
  found_read : {a n : ℕ} → Refines (UnknownRead n) (MemoryRead a n)
  found_write : {a n : ℕ} → Refines (UnknownWrite n) (MemoryWrite a n)

-- the same events in the same order, but for unknown addresses filled in
pub data RefinesAll : List Event → List Event → Type 0 where
  none : RefinesAll [] []
  one : {d e : Event} {ds es : List Event} → Refines d e → RefinesAll ds es → RefinesAll (d ∷ ds) (e ∷ es)

-- the files answer alike, known or unknown, every register that these events read
abbrev pub AgreeOn : RegisterFile → RegisterFile → List Event → Type 0
AgreeOn f g es = (y : RegSpec) → Memᴰ (RegisterRead y) es → value_of f y ≡ value_of g y
