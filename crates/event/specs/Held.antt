-- Which events a log can hold.
use Rattle.std.specs.Prelude.{ℕ, ◌^◌, ◌<◌, ◌≡◌, true, List, get_or}
use Rattle.definition.specs.declared.Event.{Event}
use Rattle.definition.specs.declared.Event.TheVariants.{RegisterRead, RegisterWrite, MemoryRead, MemoryWrite, UnknownRead, UnknownWrite}
use Rattle.definition.specs.Readings.{is_event}

-- the address that an event carries, 0 where it carries none
abbrev pub address_in : Event → ℕ
address_in (RegisterRead y) = 0
address_in (RegisterWrite y) = 0
address_in (MemoryRead a n) = a
address_in (MemoryWrite a n) = a
address_in (UnknownRead n) = 0
address_in (UnknownWrite n) = 0

-- a register that a log may name, a size of 1 to 64, and an address of 64 bits
pub record Held (e : Event) : Type 0 where
  pub good : is_event e ≡ true
  pub fits : address_in e < 2 ^ 64

-- numbers that are bytes
abbrev pub Bytes : List ℕ → Type 0
Bytes l = (i : ℕ) → get_or l i 0 < 256
