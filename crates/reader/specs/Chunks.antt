-- The parts of a call.
use Rattle.std.specs.Prelude.{ℕ, ◌≡◌, ◌≤◌, length, Bool, false, Result, Ok, Err}
use Rattle.laws.specs.Refusals.{refusal_number}
use Rattle.laws.specs.declared.refusals.Refusal.{Refusal}
use Rattle.laws.specs.declared.refusals.Refusal.TheVariants.{Malformed, Outside, BadFile, Complex, Nameless, Sizeless, NoRoom, Cut, Unlisted, Full}
use Rattle.streams.specs.declared.Call.{Call}
use Rattle.reader.specs.Places.{item_room}
use Rattle.reader.specs.Held.{reader_with, checked}
use Rattle.reader.specs.Items.{PartIn}
use Rattle.reader.specs.declared.held.Reader.{Reader}
use Rattle.reader.specs.declared.items.Brought.TheVariants.{Nothing}

-- a reader that has not stopped keeps no byte, or a part of an item
pub record Going (r : Reader) : Type 0 where
  pub part : r.stopped ≡ false → PartIn Nothing r.kept

-- what a reader is that holds what it should
pub record Kept (r : Reader) : Type 0 where
  pub inside : length r.kept ≤ item_room
  pub held : length r.file ≤ item_room
  pub part : r.stopped ≡ false → PartIn Nothing r.kept
  pub same : checked r ≡ reader_with r

abbrev pub calling : ℕ → Bool → ℕ → ℕ → ℕ → Call
calling number finished taken n opcode = record { number = number; finished = finished; taken = taken; n = n; opcode = opcode }

-- what goes beside a refusal: the bytes that are needed, and an opcode
abbrev pub needed_by : Refusal → ℕ
needed_by (NoRoom n) = n
needed_by Malformed = 0
needed_by Outside = 0
needed_by BadFile = 0
needed_by (Complex o) = 0
needed_by Nameless = 0
needed_by Sizeless = 0
needed_by Cut = 0
needed_by Unlisted = 0
needed_by Full = 0

abbrev pub opcode_in : Refusal → ℕ
opcode_in (Complex o) = o
opcode_in Malformed = 0
opcode_in Outside = 0
opcode_in BadFile = 0
opcode_in Nameless = 0
opcode_in Sizeless = 0
opcode_in (NoRoom n) = 0
opcode_in Cut = 0
opcode_in Unlisted = 0
opcode_in Full = 0

-- an answer as the numbers of a call
abbrev pub answering : Result ℕ Refusal → Bool → ℕ → Call
answering (Ok n) finished taken = calling 0 finished taken n 0
answering (Err r) finished taken = calling (refusal_number r) finished taken (needed_by r) (opcode_in r)
