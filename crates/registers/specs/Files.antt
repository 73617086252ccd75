-- A register file, from its bytes, and what it answers of a register.
use Rattle.std.specs.Prelude.{ℕ, zero, suc, ◌+◌, ◌-◌, ◌*◌, ◌^◌, ◌/◌, ◌%◌, ◌≡◌, ◌⊎◌, List, [], ◌∷◌, Bool, cond, ◌&&◌, length, get_or, replicate, ltb, eqb, Some, None, Result, Ok, Err}
use Rattle.laws.specs.Words.{number_at, bit}
use Rattle.registers.specs.Banks.{is_logged}
use Rattle.registers.specs.declared.RegSpec.{RegSpec}
use Rattle.registers.specs.declared.RegisterFile.{RegisterFile}
use Rattle.laws.specs.declared.refusals.Refusal.{Refusal}
use Rattle.laws.specs.declared.refusals.Refusal.TheVariants.{BadFile}
use Rattle.registers.specs.Values.{Value}

abbrev pub file_with : List ℕ → ℕ → RegisterFile
file_with v k = record { values = v; known = k }

-- the numbers of 8 bytes that stand from place i on
unfoldable pub numbers_from : List ℕ → ℕ → ℕ → List ℕ
numbers_from b i zero = []
numbers_from b i (suc n) = number_at b i 8 ∷ numbers_from b (i + 8) n

-- the kinds of files: the sixteen general registers and rip, and these with the bases of fs and gs behind them
abbrev pub file_kind : ℕ
file_kind = 0x20

abbrev pub based_kind : ℕ
based_kind = 0x21

-- how many values the first kind holds, and how many a file that is read has
abbrev pub plain_slots : ℕ
plain_slots = 17

abbrev pub file_slots : ℕ
file_slots = 19

-- by kind how many values there are, 0 for no kind
unfoldable pub file_values : ℕ → ℕ
file_values k = cond (eqb k file_kind) plain_slots (cond (eqb k based_kind) file_slots 0)

-- the lengths: the kind, 4 bytes of known bits, then the values
abbrev pub file_bytes : ℕ
file_bytes = 5 + 8 * plain_slots

abbrev pub based_bytes : ℕ
based_bytes = 5 + 8 * file_slots

-- by kind, 0 for no kind
unfoldable pub file_length : ℕ → ℕ
file_length k = cond (eqb k file_kind) file_bytes (cond (eqb k based_kind) based_bytes 0)

-- a value that the bytes have not is 0, and no known bit says that it is known
unfoldable pub file_of : List ℕ → RegisterFile
file_of b = file_with (numbers_from b 5 file_slots) (number_at b 1 4)

-- refusal 3 where this fails: a kind, its length, and no known bit above its values
unfoldable pub is_file : List ℕ → Bool
is_file b = ltb 0 (length b) && eqb (length b) (file_length (get_or b 0 0)) && ltb (number_at b 1 4) (2 ^ file_values (get_or b 0 0))

-- the lengths that a file can have
abbrev pub FileLong : List ℕ → Type 0
FileLong b = (length b ≡ file_bytes) ⊎ (length b ≡ based_bytes)

-- a file that knows nothing
unfoldable pub no_file : RegisterFile
no_file = file_with (replicate file_slots 0) 0

-- the file, or refusal 3
unfoldable pub file_answer : List ℕ → Result RegisterFile Refusal
file_answer b = cond (is_file b) (Ok (file_of b)) (Err BadFile)

-- the part of a full register that a register is: the slot of the file that it lies in, the bits below it, and its own bits
pub record Part : Type 0 where
  pub slot : ℕ
  pub below : ℕ
  pub bits : ℕ

abbrev pub part : ℕ → ℕ → ℕ → Part
part s b w = record { slot = s; below = b; bits = w }

-- no part of any register of a file
abbrev pub nowhere : Part
nowhere = part file_slots 0 0

-- by bank, of register n: Q whole, D the low 32 bits, W the low 16, rB and B 0-3 the low 8, B 4-7 bits 8-15 of register number minus 4;
-- RIP, and EIP its low 32 bits; the bases of fs and gs
abbrev pub bank_parts : ℕ → List Part
bank_parts n =
    part n 0 64
    ∷ part n 0 32
    ∷ part n 0 16
    ∷ part n 0 8
    ∷ part (cond (ltb n 4) n (n - 4)) (cond (ltb n 4) 0 8) 8
    ∷ nowhere ∷ nowhere ∷ nowhere ∷ nowhere
    ∷ part 16 0 64
    ∷ part 16 0 32
    ∷ nowhere ∷ nowhere
    ∷ part (plain_slots + n) 0 64
    ∷ []

unfoldable pub part_of : RegSpec → Part
part_of x = cond (is_logged x.bank x.number) (get_or (bank_parts x.number) x.bank nowhere) nowhere

-- what a file answers of one of its slots
unfoldable pub slot_of : RegisterFile → ℕ → Value
slot_of f k = cond (ltb k file_slots && bit f.known k) (Some (get_or f.values k 0)) None

-- what a value gives, unknown where it is
abbrev pub after : Value → (ℕ → Value) → Value
after (Some v) k = k v
after None k = None

-- what a file answers of a part: its bits of the slot's value
unfoldable pub part_value : RegisterFile → Part → Value
part_value f p = after (slot_of f p.slot) (λ v. Some (v / 2 ^ p.below % 2 ^ p.bits))

-- what a file answers of a register; one that the table has not is unknown
unfoldable pub value_of : RegisterFile → RegSpec → Value
value_of f x = part_value f (part_of x)
