-- WHAT IS PROMISED of the judge and the proposer, each statement after its sentence. proofs/Proved.antt proves them all; nothing is
-- assumed.
use Rattle.std.specs.Prelude.{ℕ, ◌+◌, ◌^◌, ◌≤◌, ◌<◌, ◌≡◌, ◌↔◌, true, false, ◌&&◌, ◌||◌, length, get_or, None}
use mathlib.Core.List.{List, [], ◌++◌, Memᴰ}
use Rattle.laws.specs.Words.{bit}
use Rattle.registers.specs.Files.{file_of, is_file, part_of, slot_of}
use Rattle.registers.specs.declared.RegSpec.{RegSpec}
use Rattle.registers.specs.declared.RegisterFile.{RegisterFile}
use Rattle.registers.specs.Values.{Value}
use Rattle.implicit.specs.declared.Way.{Way}
use Rattle.definition.specs.Addresses.{registers_of, address_of, segment_registers, based_of}
use Rattle.definition.specs.Limits.{most_bytes}
use Rattle.definition.specs.Steps.{touches, steps_of}
use Rattle.definition.specs.Visits.{fixed_record, log_of, visit_under, visit_of, number_of}
use Rattle.definition.specs.declared.Address.{Address}
use Rattle.fetching.specs.Needs.{held_registers, refusal_alone, needs_of}
use Rattle.fetching.specs.Judging.{set_bits, all_in, accepts, judge, proposed, restricted, all_known}
use Rattle.fetching.specs.declared.Judgement.TheVariants.{Accepted, NoSuchBit, Lacking}

abbrev pub RecordBytes : Type 0
RecordBytes = List ℕ

-- a register is in a set that a record of the list needs
abbrev pub Suffices : ℕ → List RecordBytes → Type 0
Suffices v bs = (b : RecordBytes) → Memᴰ b bs → (k : ℕ) → Memᴰ k (needs_of b) → bit v k ≡ true

-- THE JUDGE IS RIGHT, both ways: a set is accepted exactly where no bit above the last is set and every register that a record of the
-- list needs is in the set.
abbrev pub JudgeIsRight : Type 0
JudgeIsRight =
    (v : ℕ) (bs : List RecordBytes)
    → (accepts v bs ≡ true → (v < 2 ^ set_bits) × Suffices v bs) × (v < 2 ^ set_bits → Suffices v bs → accepts v bs ≡ true)

-- What it says is that: Accepted where the set is accepted, NoSuchBit where a bit above the last is set.
abbrev pub JudgeAgrees : Type 0
JudgeAgrees =
    (v : ℕ) (bs : List RecordBytes)
    → (judge v bs ≡ Accepted ↔ accepts v bs ≡ true) × (judge v bs ≡ NoSuchBit ↔ 2 ^ set_bits ≤ v)

-- What it names else is the first record that lacks a register, and the lowest that it lacks.
abbrev pub Lacks : ℕ → RecordBytes → ℕ → Type 0
Lacks v b k = Memᴰ k (needs_of b) × (bit v k ≡ false) × ((j : ℕ) → j < k → Memᴰ j (needs_of b) → bit v j ≡ true)

abbrev pub JudgeNames : Type 0
JudgeNames =
    (v : ℕ) (bs : List RecordBytes) (i k : ℕ) → judge v bs ≡ Lacking i k
    → (i < length bs) × Lacks v (get_or bs i []) k × ((j : ℕ) → j < i → all_in v (needs_of (get_or bs j [])) ≡ true)

-- THE PROPOSER'S SET IS ACCEPTED, and every accepted set contains it.
abbrev pub ProposedAccepted : Type 0
ProposedAccepted = (bs : List RecordBytes) → accepts (proposed bs) bs ≡ true

abbrev pub ProposedLeast : Type 0
ProposedLeast = (v : ℕ) (bs : List RecordBytes) → accepts v bs ≡ true → (k : ℕ) → bit (proposed bs) k ≡ true → bit v k ≡ true

-- BLOCKS UNITE. A set is accepted for two lists together exactly where it is for each, and what is proposed for both is the union.
abbrev pub BlocksUnite : Type 0
BlocksUnite =
    (bs cs : List RecordBytes)
    → ((v : ℕ) → accepts v (bs ++ cs) ≡ (accepts v bs && accepts v cs))
    × ((k : ℕ) → bit (proposed (bs ++ cs)) k ≡ (bit (proposed bs) k || bit (proposed cs) k))

-- A record is refused alike under every good file and in every buffer with room for a log: which of them the definition takes says nothing.
abbrev pub RefusedAlike : Type 0
RefusedAlike =
    (b : RecordBytes) (f : RegisterFile) (buffer : List ℕ) (start : ℕ) → start + most_bytes ≤ length buffer
    → number_of (visit_under b f buffer start).0 ≡ refusal_alone b

-- A restricted file answers the registers of the set as before, and no other.
abbrev pub RestrictedIs : Type 0
RestrictedIs =
    (v : ℕ) (f : RegisterFile) (k : ℕ)
    → (bit v k ≡ true → slot_of (restricted v f) k ≡ slot_of f k) × (bit v k ≡ false → slot_of (restricted v f) k ≡ None)

-- two files answer the registers of a set alike
abbrev pub AlikeOn : ℕ → RegisterFile → RegisterFile → Type 0
AlikeOn v f g = (k : ℕ) → bit v k ≡ true → slot_of f k ≡ slot_of g k

-- NOTHING IS LOST. Every record of the list is visited alike, in its answer and its buffer, under two files that answer the registers of
-- an accepted set alike, whatever else they know; and the logs as defined are equal for those that are not refused.
abbrev pub NothingLost : Type 0
NothingLost =
    (v : ℕ) (bs : List RecordBytes) (f g : RegisterFile) → accepts v bs ≡ true → AlikeOn v f g
    → (b : RecordBytes) → Memᴰ b bs
    → ((buffer : List ℕ) (start : ℕ) → visit_under b f buffer start ≡ visit_under b g buffer start) × (refusal_alone b ≡ 0 → log_of b f ≡ log_of b g)

-- So also under a file and under the same file restricted to the set.
abbrev pub RestrictedSuffices : Type 0
RestrictedSuffices =
    (v : ℕ) (bs : List RecordBytes) (f : RegisterFile) → accepts v bs ≡ true
    → (b : RecordBytes) → Memᴰ b bs
    → (buffer : List ℕ) (start : ℕ) → visit_under b f buffer start ≡ visit_under b (restricted v f) buffer start

-- And so the call, over the bytes of two good files: what they hold beyond the set makes no difference.
abbrev pub CallsLoseNothing : Type 0
CallsLoseNothing =
    (v : ℕ) (bs : List RecordBytes) (f g : List ℕ) → is_file f ≡ true → is_file g ≡ true
    → accepts v bs ≡ true → AlikeOn v (file_of f) (file_of g)
    → (b : RecordBytes) → Memᴰ b bs
    → (buffer : List ℕ) (start : ℕ) → visit_of b f buffer start ≡ visit_of b g buffer start

-- where an access lies under a file, by its segment and its address
abbrev pub place_under : RegisterFile → ℕ → Address → Value
place_under f s a = based_of f s (address_of f a)

-- every register of an access's address is one that a file holds
abbrev pub AllHeld : ℕ → Address → Type 0
AllHeld s a = (y : RegSpec) → Memᴰ y (segment_registers s ++ registers_of a) → (part_of y).slot < held_registers

-- NOTHING IS SPARE. Each register of the proposed set enters the address of a memory access of a record of the list that is not refused.
-- Under a file that does not know that register the address is unknown. Under the file that knows every register it is known, unless the
-- address has a register that no file holds (a vector register, K, RFLAGS or bank 12), which keeps it unknown under every file.
abbrev pub NothingSpare : Type 0
NothingSpare =
    (bs : List RecordBytes) (k : ℕ) → bit (proposed bs) k ≡ true
    → (b : RecordBytes) × (w : Way) × (s : ℕ) × (a : Address) × (m : ℕ) × (n : ℕ)
    × Memᴰ b bs × (refusal_alone b ≡ 0) × Memᴰ (touches w s a m n) (steps_of (fixed_record b))
    × ((f : RegisterFile) → slot_of f k ≡ None → place_under f s a ≡ None)
    × (AllHeld s a → place_under all_known s a ≡ None → ⊥)
