-- WHAT IS PROMISED of the numbers that the calls answer, each statement after its sentence. proofs/Proved.antt proves them all.
use Rattle.std.specs.Prelude.{ℕ, ◌/◌, ◌%◌, ◌^◌, ◌<◌, ◌≡◌, cond, Result}
use Rattle.access.specs.Exceptions.{info_number, info_vectors}
use Rattle.access.specs.Privileges.{level_number}
use Rattle.digest.specs.Digests.{digest_number, digest_in}
use Rattle.difference.specs.declared.logs.Parted.{Parted}
use Rattle.definition.specs.Behaviors.{privilege_number, privilege_in}
use Rattle.definition.specs.Readings.{reading_number}
use Rattle.definition.specs.Visits.{number_of, opcode_of, count_of}
use Rattle.definition.specs.declared.Answer.{Answer}
use Rattle.definition.specs.declared.Reading.{Reading}
use Rattle.answers.specs.Answers.{answer_bits, digest_bits, privilege_bits, exception_bits, length_from, event_bits, difference_bits}
use Rattle.laws.specs.declared.refusals.Refusal.{Refusal}
use Rattle.digest.specs.declared.BehaviorDigest.{BehaviorDigest}
use Rattle.access.specs.declared.PrivilegeLevel.{PrivilegeLevel}
use Rattle.access.specs.declared.ExceptionInfo.{ExceptionInfo}

-- a number of so many bits that starts at a bit
abbrev pub bits_at : ℕ → ℕ → ℕ → ℕ
bits_at place width v = v / 2 ^ place % 2 ^ width

-- THE ANSWER UNPACKS. Number, opcode and count are read back from the bits of an answer whose parts fit in them.
abbrev pub AnswerUnpacks : Type 0
AnswerUnpacks =
    (a : Answer) → number_of a < 2 ^ 8 → opcode_of a < 2 ^ 16 → count_of a < 2 ^ 32
    → (bits_at 0 8 (answer_bits a) ≡ number_of a) × (bits_at 8 16 (answer_bits a) ≡ opcode_of a) × (bits_at 32 32 (answer_bits a) ≡ count_of a)

-- So are the parts of the other answers.
abbrev pub DigestUnpacks : Type 0
DigestUnpacks =
    (a : Result BehaviorDigest Refusal) → digest_number a < 2 ^ 8 → (digest_in a).behavior < 2 ^ 8 → (digest_in a).operands < 2 ^ 8 → (digest_in a).extra < 2 ^ 16
    → (bits_at 0 8 (digest_bits a) ≡ digest_number a)
    × (bits_at 8 8 (digest_bits a) ≡ (digest_in a).behavior)
    × (bits_at 16 8 (digest_bits a) ≡ (digest_in a).operands)
    × (bits_at 32 16 (digest_bits a) ≡ (digest_in a).extra)

abbrev pub PrivilegeUnpacks : Type 0
PrivilegeUnpacks =
    (a : Result PrivilegeLevel Refusal) → privilege_number a < 2 ^ 8
    → (bits_at 0 8 (privilege_bits a) ≡ privilege_number a) × (bits_at 8 8 (privilege_bits a) ≡ level_number (privilege_in a))

abbrev pub ExceptionsUnpack : Type 0
ExceptionsUnpack =
    (a : Result ExceptionInfo Refusal) → info_number a < 2 ^ 8 → info_vectors a < 2 ^ 32
    → (bits_at 0 8 (exception_bits a) ≡ info_number a) × (bits_at 32 32 (exception_bits a) ≡ info_vectors a)

abbrev pub EventUnpacks : Type 0
EventUnpacks =
    (place : ℕ) (r : Reading) → reading_number r < 2 ^ 8 → length_from place r < 2 ^ 32
    → (bits_at 0 8 (event_bits place r) ≡ reading_number r) × (bits_at 32 32 (event_bits place r) ≡ length_from place r)

abbrev pub DifferenceUnpacks : Type 0
DifferenceUnpacks =
    (p : Parted) → p.number < 2 ^ 8
    → (bits_at 0 8 (difference_bits p) ≡ p.number) × (bits_at 8 1 (difference_bits p) ≡ cond p.differs 1 0)
