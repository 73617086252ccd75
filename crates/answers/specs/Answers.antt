-- What the calls answer: which bits of the number hold what. Bits not named are 0.
use Rattle.std.specs.Prelude.{ℕ, ◌+◌, ◌-◌, ◌*◌, ◌^◌, List, cond, Result}
use Rattle.access.specs.Exceptions.{info_number, info_vectors}
use Rattle.access.specs.Privileges.{level_number}
use Rattle.digest.specs.Digests.{digest_number, digest_in}
use Rattle.difference.specs.declared.logs.Parted.{Parted}
use Rattle.definition.specs.Behaviors.{privilege_number, privilege_in}
use Rattle.definition.specs.Visits.{number_of, opcode_of, count_of}
use Rattle.definition.specs.Readings.{reading_number}
use Rattle.definition.specs.declared.Answer.{Answer}
use Rattle.definition.specs.declared.Reading.{Reading}
use Rattle.definition.specs.declared.Reading.TheVariants.{Found, Bad, Finished}
use Rattle.laws.specs.declared.refusals.Refusal.{Refusal}
use Rattle.digest.specs.declared.BehaviorDigest.{BehaviorDigest}
use Rattle.access.specs.declared.PrivilegeLevel.{PrivilegeLevel}
use Rattle.access.specs.declared.ExceptionInfo.{ExceptionInfo}

-- a number that starts at a bit
abbrev pub at : ℕ → ℕ → ℕ
at bit v = v * 2 ^ bit

-- visit, listing: 0-7 number, 8-23 the opcode after 4, 32-63 the bytes written, or needed after 7; and the buffer beside it
abbrev pub answer_bits : Answer → ℕ
answer_bits a = number_of a + at 8 (opcode_of a) + at 32 (count_of a)

abbrev pub packed : Answer × List ℕ → ℕ × List ℕ
packed o = (answer_bits o.0, o.1)

-- digest: 0-7 number, 8-15 behavior, 16-23 operand_access, 32-47 list
abbrev pub digest_bits : Result BehaviorDigest Refusal → ℕ
digest_bits a = digest_number a + at 8 (digest_in a).behavior + at 16 (digest_in a).operands + at 32 (digest_in a).extra

-- privilege: 0-7 number, 8-15 level
abbrev pub privilege_bits : Result PrivilegeLevel Refusal → ℕ
privilege_bits a = privilege_number a + at 8 (level_number (privilege_in a))

-- exceptions: 0-7 number, 32-63 exception bits
abbrev pub exception_bits : Result ExceptionInfo Refusal → ℕ
exception_bits a = info_number a + at 32 (info_vectors a)

-- event: 0-7 number (255 finished), 32-63 the event's length in bytes
abbrev pub length_from : ℕ → Reading → ℕ
length_from place (Found e next) = next - place
length_from place (Bad k) = 0
length_from place Finished = 0

abbrev pub event_bits : ℕ → Reading → ℕ
event_bits place r = reading_number r + at 32 (length_from place r)

-- difference: 0-7 number, 8 the sign (1 different); the place where the part begins stands in a word beside it
abbrev pub difference_bits : Parted → ℕ
difference_bits p = p.number + at 8 (cond p.differs 1 0)
