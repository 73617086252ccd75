-- Visiting: the refusals in their order, and the log in its place in the buffer.
use Rattle.std.specs.Prelude.{ℕ, List, [], ◌∷◌, ◌++◌, Bool, false, not, cond, length, eqb}
use Rattle.laws.specs.Tests.{first_of}
use Rattle.laws.specs.Lending.{splice}
use Rattle.registers.specs.Files.{file_of, is_file}
use Rattle.registers.specs.declared.RegisterFile.{RegisterFile}
use Rattle.record.specs.Records.{record_of, record_tests}
use Rattle.record.specs.declared.Record.{Record}
use Rattle.definition.specs.Behaviors.{fixed_up, complex}
use Rattle.definition.specs.Steps.{steps_of}
use Rattle.definition.specs.Logs.{events_of, bytes_of}
use Rattle.definition.specs.Refusals.{nameless, sizeless, no_room}
use Rattle.definition.specs.declared.Event.{Event}
use Rattle.definition.specs.declared.Answer.{Answer}
use Rattle.definition.specs.declared.Answer.TheVariants.{Done, Refused, Complex, Short}

-- the record that the bytes are, after fix-ups
abbrev pub fixed_record : List ℕ → Record
fixed_record b = fixed_up (record_of b)

-- the events of the log of a record under a file
unfoldable pub log_of : List ℕ → RegisterFile → List Event
log_of b f = events_of f (steps_of (fixed_record b))

-- the refusal table, for a file that is bad or good
unfoldable pub refusal_of : Bool → List ℕ → RegisterFile → List ℕ → ℕ → ℕ
refusal_of bad b f buffer start =
    first_of
    (record_tests b
    ++ ((bad, 3)
    ∷ (complex (fixed_record b), 4)
    ∷ (nameless (fixed_record b), 5)
    ∷ (sizeless (fixed_record b), 6)
    ∷ (no_room (length (bytes_of (log_of b f))) buffer start, 7)
    ∷ []))

-- an answer and the buffer that it leaves: bytes written from the start, or a refusal that changes nothing; 4 carries the opcode, and 7
-- the bytes needed, which are those of the log or listing itself
unfoldable pub outcome : ℕ → ℕ → List ℕ → List ℕ → ℕ → Answer × List ℕ
outcome number opcode bytes buffer start =
    cond (eqb number 0) (Done (length bytes), splice buffer start bytes)
    (cond (eqb number 4) (Complex opcode, buffer)
    (cond (eqb number 7) (Short (length bytes), buffer)
    (Refused number, buffer)))

unfoldable pub visit_by : Bool → List ℕ → RegisterFile → List ℕ → ℕ → Answer × List ℕ
visit_by bad b f buffer start = outcome (refusal_of bad b f buffer start) (record_of b).opcode (bytes_of (log_of b f)) buffer start

-- under a file that is parsed already, and under a file's bytes
abbrev pub visit_under : List ℕ → RegisterFile → List ℕ → ℕ → Answer × List ℕ
visit_under b f buffer start = visit_by false b f buffer start

abbrev pub visit_of : List ℕ → List ℕ → List ℕ → ℕ → Answer × List ℕ
visit_of b f buffer start = visit_by (not (is_file f)) b (file_of f) buffer start

-- document 01's number of an answer, the opcode that it carries, and the count of bytes, written or needed
abbrev pub number_of : Answer → ℕ
number_of (Done n) = 0
number_of (Refused k) = k
number_of (Complex o) = 4
number_of (Short n) = 7

abbrev pub opcode_of : Answer → ℕ
opcode_of (Done n) = 0
opcode_of (Refused k) = 0
opcode_of (Complex o) = o
opcode_of (Short n) = 0

abbrev pub count_of : Answer → ℕ
count_of (Done n) = n
count_of (Refused k) = 0
count_of (Complex o) = 0
count_of (Short n) = n
