-- Visiting a record that is read and fixed up: the last four refusals of the table, and the log.
use Rattle.std.specs.Prelude.{ℕ, List, [], ◌∷◌, Bool, length}
use Rattle.laws.specs.Lending.{lacks_room}
use Rattle.laws.specs.Tests.{first_of}
use Rattle.registers.specs.declared.RegisterFile.{RegisterFile}
use Rattle.record.specs.declared.Record.{Record}
use Rattle.definition.specs.Behaviors.{complex}
use Rattle.definition.specs.Steps.{steps_of}
use Rattle.definition.specs.Logs.{events_of, bytes_of}
use Rattle.definition.specs.Refusals.{nameless, sizeless}
use Rattle.definition.specs.Visits.{outcome}
use Rattle.definition.specs.declared.Answer.{Answer}

-- the bytes of the log of a record under a file
unfoldable pub log_bytes : Record → RegisterFile → List ℕ
log_bytes x f = bytes_of (events_of f (steps_of x))

-- the first of the four, from whether each is given
unfoldable pub first_refusal : Bool → Bool → Bool → Bool → ℕ
first_refusal fourth fifth sixth seventh = first_of ((fourth, 4) ∷ (fifth, 5) ∷ (sixth, 6) ∷ (seventh, 7) ∷ [])

unfoldable pub refusal_in : Record → RegisterFile → List ℕ → ℕ → ℕ
refusal_in x f buffer start = first_refusal (complex x) (nameless x) (sizeless x) (lacks_room (length (log_bytes x f)) start (length buffer))

unfoldable pub visit_record : Record → RegisterFile → List ℕ → ℕ → Answer × List ℕ
visit_record x f buffer start = outcome (refusal_in x f buffer start) x.opcode (log_bytes x f) buffer start
