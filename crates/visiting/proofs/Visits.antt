-- A record that is read and fixed up, by the number of its refusal, where the longest log has room. Assumes nothing.
use Prim.Native.Nat.{ℕ, ◌≤◌, zero-le}
use native.Mathlib.Nat.{zero-add}
use native.Mathlib.Omega.{arith}
use mathlib.Core.Path.{◌≡◌, sym, ap, ◌∙◌}
use mathlib.Core.List.{List}
use mathlib.Core.Bool.{Bool, true, false}
use lib.ListN.{length}
use Rattle.laws.specs.Lists.{each}
use Rattle.laws.specs.Lending.{size, Logged, lacks_room, splice}
use Rattle.laws.specs.Tests.{first_of}
use Rattle.laws.proofs.Room.{has_room}
use Rattle.registers.specs.declared.RegisterFile.{RegisterFile}
use Rattle.record.specs.Halves.{plain_record, completed_record}
use Rattle.record.specs.Records.{RecordLong, record_of, record_refusal}
use Rattle.record.specs.declared.Record.{Record}
use Rattle.record.proofs.Laws.{record_long, passed, halves}
use Rattle.definition.specs.Limits.{most_bytes}
use Rattle.definition.specs.Behaviors.{fixed_up, complex}
use Rattle.definition.specs.Logs.{event_bytes, bytes_of}
use Rattle.definition.specs.Refusals.{nameless, sizeless}
use Rattle.definition.specs.Visits.{outcome, visit_by}
use Rattle.definition.specs.declared.Answer.TheVariants.{Done, Refused, Complex}
use Rattle.definition.specs.declared.Event.{Event}
use Rattle.definition.proofs.Bounds.{log_bytes_lem}
use Rattle.definition.proofs.Outcomes.{refused, refused_complex}
use Rattle.address.specs.Places.{sources_of}
use Rattle.address.specs.declared.places.Sources.{Sources}
use Rattle.steps.specs.Parts.{Lent}
use Rattle.steps.proofs.Lent.{lent_fixed}
use Rattle.steps.specs.Whole.{log_events}
use Rattle.steps.proofs.Logs.{log_is}
use Rattle.visiting.specs.Records.{log_bytes, first_refusal, refusal_in, visit_record}
use Rattle.visiting.proofs.Calls.{visited}

-- the log as the writers leave it
pub bytes_are : (x : Record) (f : RegisterFile) → each event_bytes (log_events x (sources_of f x)) ≡ log_bytes x f
unfolding log_bytes
bytes_are x f = ap (λ (es : List Event). bytes_of es) (sym (log_is f x))

-- no log is longer
pub at_most : (x : Record) (f : RegisterFile) → length (log_bytes x f) ≤ most_bytes
unfolding log_bytes
at_most x f = log_bytes_lem f x

pub fits : (x : Record) (f : RegisterFile) {k : ℕ} → most_bytes ≤ k → size event_bytes (log_events x (sources_of f x)) ≤ k
unfolding size
fits x f h = rw (bytes_are x f) (omega (arith, at_most x f))

roomy : (x : Record) (f : RegisterFile) (buffer : List ℕ) → most_bytes ≤ length buffer → lacks_room (length (log_bytes x f)) 0 (length buffer) ≡ false
roomy x f buffer h = has_room (length (log_bytes x f)) 0 (length buffer) zero-le (omega (arith, at_most x f))

-- so 7 is not given
not_seven : (a b c : Bool) {number : ℕ} → number ≡ first_refusal a b c false → number ≡ 7 → ⊥
unfolding first_refusal first_of
not_seven true b c e z = omega arith
not_seven false true c e z = omega arith
not_seven false false true e z = omega arith
not_seven false false false e z = omega arith

module _
    (x : Record) (f : RegisterFile) (buffer : List ℕ) (room : most_bytes ≤ length buffer) {number : ℕ}
    (told : number ≡ first_refusal (complex x) (nameless x) (sizeless x) false)
  where
    refusal_is : refusal_in x f buffer 0 ≡ number
    unfolding refusal_in
    refusal_is = rw (roomy x f buffer room) (sym told)

    done :
        {n : ℕ} {ys : List ℕ}
        → number ≡ 0 → Logged event_bytes (log_events x (sources_of f x)) buffer ys n → (Done n, ys) ≡ visit_record x f buffer 0
    unfolding visit_record outcome splice
    done z l = rw (refusal_is ∙ z, ← bytes_are x f, zero-add, l.count, l.bytes)

    is_complex_lem : number ≡ 4 → (Complex x.opcode, buffer) ≡ visit_record x f buffer 0
    unfolding visit_record
    is_complex_lem z = sym (refused_complex x.opcode (log_bytes x f) buffer 0 (refusal_is ∙ z))

    is_refused : (number ≡ 0 → ⊥) → (number ≡ 4 → ⊥) → (Refused number, buffer) ≡ visit_record x f buffer 0
    unfolding visit_record
    is_refused z c = sym (refused x.opcode (log_bytes x f) buffer 0 refusal_is (z, c, not_seven (complex x) (nameless x) (sizeless x) told))

-- The same of the bytes of a record that passed, by the steps in which they are read
pub long : (b : List ℕ) → record_refusal b ≡ 0 → RecordLong b
long b z = record_long b (passed b z).is

module _
    (b : List ℕ) {plain read x : Record} (z : record_refusal b ≡ 0) (p : plain ≡ plain_record b) (r : read ≡ completed_record plain b)
    (fixed : x ≡ fixed_up read)
  where
    whole : read ≡ record_of b
    whole = rw p at r ∙ halves b

    pub lent : Lent x b
    lent = lent_fixed b (long b z).0 whole fixed

    module _
        (f : RegisterFile) (buffer : List ℕ) {number : ℕ} (room : most_bytes ≤ length buffer)
        (told : number ≡ first_refusal (complex x) (nameless x) (sizeless x) false)
      where
        visit_is : visit_record x f buffer 0 ≡ visit_by false b f buffer 0
        visit_is = rw fixed (visited b buffer 0 f z whole)

        pub visit_done :
            {g : RegisterFile} {at : Sources} {n : ℕ} {ys : List ℕ}
            → number ≡ 0 → g ≡ f → at ≡ sources_of g x → Logged event_bytes (log_events x at) buffer ys n
            → (Done n, ys) ≡ visit_by false b f buffer 0
        visit_done zero parsed found l = done x f buffer room told zero (rw (found, parsed) at l) ∙ visit_is

        pub visit_complex : number ≡ 4 → (Complex x.opcode, buffer) ≡ visit_by false b f buffer 0
        visit_complex four = is_complex_lem x f buffer room told four ∙ visit_is

        pub visit_refused : (number ≡ 0 → ⊥) → (number ≡ 4 → ⊥) → (Refused number, buffer) ≡ visit_by false b f buffer 0
        visit_refused zero four = is_refused x f buffer room told zero four ∙ visit_is
