-- WHAT IS PROMISED of the numbers that the calls on a watch answer, each statement after its sentence. proofs/Proved.antt proves them all.
use Rattle.std.specs.Prelude.{ℕ, ◌-◌, ◌^◌, ◌<◌, ◌≡◌, Ok, Err}
use Rattle.laws.specs.Refusals.{refusal_number}
use Rattle.laws.specs.declared.refusals.Refusal.{Refusal}
use Rattle.answers.specs.Promises.{bits_at}
use Rattle.definition.specs.Visits.{number_of, opcode_of}
use Rattle.watching.specs.Tallies.{total}
use Rattle.watching.specs.Verdicts.{verdict_number}
use Rattle.watching.specs.declared.verdicts.Naming.TheVariants.{Named}
use Rattle.watching.specs.declared.verdicts.Verdict.{Verdict}
use Rattle.watching.specs.declared.watch.Stepped.{Stepped}
use Rattle.watch_words.specs.Bits.{stepped_bits, naming_bits}

-- A STEP'S ANSWER UNPACKS. Its number, visiting's number and opcode, and the four counts are read back from its bits. Where the step is
-- refused, its number is, and all other bits are 0.
abbrev pub StepUnpacks : Type 0
StepUnpacks =
    ((s : Stepped) → number_of s.visit < 2 ^ 8 → total s.tally < 2 ^ 8 → opcode_of s.visit < 2 ^ 16
    → (bits_at 0 8 (stepped_bits (Ok s)) ≡ 0)
    × (bits_at 8 8 (stepped_bits (Ok s)) ≡ number_of s.visit)
    × (bits_at 16 8 (stepped_bits (Ok s)) ≡ s.tally.unknown)
    × (bits_at 24 8 (stepped_bits (Ok s)) ≡ s.tally.none)
    × (bits_at 32 8 (stepped_bits (Ok s)) ≡ s.tally.part)
    × (bits_at 40 8 (stepped_bits (Ok s)) ≡ s.tally.whole)
    × (bits_at 48 16 (stepped_bits (Ok s)) ≡ opcode_of s.visit))
    × ((r : Refusal) → (bits_at 0 8 (stepped_bits (Err r)) ≡ refusal_number r) × (bits_at 8 56 (stepped_bits (Err r)) ≡ 0))

-- A VERDICT'S ANSWER UNPACKS. So are the verdict, the bytes touched and the event's length; its number is 0.
abbrev pub VerdictUnpacks : Type 0
VerdictUnpacks =
    (place : ℕ) (v : Verdict) (touched next : ℕ) → touched < 2 ^ 8 → next - place < 2 ^ 32
    → (bits_at 0 8 (naming_bits place (Named v touched next)) ≡ 0)
    × (bits_at 8 8 (naming_bits place (Named v touched next)) ≡ verdict_number v)
    × (bits_at 16 8 (naming_bits place (Named v touched next)) ≡ touched)
    × (bits_at 32 32 (naming_bits place (Named v touched next)) ≡ next - place)
