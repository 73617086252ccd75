-- What the calls on a watch answer: which bits of the number hold what. Bits not named are 0.
use Rattle.std.specs.Prelude.{ℕ, ◌+◌, ◌-◌, Result, Ok, Err}
use Rattle.laws.specs.Refusals.{refusal_number}
use Rattle.laws.specs.declared.refusals.Refusal.{Refusal}
use Rattle.answers.specs.Answers.{at}
use Rattle.definition.specs.Visits.{number_of, opcode_of}
use Rattle.watching.specs.Verdicts.{verdict_number}
use Rattle.watching.specs.declared.verdicts.Naming.{Naming}
use Rattle.watching.specs.declared.verdicts.Naming.TheVariants.{Named, Unnamed, Ended}
use Rattle.watching.specs.declared.tallies.Tally.{Tally}
use Rattle.watching.specs.declared.watch.Stepped.{Stepped}

-- watch_step: 0-7 number, 8-15 visiting's number for the pair, 16-47 a byte for each count of the pair's write events, unknown, none,
-- part, whole, 48-63 the opcode after visiting's 4
abbrev pub tally_bits : Tally → ℕ
tally_bits t = t.unknown + at 8 t.none + at 16 t.part + at 24 t.whole

abbrev pub stepped_bits : Result Stepped Refusal → ℕ
stepped_bits (Ok s) = at 8 (number_of s.visit) + at 16 (tally_bits s.tally) + at 48 (opcode_of s.visit)
stepped_bits (Err r) = refusal_number r

-- verdict: 0-7 number (255 finished), 8-15 the verdict's number, 16-23 a bit for each byte of the variable that was written, 32-63 the
-- event's length in bytes
abbrev pub naming_bits : ℕ → Naming → ℕ
naming_bits place (Named v touched next) = at 8 (verdict_number v) + at 16 touched + at 32 (next - place)
naming_bits place (Unnamed r) = refusal_number r
naming_bits place Ended = 255
