-- A trace of pairs against a watched variable, one pair at a time.
use Rattle.std.specs.Prelude.{ℕ, ◌+◌, ◌%◌, Bool, cond, ◌&&◌, List, [], ◌∷◌, map, replicate, ◌==◌, nat_lt, Option, None, Result, Ok, Err}
use Rattle.std.specs.Bool.{then_some}
use Rattle.std.specs.Option.{option_or}
use Rattle.laws.specs.declared.refusals.Refusal.{Refusal}
use Rattle.laws.specs.declared.refusals.Refusal.TheVariants.{Outside}
use Rattle.registers.specs.Files.{file_of}
use Rattle.definition.specs.Addresses.{word}
use Rattle.definition.specs.Limits.{most_bytes}
use Rattle.definition.specs.Visits.{log_of, visit_of, number_of}
use Rattle.definition.specs.declared.Event.{Event}
use Rattle.definition.specs.declared.Answer.{Answer}
use Rattle.watching.specs.Verdicts.{variable, is_length, verdict_of}
use Rattle.watching.specs.Tallies.{no_tally, tally_of, added}
use Rattle.watching.specs.declared.verdicts.Variable.{Variable}
use Rattle.watching.specs.declared.verdicts.Verdict.{Verdict}
use Rattle.watching.specs.declared.tallies.Tally.{Tally}
use Rattle.watching.specs.declared.watch.Watch.{Watch}
use Rattle.watching.specs.declared.watch.Stepped.{Stepped}

-- a record's bytes and a register file's
abbrev pub Pair : Type 0
Pair = List ℕ × List ℕ

-- a watch takes so many pairs
abbrev pub most_pairs : ℕ
most_pairs = 1000000

-- room for every log
abbrev pub full : List ℕ
full = replicate most_bytes 0

-- what visiting the pair alone answers, and whether that refuses it (1) or not (0)
unfoldable pub answer_to : Pair → Answer
answer_to p = (visit_of p.0 p.1 full 0).0

abbrev pub refusals : Answer → ℕ
refusals a = cond (number_of a == 0) 0 1

-- the events that visiting the pair alone logs: none where it is refused
unfoldable pub logged_by : Pair → List Event
logged_by p = cond (number_of (answer_to p) == 0) (log_of p.0 (file_of p.1)) []

-- the verdicts of a pair, one for each event of its log
unfoldable pub verdicts_of : Variable → Pair → List Verdict
verdicts_of v p = map (verdict_of v) (logged_by p)

-- the earlier and the later of two numbers, of which the first is the earlier; where one is not there, the other
abbrev pub earlier : Option ℕ → Option ℕ → Option ℕ
earlier x y = option_or x y

abbrev pub later : Option ℕ → Option ℕ → Option ℕ
later x y = option_or y x

-- the watch before any pair; a length that no variable has is refused 2
unfoldable pub fresh : Variable → Watch
fresh v = record { variable = v; pairs = 0; tally = no_tally; refused = 0; first = None; last = None }

unfoldable pub new_of : ℕ → ℕ → Result Watch Refusal
new_of a n = cond (is_length n) (Ok (fresh (variable a n))) (Err Outside)

-- a pair is taken where the variable has a length that there is, and the limit is not reached
unfoldable pub is_taking : Watch → Bool
is_taking w = is_length w.variable.length && nat_lt w.pairs most_pairs

-- the watch with one more pair, refused (1) or not (0), and its own tally; sums are modulo two to the 64
unfoldable pub further : Watch → ℕ → Tally → Watch
further w refused t =
    record {
      variable = w.variable;
      pairs = w.pairs + 1;
      tally = added w.tally t;
      refused = (w.refused + refused) % word;
      first = earlier w.first (then_some (nat_lt 0 t.part) w.pairs);
      last = later w.last (then_some (nat_lt 0 t.whole) w.pairs);
    }

-- what a step gives: a pair that is not taken is refused 2, and it is not looked at
unfoldable pub taken : Watch → Answer → ℕ → Tally → Stepped
taken w a refused t = record { visit = a; tally = t; watch = further w refused t }

unfoldable pub step_of : Watch → Pair → Result Stepped Refusal
step_of w p =
    cond (is_taking w) (Ok (taken w (answer_to p) (refusals (answer_to p)) (tally_of (verdicts_of w.variable p)))) (Err Outside)

-- the watch after a step: a pair that is not taken changes nothing
abbrev pub left_by : Watch → Result Stepped Refusal → Watch
left_by w (Ok s) = s.watch
left_by w (Err r) = w

unfoldable pub after_step : Watch → Pair → Watch
after_step w p = left_by w (step_of w p)

-- the steps of a trace, from a watch on, and from a fresh one
unfoldable pub run_from : Watch → List Pair → Watch
run_from w [] = w
run_from w (p ∷ ps) = run_from (after_step w p) ps

unfoldable pub watch_of : Variable → List Pair → Watch
watch_of v ps = run_from (fresh v) ps
