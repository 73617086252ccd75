-- The words after all events are those so far, raised by the events from the place on. Each event ends further on, so the walk does.
use Rattle.std.proofs.Common.{◌≡◌, ◌-◌, ◌≤◌, length}
use Rattle.totals.specs.Sheets.{raised_by}
use Rattle.totals.proofs.Raising.{rest}
use Rattle.totals.proofs.words.add_events.Given as goal

abbrev pub invariant-loop-e : goal.invariant-loop-e
invariant-loop-e l =
    record {
      inside : l.at ≤ length l.log;
      raised : raised_by l.initial.words (rest l.v.variable l.log 0) ≡ raised_by l.words (rest l.v.variable l.log l.at);
    }

abbrev pub decreases-loop-e : goal.decreases-loop-e
decreases-loop-e l = length l.log - l.at
