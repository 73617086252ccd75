-- The whole count is n and the events from the place on. Each event ends further on, so the walk does.
use Rattle.std.proofs.Common.{◌≡◌, ◌-◌, ◌≤◌, length}
use Rattle.event.specs.Counts.{counted_of}
use Rattle.event.proofs.Walks.{whole_at, after}
use Rattle.event.proofs.walk.count_events.Given as goal

abbrev pub invariant-loop-next : goal.invariant-loop-next
invariant-loop-next l =
    record {
      inside : l.at ≤ length l.log;
      few : l.n ≤ l.at;
      counted : counted_of l.log ≡ after l.n (whole_at l.log l.at);
    }

abbrev pub decreases-loop-next : goal.decreases-loop-next
decreases-loop-next l = length l.log - l.at
