-- The whole counts are those so far and those of the events from the place on. Each event ends further on, so the walk does, and no
-- count passes the place.
use Rattle.std.proofs.Common.{◌≡◌, ◌-◌, ◌≤◌, length}
use Rattle.event.specs.Wholes.{events_in, whole_of}
use Rattle.session.specs.Sessions.{counts_of}
use Rattle.session.proofs.Sums.{summed}
use Rattle.session.proofs.Walks.{rest}
use Rattle.session.proofs.counts.count_log.Given as goal

abbrev pub invariant-loop-e : goal.invariant-loop-e
invariant-loop-e l =
    record {
      inside : l.at ≤ length l.log;
      events : l.counts.events ≤ l.at;
      unknown : l.counts.unknown ≤ l.at;
      counted : counts_of (events_in (whole_of l.log)) ≡ summed l.counts (rest l.log l.at);
    }

abbrev pub decreases-loop-e : goal.decreases-loop-e
decreases-loop-e l = length l.log - l.at
