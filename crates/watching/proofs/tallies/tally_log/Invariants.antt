-- The whole tally is what was counted and that of the events from the place on. Each event ends further on, so the walk does, and no
-- count passes the place. Assumes nothing.
use Rattle.std.proofs.Common.{◌≡◌, ◌-◌, ◌≤◌, map, length}
use Rattle.watching.specs.Verdicts.{verdict_of}
use Rattle.watching.specs.Tallies.{tally_of, total, summed}
use Rattle.watching.specs.Walks.{events_in}
use Rattle.watching.proofs.Walks.{left}
use Rattle.watching.proofs.tallies.tally_log.Given as goal

abbrev pub invariant-loop-e : goal.invariant-loop-e
invariant-loop-e l =
    (l.at ≤ length l.log) × (total l.t ≤ l.at)
    × (tally_of (map (verdict_of l.v.variable) (events_in l.log)) ≡ summed l.t (tally_of (map (verdict_of l.v.variable) (left l.log l.at))))

abbrev pub decreases-loop-e : goal.decreases-loop-e
decreases-loop-e l = length l.log - l.at
