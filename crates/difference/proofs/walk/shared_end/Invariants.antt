-- The place and what the events from it on have in common are the whole common front. An event of the second log ends
-- further on, so the walk does.
use Rattle.std.proofs.Common.{◌≡◌, ◌-◌, ◌≤◌, length}
use Rattle.event.specs.Wholes.{events_in, whole_of}
use Rattle.difference.specs.Partings.{parting_at}
use Rattle.difference.proofs.Walks.{ahead}
use Rattle.difference.proofs.walk.shared_end.Given as goal

abbrev pub invariant-loop-d : goal.invariant-loop-d
invariant-loop-d l =
    record {
      inside : l.at ≤ length l.second;
      shared : parting_at (events_in (whole_of l.first)) (events_in (whole_of l.second)) ≡ ahead l.first l.second l.at;
    }

abbrev pub decreases-loop-d : goal.decreases-loop-d
decreases-loop-d l = length l.second - l.at
