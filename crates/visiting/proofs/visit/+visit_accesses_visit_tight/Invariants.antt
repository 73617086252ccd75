-- A visit that lacks room calls visit_tight, which visits once more, aside, where the longest log has room.
use mathlib.Core.Bool.{cond}
use lib.ListN.{length}
use Rattle.laws.specs.Lending.{lacks_room}
use Rattle.definition.specs.Limits.{most_bytes}
use Rattle.visiting.proofs.visit.+visit_accesses_visit_tight.Given as goal

-- it lacks room, is visited aside, has room
abbrev pub decreases-visit_accesses : goal.decreases-visit_accesses
decreases-visit_accesses l = cond (lacks_room most_bytes l.start (length l.log.now)) 2 0

abbrev pub decreases-visit_tight : goal.decreases-visit_tight
decreases-visit_tight l = 1
