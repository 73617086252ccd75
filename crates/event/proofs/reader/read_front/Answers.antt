-- The contents of a whole body decide. Assumes nothing.
use native.Mathlib.Omega.{arith}
use Rattle.event.proofs.Fronts.{front_whole}
use Rattle.event.proofs.reader.read_front.Goals as goal

pub returns-then-is_event : goal.returns-then-is_event
returns-then-is_event c = rw c.if-is_event.true at (front_whole c.args.log.now c.body_of-body.ensures c.if-body-eq0.false (omega arith) c.front_event-e.ensures c.is_event.ensures)

pub returns-else-is_event : goal.returns-else-is_event
returns-else-is_event c = rw c.if-is_event.false at (front_whole c.args.log.now c.body_of-body.ensures c.if-body-eq0.false (omega arith) c.front_event-e.ensures c.is_event.ensures)
