-- An event of the second log ends further on, within it. Assumes nothing.
use native.Mathlib.Omega.{arith}
use mathlib.Core.Path.{sym, ◌∙◌}
use Rattle.event.proofs.Fronts.{further}
use Rattle.difference.proofs.Walks.{first_stops, second_stops, parts, both}
use Rattle.difference.proofs.walk.shared_end.Goals as goal

-- the first log has no event there
pub returns-in_default : goal.returns-in_default
returns-in_default c =
    (sym (c.loop-d.invariant.shared ∙ first_stops c.args.first.now c.args.second.now c.loop-d.at _ c.read_event.ensures c.in_default.not-Found), c.loop-d.invariant.inside)

-- the second log has none
pub returns-in_default-read_event : goal.returns-in_default-read_event
returns-in_default-read_event c =
    let first = sym c.read_event.ensures ∙ c.in-Found.is in (
      sym (c.loop-d.invariant.shared ∙ second_stops c.args.first.now c.args.second.now c.loop-d.at _ first _ c.read_event-in-loop-d.ensures c.in_default-read_event.not-Found),
      c.loop-d.invariant.inside,
    )

pub loop-d-smaller : goal.loop-d-smaller
loop-d-smaller c = let m = further c.args.second.now c.loop-d.at c.read_event-in-loop-d.ensures c.in-Found-read_event.is in omega arith

-- two events that are the same
pub loop-d-preserved : goal.loop-d-preserved
loop-d-preserved c =
    let m = further c.args.second.now c.loop-d.at c.read_event-in-loop-d.ensures c.in-Found-read_event.is in
    let first = sym c.read_event.ensures ∙ c.in-Found.is in
    let second = sym c.read_event-in-loop-d.ensures ∙ c.in-Found-read_event.is in
    record {
      inside = m.1;
      shared = c.loop-d.invariant.shared ∙ both c.args.first.now c.args.second.now c.loop-d.at _ first _ second (sym c.same_event.ensures ∙ c.if-same_event.true);
    }

-- two that differ
pub returns-else-same_event : goal.returns-else-same_event
returns-else-same_event c =
    let first = sym c.read_event.ensures ∙ c.in-Found.is in
    let second = sym c.read_event-in-loop-d.ensures ∙ c.in-Found-read_event.is in (
      sym (c.loop-d.invariant.shared ∙ parts c.args.first.now c.args.second.now c.loop-d.at _ first _ second (sym c.same_event.ensures ∙ c.if-same_event.false)),
      c.loop-d.invariant.inside,
    )
