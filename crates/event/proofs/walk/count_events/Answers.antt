-- Where an event was read, it ends further on, within the log. Assumes nothing.
use Prim.Native.Nat.{zero-le}
use native.Mathlib.Omega.{arith}
use mathlib.Core.Path.{sym, ap, ◌∙◌}
use Rattle.definition.specs.declared.Reading.{Reading}
use Rattle.event.specs.Wholes.{onward, whole_of}
use Rattle.event.specs.Counts.{counted_of}
use Rattle.event.proofs.Fronts.{further}
use Rattle.event.proofs.Walks.{whole_at, turn, after, after_none, after_one, stopped}
use Rattle.event.proofs.walk.count_events.Goals as goal

pub loop-next-init : goal.loop-next-init
unfolding counted_of
loop-next-init c = record { inside = zero-le; few = zero-le; counted = after_none (whole_of c.args.log.now) }

pub returns-in_default : goal.returns-in_default
returns-in_default c =
    let l = c.loop-next in
    let log = c.args.log.now in
    c.ended.ensures
    ∙ stopped c.read_event-r.result (whole_at log) l.n c.in_default.not-Found
    ∙ ap (λ (r : Reading). after l.n (onward r (whole_at log))) c.read_event-r.ensures
    ∙ sym (l.invariant.counted ∙ ap (after l.n) (turn log l.at))

pub overflow_add-n : goal.overflow_add-n
overflow_add-n c = let m = further c.args.log.now c.loop-next.at c.read_event-r.ensures c.in-Found.is in omega arith

pub loop-next-smaller : goal.loop-next-smaller
loop-next-smaller c = let m = further c.args.log.now c.loop-next.at c.read_event-r.ensures c.in-Found.is in omega arith

pub loop-next-preserved : goal.loop-next-preserved
loop-next-preserved c =
    let l = c.loop-next in
    let log = c.args.log.now in
    let m = further log l.at c.read_event-r.ensures c.in-Found.is in
    record {
      inside = m.1;
      few = omega arith;
      counted =
          l.invariant.counted
          ∙ ap (after l.n) (turn log l.at ∙ ap (λ (r : Reading). onward r (whole_at log)) (sym c.read_event-r.ensures ∙ c.in-Found.is))
          ∙ after_one c.in-Found.field-0 l.n (whole_at log c.in-Found.next);
    }
