-- Where an event was read, it ends further on, within the log. Assumes nothing.
use Rattle.std.proofs.Common.{◌^◌, ◌<◌, sym, ◌∙◌, zero-le, arith, rules}
use Rattle.event.proofs.Fronts.{further}
use Rattle.session.proofs.Sums.{unknown_one}
use Rattle.session.proofs.Walks.{begun, goes, ends}
use Rattle.session.proofs.counts.count_log.Goals as goal

pub loop-e-init : goal.loop-e-init
loop-e-init c = record { inside = zero-le; events = zero-le; unknown = zero-le; counted = begun c.args.log.now }

pub returns-in_default : goal.returns-in_default
returns-in_default c =
    let l = c.loop-e in
    ends c.args.log.now l.at c.read_event.result l.counts c.read_event.ensures c.in_default.not-Found ∙ sym l.invariant.counted

pub counting-counts-requires : goal.counting-counts-requires
counting-counts-requires c =
    let m = further c.args.log.now c.loop-e.at c.read_event.ensures c.in-Found.is in
    let k : c.in-Found.next < 2 ^ 64 = search rules in
    (omega arith, omega arith)

pub loop-e-smaller : goal.loop-e-smaller
loop-e-smaller c = let m = further c.args.log.now c.loop-e.at c.read_event.ensures c.in-Found.is in omega arith

pub loop-e-preserved : goal.loop-e-preserved
loop-e-preserved c =
    let l = c.loop-e in
    let log = c.args.log.now in
    let e = c.in-Found.e in
    let m = further log l.at c.read_event.ensures c.in-Found.is in
    record {
      inside = m.1;
      events = rw c.counting-counts.ensures (omega arith);
      unknown = rw c.counting-counts.ensures (omega (arith, unknown_one e));
      counted = l.invariant.counted ∙ goes log l.at l.counts c.counting-counts.result (sym c.read_event.ensures ∙ c.in-Found.is) c.counting-counts.ensures;
    }
