-- Where an event was read, it ends further on, within the log. Assumes nothing.
use Rattle.std.proofs.Common.{sym, refl, ap, ◌∙◌, zero-le, arith}
use Rattle.event.proofs.Fronts.{further, read_good}
use Rattle.totals.specs.Sheets.{raised_by}
use Rattle.totals.proofs.Raising.{goes, ends}
use Rattle.totals.proofs.words.add_events.Goals as goal

pub loop-e-init : goal.loop-e-init
loop-e-init c = record { inside = zero-le; raised = refl }

pub returns-in_default : goal.returns-in_default
unfolding raised_by
returns-in_default c =
    let l = c.loop-e in
    let x = c.args in
    ap (raised_by l.words) (ends x.v.variable x.log.now l.at c.read_event.result c.read_event.ensures c.in_default.not-Found) ∙ sym l.invariant.raised

pub add_event-requires : goal.add_event-requires
add_event-requires c = read_good c.args.log.now c.loop-e.at (sym c.read_event.ensures ∙ c.in-Found.is)

pub loop-e-smaller : goal.loop-e-smaller
loop-e-smaller c = let m = further c.args.log.now c.loop-e.at c.read_event.ensures c.in-Found.is in omega arith

pub loop-e-preserved : goal.loop-e-preserved
loop-e-preserved c =
    let l = c.loop-e in
    let x = c.args in
    record {
      inside = (further x.log.now l.at c.read_event.ensures c.in-Found.is).1;
      raised = l.invariant.raised ∙ goes x.v.variable x.log.now l.at l.words c.add_event.new.words (sym c.read_event.ensures ∙ c.in-Found.is) c.add_event.ensures;
    }
