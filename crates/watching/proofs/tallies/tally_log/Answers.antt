-- Each reading goes on, and is counted. Assumes nothing.
use Rattle.std.proofs.Common.{◌≡◌, ◌<◌, ◌≤◌, length, sym, ◌∙◌, subst, zero-le, arith, rules}
use Rattle.definition.specs.declared.Reading.TheVariants.{Found}
use Rattle.definition.specs.Readings.{read_at}
use Rattle.event.proofs.Fronts.{Moves, goes_on_lem}
use Rattle.watching.specs.Tallies.{no_tally}
use Rattle.watching.proofs.Sums.{tally_is, counting_most}
use Rattle.watching.proofs.Walks.{read_good}
use Rattle.watching.proofs.Counted.{begun, goes, ends}
use Rattle.watching.proofs.tallies.tally_log.Goals.{In-Found}
use Rattle.watching.proofs.tallies.tally_log.Goals as goal

pub loop-e-init : goal.loop-e-init
loop-e-init c =
    let none : c.default-t.result ≡ no_tally = tally_is (search rules) (search rules) (search rules) (search rules) in
    rw none (zero-le, zero-le, begun c.args.v.variable c.args.log.now)

pub returns-in_default : goal.returns-in_default
returns-in_default c =
    let l = c.loop-e in
    ends c.args.v.variable c.args.log.now l.at c.read_event-r.result l.t c.read_event-r.ensures c.in_default.not-Found
    ∙ sym l.invariant.2

-- what was read: an event that ends further on, within the log
read : (c : In-Found) → read_at c.args.log.now c.loop-e.at ≡ Found c.in-Found.e c.in-Found.next
read c = sym c.read_event-r.ensures ∙ c.in-Found.is

further : (c : In-Found) → (c.loop-e.at < c.in-Found.next) × (c.in-Found.next ≤ length c.args.log.now)
further c =
    let log = c.args.log.now in
    let at = c.loop-e.at in
    subst (Moves log at) (read c) (goes_on_lem log at)

pub verdict_on-requires : goal.verdict_on-requires
verdict_on-requires c = let d = (goal.at.verdict_on-requires c).In-Found in read_good d.args.log.now d.loop-e.at (read d)

pub loop-e-smaller : goal.loop-e-smaller
loop-e-smaller c = omega (arith, further (goal.at.loop-e-smaller c).In-Found)

pub loop-e-preserved : goal.loop-e-preserved
loop-e-preserved c =
    let d = (goal.at.loop-e-preserved c).In-Found in
    let l = c.loop-e in
    let m = further d in (
      m.1,
      rw c.counting-t.ensures (omega (arith, counting_most c.verdict_on.result l.t, l.invariant.1, m.0)),
      l.invariant.2
          ∙ goes c.args.v.variable c.args.log.now l.at c.in-Found.next c.in-Found.e c.verdict_on.result l.t c.counting-t.result
          (read d) c.verdict_on.ensures c.counting-t.ensures,
    )
