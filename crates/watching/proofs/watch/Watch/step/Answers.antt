-- The length and the limit, then what visiting answered. Assumes nothing.
use Rattle.std.proofs.Common.{◌≡◌, true, sym, length-take-le, rules}
use Rattle.watching.specs.Verdicts.{is_length}
use Rattle.watching.specs.Tallies.{no_tally}
use Rattle.watching.proofs.Sums.{tally_is}
use Rattle.watching.proofs.Steps.{full_takes, step_untaken, step_refused, step_logged, fits}
use Rattle.watching.proofs.watch.Watch.step.Goals as goal

pub returns-then-self-ge-MOST_PAIRS : goal.returns-then-self-ge-MOST_PAIRS
returns-then-self-ge-MOST_PAIRS c =
    let x = c.args in sym (step_untaken x.self (x.bytes.now, x.file.now) (full_takes x.self c.if-self-ge-MOST_PAIRS.true))

pub returns-in_default : goal.returns-in_default
returns-in_default c =
    let x = c.args in
    let v = c.visit_accesses-visit in
    let none : c.default-tally.result ≡ no_tally = tally_is (search rules) (search rules) (search rules) (search rules) in
    let same : c.in_ok-watched.watched.variable ≡ x.self.variable = search rules in
    let long : is_length x.self.variable.length ≡ true = rw (← same) c.in_ok-watched.watched.long in
    rw (c.further.ensures, none)
    (step_refused x.bytes.now x.file.now v.result v.new.log v.ensures x.self long c.if-self-ge-MOST_PAIRS.false c.in_default.not-Done)

pub slice_bounds-log-end : goal.slice_bounds-log-end
slice_bounds-log-end c =
    let v = c.visit_accesses-visit in fits c.args.bytes.now c.args.file.now v.result v.new.log v.ensures c.in-Done.n c.in-Done.is

pub slice_bounds-tally_log-end : goal.slice_bounds-tally_log-end
slice_bounds-tally_log-end c =
    let v = c.visit_accesses-visit in
    sym (length-take-le c.in-Done.n v.new.log (fits c.args.bytes.now c.args.file.now v.result v.new.log v.ensures c.in-Done.n c.in-Done.is))

pub returns : goal.returns
returns c =
    let x = c.args in
    let v = c.visit_accesses-visit in
    let same : c.in_ok-watched.watched.variable ≡ x.self.variable = search rules in
    let long : is_length x.self.variable.length ≡ true = rw (← same) c.in_ok-watched.watched.long in
    rw (c.further-2.ensures, c.tally_log-tally.ensures, same)
    (step_logged x.bytes.now x.file.now v.result v.new.log v.ensures x.self long c.if-self-ge-MOST_PAIRS.false c.in-Done.n c.in-Done.is)
