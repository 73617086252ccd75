use Rattle.std.proofs.Common.{eq-eqb, ne_eqb, lt-ltb, le-ltb}
use Rattle.std.proofs.lemmas.Result.{err_from_is_err_and}
use Rattle.fetching.specs.Judging.{judge, judge_call}
use Rattle.fetch.proofs.judging.judge.Goals as goal

pub returns-in_err-list : goal.returns-in_err-list
unfolding judge_call
returns-in_err-list c =
    let p = err_from_is_err_and c.from_residual.result c.from_residual.ensures.1 in
    let e = c.in_err-list.ensures in
    rw (p.1, p.2, ne_eqb _ 0 e.0, e.1)

pub returns-then-set-lt-SETS : goal.returns-then-set-lt-SETS
unfolding judge_call judge
returns-then-set-lt-SETS c =
    let l = c.in_ok-list.ensures in
    rw (eq-eqb _ 0 l.2, lt-ltb _ _ c.if-set-lt-SETS.true, c.judge_records.ensures, l.0, l.1)

pub returns-else-set-lt-SETS : goal.returns-else-set-lt-SETS
unfolding judge_call judge
returns-else-set-lt-SETS c =
    let l = c.in_ok-list.ensures in
    rw (eq-eqb _ 0 l.2, le-ltb _ _ c.if-set-lt-SETS.false)
