use Rattle.std.proofs.Common.{eq-eqb, ne_eqb}
use Rattle.std.proofs.lemmas.Result.{err_from_is_err_and}
use Rattle.fetching.specs.Judging.{propose_call}
use Rattle.fetch.proofs.judging.propose.Goals as goal

pub returns-in_err-list : goal.returns-in_err-list
unfolding propose_call
returns-in_err-list c =
    let p = err_from_is_err_and c.from_residual.result c.from_residual.ensures.1 in
    let e = c.in_err-list.ensures in
    rw (p.1, p.2, ne_eqb _ 0 e.0, e.1)

pub returns : goal.returns
unfolding propose_call
returns c =
    let l = c.in_ok-list.ensures in
    rw (eq-eqb _ 0 l.2, c.propose_records.ensures, l.0, l.1)
