-- By what visiting answered. Assumes nothing.
use Rattle.session.proofs.Visited.{append_refused, append_done, fits}
use Rattle.session.proofs.appends.Session.append.Goals as goal

pub returns-in_default : goal.returns-in_default
returns-in_default c = append_refused _ _ _ c.args.self _ _ c.visit_accesses-answer.ensures c.in_default.not-Done

pub further-after-requires : goal.further-after-requires
further-after-requires c = fits _ _ _ c.args.self _ _ c.visit_accesses-answer.ensures _ c.in-Done.is

pub returns : goal.returns
returns c = append_done _ _ _ c.args.self _ _ c.visit_accesses-answer.ensures _ c.in-Done.is _ c.further-after.ensures
