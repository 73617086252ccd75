-- What was read is an event. Assumes nothing.
use Rattle.std.proofs.Common.{sym, ◌∙◌}
use Rattle.watching.proofs.Walks.{read_good}
use Rattle.watching.proofs.verdicts.name_event.Goals as goal

pub verdict_on-requires : goal.verdict_on-requires
verdict_on-requires c = read_good c.args.log.now c.args.at (sym c.read_event-r.ensures ∙ c.in-Found.is)
