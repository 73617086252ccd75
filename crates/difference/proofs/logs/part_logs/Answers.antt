-- The first log reads whole and the second does not. Assumes nothing.
use mathlib.Core.Path.{◌∙◌}
use Rattle.difference.proofs.Compared.{second_refused}
use Rattle.difference.proofs.logs.part_logs.Goals as goal

pub returns-in-Err-count_events : goal.returns-in-Err-count_events
returns-in-Err-count_events c =
    c.refused-in-Err-count_events.ensures
    ∙ second_refused c.args.first.now c.args.second.now c.count_events.ensures c.in_default.is c.count_events-2.ensures c.in-Err-count_events.is
