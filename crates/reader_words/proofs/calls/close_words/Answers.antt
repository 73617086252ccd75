use Rattle.std.proofs.Common.{◌∙◌}
use Rattle.reader_words.proofs.Holding.{closed_by}
use Rattle.reader_words.proofs.calls.close_words.Goals as goal

pub returns-in-Ok : goal.returns-in-Ok
returns-in-Ok c = closed_by _ _ 0 c.hold.ensures (rw c.in-Ok.is at c.close-closed.ensures)

pub returns-in-Err : goal.returns-in-Err
returns-in-Err c = closed_by _ _ c.from.result c.hold.ensures (c.from.ensures ∙ (rw c.in-Err.is at c.close-closed.ensures))
