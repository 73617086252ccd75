-- The sheet, or its refusal.
use Rattle.printing.specs.Ascii.{ascii}
use Rattle.printing.proofs.Counting.{report_sheet, report_refused}
use Rattle.printing.proofs.report.put_report.Goals as goal

pub put_around-requires : goal.put_around-requires
unfolding ascii
put_around-requires c = rw (report_refused c.args.number c.args.words.now c.if-number-ne0.true) at c.requires

pub returns-then-number-ne0 : goal.returns-then-number-ne0
unfolding ascii
returns-then-number-ne0 c = rw (report_refused c.args.number c.args.words.now c.if-number-ne0.true) c.put_around.ensures

pub put_sheet-requires : goal.put_sheet-requires
put_sheet-requires c = rw (report_sheet c.args.number c.args.words.now c.if-number-ne0.false) at c.requires

pub returns : goal.returns
returns c = rw (report_sheet c.args.number c.args.words.now c.if-number-ne0.false) c.put_sheet.ensures
