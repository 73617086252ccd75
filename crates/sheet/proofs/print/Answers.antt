-- A report has room in the buffer.
use Rattle.std.proofs.Common.{arith}
use Rattle.printing.proofs.Room.{report_most}
use Rattle.sheet.proofs.print.Goals as goal

pub put_report-n-requires : goal.put_report-n-requires
put_report-n-requires g c = omega (arith, report_most c.end_number-number.result c.args.words.now, c.zeros-out.ensures.long)
