-- Reads, writes, and memory events.
use Rattle.std.proofs.Common.{arith}
use Rattle.laws.proofs.Lending.{fits_first}
use Rattle.decimal.specs.Words.{word_bytes}
use Rattle.printing.specs.Ascii.{ascii}
use Rattle.printing.specs.Texts.{counts_text}
use Rattle.printing.proofs.InARow.{second_fits, third_fits, three}
use Rattle.printing.proofs.report.put_all_counts.Goals as goal

pub put_counts-a-requires : goal.put_counts-a-requires
unfolding counts_text ascii
put_counts-a-requires c = (fits_first word_bytes _ _ c.requires, omega arith)

pub put_counts-requires : goal.put_counts-requires
unfolding counts_text ascii
put_counts-requires c = (second_fits c.put_counts-a.ensures _ _ c.requires c.well_formed.0.0, omega arith)

pub put_counts-requires-2 : goal.put_counts-requires-2
unfolding counts_text ascii
put_counts-requires-2 c = (third_fits c.put_counts-a.ensures c.put_counts.ensures _ c.requires c.well_formed.0.0, omega arith)

pub returns : goal.returns
unfolding counts_text ascii
returns c = three c.put_counts-a.ensures c.put_counts.ensures _ c.requires c.well_formed.0.0 c.put_counts-2.ensures
