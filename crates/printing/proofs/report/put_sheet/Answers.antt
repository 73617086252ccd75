-- The number of logs, the counts, and the end.
use Rattle.laws.proofs.Lending.{fits_first}
use Rattle.decimal.specs.Words.{word_bytes}
use Rattle.printing.specs.Ascii.{ascii}
use Rattle.printing.specs.Texts.{sheet_text}
use Rattle.printing.proofs.InARow.{second_fits, third_fits, three}
use Rattle.printing.proofs.report.put_sheet.Goals as goal

pub put_around-a-requires : goal.put_around-a-requires
unfolding sheet_text ascii
put_around-a-requires c = fits_first word_bytes _ _ c.requires

pub put_all_counts-requires : goal.put_all_counts-requires
unfolding sheet_text ascii
put_all_counts-requires c = second_fits c.put_around-a.ensures _ _ c.requires c.well_formed.0.0

pub put_end-requires : goal.put_end-requires
unfolding sheet_text ascii
put_end-requires c = third_fits c.put_around-a.ensures c.put_all_counts.ensures _ c.requires c.well_formed.0.0

pub returns : goal.returns
unfolding sheet_text ascii
returns c = three c.put_around-a.ensures c.put_all_counts.ensures _ c.requires c.well_formed.0.0 c.put_end.ensures
