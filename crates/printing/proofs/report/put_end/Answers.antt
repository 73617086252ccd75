-- Bytes read, bytes written, and part writes.
use Rattle.laws.proofs.Lending.{fits_first}
use Rattle.decimal.specs.Words.{word_bytes}
use Rattle.printing.specs.Ascii.{ascii}
use Rattle.printing.specs.Texts.{end_text}
use Rattle.printing.proofs.InARow.{second_fits, third_fits, three}
use Rattle.printing.proofs.report.put_end.Goals as goal

pub put_around-a-requires : goal.put_around-a-requires
unfolding end_text ascii
put_around-a-requires c = fits_first word_bytes _ _ c.requires

pub put_around-requires : goal.put_around-requires
unfolding end_text ascii
put_around-requires c = second_fits c.put_around-a.ensures _ _ c.requires c.well_formed.0.0

pub put_pair-requires : goal.put_pair-requires
unfolding end_text ascii
put_pair-requires c = third_fits c.put_around-a.ensures c.put_around.ensures _ c.requires c.well_formed.0.0

pub returns : goal.returns
unfolding end_text ascii
returns c = three c.put_around-a.ensures c.put_around.ensures _ c.requires c.well_formed.0.0 c.put_pair.ensures
