-- The text before, the number, and the text after.
use Rattle.laws.proofs.Lending.{fits_first}
use Rattle.decimal.specs.Words.{word_bytes}
use Rattle.printing.specs.Texts.{around}
use Rattle.printing.proofs.InARow.{second_fits, third_fits, three}
use Rattle.printing.proofs.lines.put_around.Goals as goal

pub put-a-requires : goal.put-a-requires
unfolding around
put-a-requires c = fits_first word_bytes _ _ c.requires

pub put_decimal-requires : goal.put_decimal-requires
unfolding around
put_decimal-requires c = second_fits c.put-a.ensures _ _ c.requires c.well_formed.0.0

pub put-requires : goal.put-requires
unfolding around
put-requires c = third_fits c.put-a.ensures c.put_decimal.ensures _ c.requires c.well_formed.0.0

pub returns : goal.returns
unfolding around
returns c = three c.put-a.ensures c.put_decimal.ensures _ c.requires c.well_formed.0.0 c.put.ensures
