-- The first number in its text, and the second before the line's end.
use Rattle.laws.proofs.Lending.{fits_first}
use Rattle.decimal.specs.Words.{word_bytes}
use Rattle.printing.specs.Ascii.{ascii}
use Rattle.printing.specs.Texts.{pair_line}
use Rattle.printing.proofs.InARow.{second_fits, two}
use Rattle.printing.proofs.lines.put_pair.Goals as goal

pub put_around-a-requires : goal.put_around-a-requires
unfolding pair_line ascii
put_around-a-requires c = fits_first word_bytes _ _ c.requires

pub put_around-requires : goal.put_around-requires
unfolding pair_line ascii
put_around-requires c = second_fits c.put_around-a.ensures _ _ c.requires c.well_formed.0.0

pub returns : goal.returns
unfolding pair_line ascii
returns c = two c.put_around-a.ensures c.put_around.ensures c.requires c.well_formed.0.0
