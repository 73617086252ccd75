-- No line at zero, and else the line of both numbers.
use Rattle.laws.proofs.Lending.{silent}
use Rattle.decimal.specs.Words.{word_bytes}
use Rattle.printing.specs.Ascii.{ascii}
use Rattle.printing.proofs.Counting.{none_at_zero, some_else}
use Rattle.printing.proofs.lines.put_count.Goals as goal

pub returns-then-n-eq0 : goal.returns-then-n-eq0
returns-then-n-eq0 c =
    rw (none_at_zero c.args.letter.now c.args.k c.args.n c.if-n-eq0.true) (silent word_bytes c.args.out.now)

pub put_pair-requires : goal.put_pair-requires
unfolding ascii
put_pair-requires c = rw (some_else c.args.letter.now c.args.k c.args.n c.if-n-eq0.false) at c.requires

pub returns : goal.returns
unfolding ascii
returns c = rw (some_else c.args.letter.now c.args.k c.args.n c.if-n-eq0.false) c.put_pair.ensures
