-- The row of a list holds its entries' codes, and there is none past the fourth.
use Rattle.std.proofs.Common.{rules, arith, sym, ◌∙◌}
use Rattle.implicit.specs.Codes.{code_in}
use Rattle.implicit.proofs.Laws.{at_most_four, past_last}
use Rattle.implicit.proofs.Table.{rows_right}
use Rattle.implicit.proofs.implicit_entry.Goals as goal

pub returns-then-i-gt3 : goal.returns-then-i-gt3
returns-then-i-gt3 c = sym (past_last c.args.list c.args.i (omega (arith, at_most_four c.args.list)))

pub returns : goal.returns
unfolding code_in
returns c = c.entry_of.ensures ∙ rw c.row_of.ensures (rows_right c.args.list c.args.i (search rules))
