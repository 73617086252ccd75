use Rattle.std.proofs.Common.{◌∙◌, arith}
use Rattle.definition.proofs.Operands.{operands_length}
use Rattle.fetch.proofs.Parts.{none_left, one_joined}
use Rattle.fetch.proofs.operands.with_operands.Goals as goal

pub loop-i-preserved : goal.loop-i-preserved
loop-i-preserved c =
    let x = c.args.x in
    let l = c.loop-i in
    one_joined x l.i l.joined (omega (arith, operands_length x, c.min-i-end.ensures)) c.with_operand-joined.ensures ∙ l.invariant

pub returns : goal.returns
returns c =
    let x = c.args.x in
    let l = c.loop-i in
    none_left x l.i l.joined (omega (arith, operands_length x, c.min-i-end.ensures)) ∙ l.invariant
