use Rattle.std.proofs.Common.{sym, ◌∙◌}
use Rattle.reader.proofs.Sound.{fronts_inside}
use Rattle.reader.proofs.held.Numbers.fit.Goals as goal

pub returns-then-is_front-clause-inside : goal.returns-then-is_front-clause-inside
returns-then-is_front-clause-inside c h =
    fronts_inside c.args.self c.args.item.now c.args.file.now (sym c.is_front.ensures ∙ c.if-is_front.true)
    (sym c.is_front-then-is_front.ensures ∙ h)
