use Rattle.std.proofs.Common.{sym, ◌∙◌}
use Rattle.fetch.proofs.Specs.{segment_is}
use Rattle.fetch.proofs.operands.segment_of.Goals as goal

pub returns-then-takes_base : goal.returns-then-takes_base
returns-then-takes_base c = let a = c.args in rw (segment_is a.x a.spec, sym c.takes_base.ensures ∙ c.if-takes_base.true)

pub returns-else-takes_base : goal.returns-else-takes_base
returns-else-takes_base c = let a = c.args in rw (segment_is a.x a.spec, sym c.takes_base.ensures ∙ c.if-takes_base.false)
