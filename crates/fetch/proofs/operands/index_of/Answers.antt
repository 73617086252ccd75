use Rattle.std.proofs.Common.{arith}
use Rattle.definition.specs.Addresses.{index_of}
use Rattle.fetch.proofs.Specs.{without_index, with_index, no_index}
use Rattle.fetch.proofs.operands.index_of.Goals as goal

pub returns-in-26-to-33 : goal.returns-in-26-to-33
unfolding index_of
returns-in-26-to-33 c = rw (← (with_index c.args.spec (omega arith) (omega arith)))

pub returns-in_default : goal.returns-in_default
unfolding index_of
returns-in_default c = rw (← (without_index c.args.spec (omega arith)))

pub returns-in_default-2 : goal.returns-in_default-2
unfolding index_of
returns-in_default-2 c = rw (← (no_index c.args.spec (omega arith)))
