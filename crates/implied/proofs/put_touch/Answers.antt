use Rattle.std.proofs.Common.{[], ◌∷◌}
use Rattle.laws.proofs.Lending.{on}
use Rattle.implicit.specs.declared.Way.TheVariants.{Read}
use Rattle.definition.specs.Logs.{memory_event}
use Rattle.event.specs.Moves.{moved}
use Rattle.implied.proofs.Pairs.{first_fits, rest_fits}
use Rattle.implied.proofs.put_touch.Goals as goal

pub put_each-n-requires : goal.put_each-n-requires
put_each-n-requires c =
    first_fits (moved Read c.args.registers.now) (memory_event c.args.way c.args.at c.args.bytes ∷ []) c.requires

pub put_memory-requires : goal.put_memory-requires
put_memory-requires c = rest_fits (memory_event c.args.way c.args.at c.args.bytes ∷ []) c.put_each-n.ensures c.requires

pub returns : goal.returns
returns c = on c.put_each-n.ensures c.put_memory.ensures
