use Rattle.std.proofs.Common.{[], ◌∷◌}
use Rattle.laws.proofs.Lending.{on}
use Rattle.implicit.specs.Lists.{rsp}
use Rattle.definition.specs.Logs.{memory_event}
use Rattle.definition.specs.declared.Event.TheVariants.{RegisterRead, RegisterWrite}
use Rattle.event.specs.Moves.{moved}
use Rattle.implied.proofs.Pairs.{first_fits, rest_fits}
use Rattle.implied.proofs.put_stack.Goals as goal

pub put_moves-n-requires : goal.put_moves-n-requires
unfolding moved
put_moves-n-requires c =
    first_fits (RegisterRead rsp ∷ RegisterWrite rsp ∷ []) (RegisterRead rsp ∷ memory_event c.args.way c.args.at c.args.bytes ∷ []) c.requires

pub put_touch-requires : goal.put_touch-requires
unfolding moved
put_touch-requires c =
    rest_fits (RegisterRead rsp ∷ memory_event c.args.way c.args.at c.args.bytes ∷ []) c.put_moves-n.ensures c.requires

pub returns : goal.returns
unfolding moved
returns c = on c.put_moves-n.ensures c.put_touch.ensures
