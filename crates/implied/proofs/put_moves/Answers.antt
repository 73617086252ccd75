use Rattle.laws.proofs.Lending.{on}
use Rattle.implicit.specs.declared.Way.TheVariants.{Read, Write}
use Rattle.event.specs.Moves.{moved}
use Rattle.implied.proofs.Pairs.{first_fits, rest_fits}
use Rattle.implied.proofs.put_moves.Goals as goal

pub put_each-n-requires : goal.put_each-n-requires
put_each-n-requires c = first_fits (moved Read c.args.reads.now) (moved Write c.args.writes.now) c.requires

pub put_each-requires : goal.put_each-requires
put_each-requires c = rest_fits (moved Write c.args.writes.now) c.put_each-n.ensures c.requires

pub returns : goal.returns
returns c = on c.put_each-n.ensures c.put_each.ensures
