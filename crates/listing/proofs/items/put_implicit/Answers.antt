use Rattle.std.proofs.Common.{arith}
use Rattle.listing.proofs.Writing.{operand_room, access_room, access_behind}
use Rattle.listing.proofs.items.put_implicit.Goals as goal

pub put_operand-n-requires : goal.put_operand-n-requires
put_operand-n-requires c = omega (arith, operand_room c.args.o c.args.a c.requires)

pub bounds-out-n : goal.bounds-out-n
bounds-out-n c = (access_room c.args.o c.args.a c.requires c.put_operand-n.ensures).0

pub returns : goal.returns
returns c = rw c.to_bits.ensures (access_behind c.args.o c.args.a c.requires c.put_operand-n.ensures)
