-- The three bytes are the event's.
use Rattle.event.proofs.ByWay.{register_written}
use Rattle.event.proofs.writer.put_register.Goals as goal

pub returns : goal.returns
returns c = register_written c.args.way c.args.y c.kind_of.result c.args.log.now c.kind_of.ensures c.requires
