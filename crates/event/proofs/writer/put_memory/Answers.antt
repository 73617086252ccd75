-- The bytes are those of the event at a known address, or at an unknown one.
use Rattle.event.proofs.ByWay.{known_written, unknown_written}
use Rattle.event.proofs.writer.put_memory.Goals as goal

pub returns-in-Some : goal.returns-in-Some
returns-in-Some c =
    known_written c.args.way c.args.at c.in-Some.a c.args.n c.in-Some.is
    c.kind_of.result c.args.log.now c.put_u64.new.out c.kind_of.ensures c.requires c.put_u64.ensures

pub returns-in-None : goal.returns-in-None
returns-in-None c =
    unknown_written c.args.way c.args.at c.args.n c.in-None.is
    c.kind_of-in-None.result c.args.log.now c.kind_of-in-None.ensures c.requires
