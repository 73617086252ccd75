use Rattle.std.proofs.Common.{arith}
use Rattle.reader_words.proofs.Packing.{all_stored}
use Rattle.reader_words.proofs.places.pack.Goals as goal

pub returns : goal.returns
returns c = all_stored c.loop-i.words c.args.words.now c.args.room.now c.args.from c.loop-i.i (omega (arith, c.loop-i-test.false)) c.loop-i.invariant
