use Rattle.reader_words.proofs.Packing.{Laid}
use Rattle.reader_words.proofs.places.unpack.Given as goal

abbrev pub invariant-loop-i : goal.invariant-loop-i
invariant-loop-i l = Laid l.fn.words l.fn.from l.initial.out l.out l.i
