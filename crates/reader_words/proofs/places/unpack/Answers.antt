use Rattle.std.proofs.Common.{arith, ◌≡◌}
use Rattle.reader_words.specs.Words.{place_words}
use Rattle.reader_words.proofs.Packing.{all_laid}
use Rattle.reader_words.proofs.places.unpack.Goals as goal

pub returns : goal.returns
returns c =
    let e : c.loop-i.i ≡ place_words = omega arith in
    all_laid c.args.words.now c.args.from _ c.loop-i.out c.loop-i.i e (omega arith) c.loop-i.invariant
