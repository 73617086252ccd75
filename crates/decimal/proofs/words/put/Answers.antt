-- A copy to the front.
use Rattle.std.proofs.Common.{length, refl, ap, ◌++◌, drop}
use Rattle.laws.proofs.OneByOne.{logged}
use Rattle.decimal.specs.Words.{letters, word_bytes}
use Rattle.decimal.proofs.words.put.Goals as goal

pub returns : goal.returns
unfolding word_bytes
returns c =
    logged word_bytes (letters c.args.t.now)
    (refl, ap (λ b. b ++ drop (length c.args.t.now) c.args.out.now) c.copy_from_slice.ensures.after)
