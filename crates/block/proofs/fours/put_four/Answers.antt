-- Four stores at the front.
use Rattle.std.proofs.Common.{◌/◌, ◌%◌, [], ◌∷◌}
use lib.Seq.{sets-eq}
use Rattle.laws.specs.Words.{little}
use Rattle.block.proofs.fours.put_four.Goals as goal

pub returns : goal.returns
unfolding little
returns c =
    let x = c.args in
    sets-eq (x.number ∷ x.count ∷ x.opcode % 256 ∷ x.opcode / 256 % 256 ∷ []) x.out.now 0 c.requires
