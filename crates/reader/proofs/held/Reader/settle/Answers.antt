use Rattle.std.proofs.Common.{arith}
use Rattle.std.proofs.lemmas.Grind.{common_steps}
use Rattle.reader.proofs.Turns.{good_file, bad_file_lem, whole_record}
use Rattle.reader.proofs.held.Reader.settle.Goals as goal

pub returns-then-not-of_file-clause-means : goal.returns-then-not-of_file-clause-means
returns-then-not-of_file-clause-means c n x = whole_record c.args.self.now n x (grind (arith, common_steps))

pub returns-then-not-is_file-clause-means : goal.returns-then-not-is_file-clause-means
returns-then-not-is_file-clause-means c n x = bad_file_lem c.args.self.now n x (grind (arith, common_steps)) (grind (arith, common_steps))

pub returns-clause-means : goal.returns-clause-means
returns-clause-means c n x =
    good_file c.args.self.now n x _ (grind (arith, common_steps)) (grind (arith, common_steps)) (grind (arith, common_steps)) (grind (arith, common_steps))
