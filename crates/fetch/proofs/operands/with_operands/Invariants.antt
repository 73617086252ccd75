-- What is joined so far, with the needs of the operands from i on, are those of all.
use Rattle.std.proofs.Common.{◌≡◌, drop}
use Rattle.laws.specs.Lists.{each}
use Rattle.sets.specs.Sets as sets
use Rattle.definition.specs.Behaviors.{operands_of}
use Rattle.fetch.specs.Parts.{operand_needs}
use Rattle.fetch.proofs.operands.with_operands.Given as goal

abbrev pub invariant-loop-i : goal.invariant-loop-i
invariant-loop-i l =
    sets.joined l.joined (each (operand_needs l.x) (drop l.i (operands_of l.x))) ≡ sets.joined l.set (each (operand_needs l.x) (operands_of l.x))
