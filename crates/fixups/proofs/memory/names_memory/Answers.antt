use Rattle.definition.specs.Behaviors.{Operand, is_memory}
use Rattle.definition.proofs.Operands.{some_operand}
use Rattle.fixups.proofs.memory.names_memory.Goals as goal

-- the four places, each by its test
pub returns : goal.returns
returns c =
    rw (c.memory_at.ensures, c.memory_at-2.ensures, c.memory_at-3.ensures, c.memory_at-4.ensures)
    (some_operand (λ (o : Operand). is_memory o.shape) c.args.x)
