use Rattle.std.proofs.Common.{◌<◌}
use Rattle.laws.proofs.Lending.{Going}
use Rattle.definition.specs.Logs.{event_bytes}
use Rattle.steps.specs.Parts.{explicit_events}
use Rattle.steps.proofs.Bits.{set_parts, part_of}
use Rattle.steps.proofs.explicit.put_operands.Given as goal

-- the parts of the bits that are left are still to be written
abbrev pub invariant-loop-rest : goal.invariant-loop-rest
invariant-loop-rest l = (l.rest < 256) × Going event_bytes (explicit_events l.x l.at) (set_parts (part_of l.x l.at) 8 l.rest 0) l.fn.log l.log l.n

abbrev pub decreases-loop-rest : goal.decreases-loop-rest
decreases-loop-rest l = l.rest
