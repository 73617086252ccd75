use Rattle.std.proofs.Common.{take}
use Rattle.laws.specs.Lending.{Logged}
use Rattle.definition.specs.Logs.{event_bytes}
use Rattle.event.specs.Moves.{moved}
use Rattle.implied.proofs.put_each.Given as goal

-- the registers so far are written, and nothing else of the log is changed
abbrev pub invariant-loop-y : goal.invariant-loop-y
invariant-loop-y l = Logged event_bytes (moved l.way (take l.y-index l.registers)) l.fn.log l.log l.n
