use Rattle.laws.specs.Lists.{flat}
use Rattle.laws.proofs.Every.{in_none}
use Rattle.laws.proofs.Lending.{silent}
use Rattle.definition.specs.Logs.{event_bytes}
use Rattle.definition.specs.Tables.{string_specs}
use Rattle.definition.specs.Steps.{slot_registers}
use Rattle.event.specs.Moves.{moved}
use Rattle.implied.specs.Implied.{slot_events}
use Rattle.implied.proofs.put_slot.Goals as goal

pub returns-in_default : goal.returns-in_default
unfolding slot_events slot_registers moved flat
returns-in_default c =
    let r = c.in_default.in_default-own.rest in
    rw (← c.spec-spec.ensures, in_none c.spec-spec.result string_specs (r.0.0.0.0.1, (r.0.0.0.1, (r.0.0.1, (r.0.1, (r.1, tt)))))) (silent event_bytes c.args.log.now)
