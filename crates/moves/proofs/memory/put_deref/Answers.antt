use Rattle.std.proofs.Common.{ℕ, List, [], ◌∷◌}
use Rattle.laws.proofs.Lending.{first, next, fits, fits_first, whole}
use Rattle.registers.specs.Values.{Value}
use Rattle.implicit.specs.declared.Way.{Way}
use Rattle.implicit.specs.declared.Way.TheVariants.{Read}
use Rattle.record.specs.Records.{record_of}
use Rattle.definition.specs.Steps.{mask_registers}
use Rattle.definition.specs.Logs.{event_bytes}
use Rattle.definition.specs.declared.Event.{Event}
use Rattle.event.specs.Moves.{moved}
use Rattle.moves.specs.Touches.{access_events, deref_events}
use Rattle.moves.proofs.memory.put_deref.Goals as goal

-- what is written behind the register
abbrev behind : List ℕ → Way → ℕ → Value → Value → List (List Event)
behind b w m v g = moved Read (mask_registers m) ∷ access_events (record_of b) w v g ∷ []

pub put_register-m-requires : goal.put_register-m-requires
unfolding deref_events
put_register-m-requires c =
    let a = c.args in
    fits_first event_bytes _ (behind a.b.now a.way a.mask a.at a.added) c.requires.1

pub put_mask-requires : goal.put_mask-requires
unfolding deref_events
put_mask-requires c =
    let a = c.args in
    fits (first (behind a.b.now a.way a.mask a.at a.added) c.put_register-m.ensures c.requires.1 c.well_formed.0.0)

pub put_access-requires : goal.put_access-requires
unfolding deref_events
put_access-requires c =
    let a = c.args in (
      c.requires.0,
      fits (next (first (behind a.b.now a.way a.mask a.at a.added) c.put_register-m.ensures c.requires.1 c.well_formed.0.0) c.put_mask.ensures),
    )

pub returns : goal.returns
unfolding deref_events
returns c =
    let a = c.args in
    whole (next (next (first (behind a.b.now a.way a.mask a.at a.added) c.put_register-m.ensures c.requires.1 c.well_formed.0.0) c.put_mask.ensures) c.put_access.ensures)
