use Rattle.std.proofs.Common.{[], ◌∷◌}
use Rattle.laws.proofs.Lending.{first, next, fits, fits_first, whole}
use Rattle.definition.specs.Logs.{event_bytes}
use Rattle.implied.specs.Implied.{slot_events, slots_events}
use Rattle.implied.proofs.put_slots.Goals as goal

pub put_slot-n-requires : goal.put_slot-n-requires
unfolding slots_events
put_slot-n-requires c = fits_first event_bytes _ (slot_events c.args.x 1 ∷ []) c.requires

pub put_slot-requires : goal.put_slot-requires
unfolding slots_events
put_slot-requires c =
    fits (first (slot_events c.args.x 1 ∷ []) c.put_slot-n.ensures c.requires c.well_formed.0.0)

pub returns : goal.returns
unfolding slots_events
returns c =
    whole (next (first (slot_events c.args.x 1 ∷ []) c.put_slot-n.ensures c.requires c.well_formed.0.0) c.put_slot.ensures)
