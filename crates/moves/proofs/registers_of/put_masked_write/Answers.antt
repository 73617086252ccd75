use Rattle.std.proofs.Common.{[], ◌∷◌}
use Rattle.laws.proofs.Lending.{first, next, fits, fits_first, whole}
use Rattle.definition.specs.Logs.{event_bytes}
use Rattle.definition.specs.declared.Event.TheVariants.{RegisterWrite}
use Rattle.moves.specs.Touches.{masked_events}
use Rattle.moves.proofs.registers_of.put_masked_write.Goals as goal

pub put_mask-n-requires : goal.put_mask-n-requires
unfolding masked_events
put_mask-n-requires c = fits_first event_bytes _ ((RegisterWrite c.args.y ∷ []) ∷ []) c.requires

pub put_register-requires : goal.put_register-requires
unfolding masked_events
put_register-requires c =
    fits (first ((RegisterWrite c.args.y ∷ []) ∷ []) c.put_mask-n.ensures c.requires c.well_formed.0.0)

pub returns : goal.returns
unfolding masked_events
returns c =
    whole (next (first ((RegisterWrite c.args.y ∷ []) ∷ []) c.put_mask-n.ensures c.requires c.well_formed.0.0) c.put_register.ensures)
