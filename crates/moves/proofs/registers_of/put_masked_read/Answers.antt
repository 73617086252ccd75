use Rattle.std.proofs.Common.{[], ◌∷◌}
use Rattle.laws.proofs.Lending.{first, next, fits, fits_first, whole}
use Rattle.implicit.specs.declared.Way.TheVariants.{Read}
use Rattle.definition.specs.Steps.{mask_registers}
use Rattle.definition.specs.Logs.{event_bytes}
use Rattle.event.specs.Moves.{moved}
use Rattle.moves.specs.Touches.{masked_events}
use Rattle.moves.proofs.registers_of.put_masked_read.Goals as goal

pub put_register-n-requires : goal.put_register-n-requires
unfolding masked_events
put_register-n-requires c = fits_first event_bytes _ (moved Read (mask_registers c.args.mask) ∷ []) c.requires

pub put_mask-requires : goal.put_mask-requires
unfolding masked_events
put_mask-requires c =
    fits (first (moved Read (mask_registers c.args.mask) ∷ []) c.put_register-n.ensures c.requires c.well_formed.0.0)

pub returns : goal.returns
unfolding masked_events
returns c =
    whole (next (first (moved Read (mask_registers c.args.mask) ∷ []) c.put_register-n.ensures c.requires c.well_formed.0.0) c.put_mask.ensures)
