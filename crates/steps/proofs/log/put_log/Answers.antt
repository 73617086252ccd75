use Rattle.std.proofs.Common.{List, [], ◌∷◌}
use Rattle.laws.proofs.Lending.{first, next, fits, fits_first, whole}
use Rattle.implicit.specs.declared.Way.TheVariants.{Read, Write}
use Rattle.record.specs.declared.Record.{Record}
use Rattle.definition.specs.Logs.{event_bytes}
use Rattle.definition.specs.declared.Event.{Event}
use Rattle.address.specs.declared.places.Sources.{Sources}
use Rattle.steps.specs.Parts.{explicit_events}
use Rattle.steps.specs.Whole.{flags_by, log_events}
use Rattle.steps.proofs.log.put_log.Goals as goal

-- what is written behind the implicit list
abbrev behind : Record → Sources → List (List Event)
behind x at = flags_by Read x ∷ flags_by Write x ∷ explicit_events x at ∷ []

pub put_list-a-requires : goal.put_list-a-requires
unfolding log_events flags_by
put_list-a-requires c = fits_first event_bytes _ (behind c.args.x c.args.at) c.requires.1

pub put_flags-requires : goal.put_flags-requires
unfolding log_events flags_by
put_flags-requires c = fits (first (behind c.args.x c.args.at) c.put_list-a.ensures c.requires.1 c.well_formed.0.0)

pub put_flags-requires-2 : goal.put_flags-requires-2
unfolding log_events flags_by
put_flags-requires-2 c = fits (next (first (behind c.args.x c.args.at) c.put_list-a.ensures c.requires.1 c.well_formed.0.0) c.put_flags.ensures)

pub put_operands-requires : goal.put_operands-requires
unfolding log_events flags_by
put_operands-requires c = (
  c.requires.0,
  fits (next (next (first (behind c.args.x c.args.at) c.put_list-a.ensures c.requires.1 c.well_formed.0.0) c.put_flags.ensures) c.put_flags-2.ensures),
)

pub returns : goal.returns
unfolding log_events flags_by
returns c =
    whole (next (next (next (first (behind c.args.x c.args.at) c.put_list-a.ensures c.requires.1 c.well_formed.0.0) c.put_flags.ensures) c.put_flags-2.ensures) c.put_operands.ensures)
