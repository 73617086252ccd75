use Rattle.std.proofs.Common.{ℕ, List, [], ◌∷◌}
use Rattle.laws.proofs.Lending.{first, next, fits, fits_first, whole}
use Rattle.implicit.specs.declared.Way.{Way}
use Rattle.record.specs.Records.{record_of}
use Rattle.definition.specs.Logs.{event_bytes}
use Rattle.definition.specs.declared.Event.{Event}
use Rattle.address.specs.declared.places.Sources.{Sources}
use Rattle.steps.specs.Parts.{part_events, part_segment, added_by, based_events}
use Rattle.steps.proofs.explicit.put_based.Goals as goal

-- what is written behind the base of the segment
abbrev behind : List ℕ → Way → Sources → ℕ → List (List Event)
behind b w at s = part_events (record_of b) w at (added_by (part_segment (record_of b) w s) at.segment) s ∷ []

pub put_segment-n-requires : goal.put_segment-n-requires
unfolding based_events
put_segment-n-requires c =
    let a = c.args in
    rw c.segment_of-segment.ensures (fits_first event_bytes _ (behind a.b.now a.way a.at a.spec) c.requires.1)

pub put_part-requires : goal.put_part-requires
unfolding based_events
put_part-requires c =
    let a = c.args in (
      c.requires.0,
      rw (c.added_by-added.ensures, c.segment_of-segment.ensures) (fits (first (behind a.b.now a.way a.at a.spec) (rw c.segment_of-segment.ensures at c.put_segment-n.ensures) c.requires.1 c.well_formed.0.0)),
    )

pub returns : goal.returns
unfolding based_events
returns c =
    let a = c.args in
    whole (next (first (behind a.b.now a.way a.at a.spec) (rw c.segment_of-segment.ensures at c.put_segment-n.ensures) c.requires.1 c.well_formed.0.0) (rw (c.added_by-added.ensures, c.segment_of-segment.ensures) at c.put_part.ensures))
