use Rattle.std.proofs.Common.{ℕ, List, [], ◌∷◌}
use Rattle.laws.proofs.Lending.{first, next, fits, fits_first, whole}
use Rattle.registers.specs.Values.{Value}
use Rattle.implicit.specs.declared.Way.{Way}
use Rattle.record.specs.Records.{record_of, reg_at}
use Rattle.definition.specs.Logs.{event_bytes}
use Rattle.definition.specs.declared.Event.{Event}
use Rattle.moves.specs.Touches.{deref_events, indexed_events}
use Rattle.moves.proofs.memory.put_indexed.Goals as goal

-- what is written behind the base
abbrev behind : List ℕ → Way → ℕ → Value → Value → List (List Event)
behind b w m v g = deref_events (record_of b) w (reg_at (record_of b) 2) m v g ∷ []

pub put_register-n-requires : goal.put_register-n-requires
unfolding indexed_events
put_register-n-requires c =
    let a = c.args in
    rw c.reg_in.ensures (fits_first event_bytes _ (behind a.b.now a.way a.mask a.at a.added) c.requires.1)

pub put_deref-requires : goal.put_deref-requires
unfolding indexed_events
put_deref-requires c =
    let a = c.args in (
      c.requires.0,
      rw c.reg_in-2.ensures (fits (first (behind a.b.now a.way a.mask a.at a.added) (rw c.reg_in.ensures at c.put_register-n.ensures) c.requires.1 c.well_formed.0.0)),
    )

pub returns : goal.returns
unfolding indexed_events
returns c =
    let a = c.args in
    whole (next (first (behind a.b.now a.way a.mask a.at a.added) (rw c.reg_in.ensures at c.put_register-n.ensures) c.requires.1 c.well_formed.0.0) (rw c.reg_in-2.ensures at c.put_deref.ensures))
