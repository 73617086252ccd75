-- The events of a log, as far as it reads.
use Rattle.std.specs.Prelude.{ℕ, zero, suc, List, [], ◌∷◌, length}
use Rattle.definition.specs.Readings.{read_at}
use Rattle.definition.specs.declared.Event.{Event}
use Rattle.definition.specs.declared.Reading.{Reading}
use Rattle.definition.specs.declared.Reading.TheVariants.{Found, Bad, Finished}

-- an event and those behind it; elsewhere the walk ends
abbrev pub events_by : Reading → (ℕ → List Event) → List Event
events_by (Found e next) go = e ∷ go next
events_by (Bad k) go = []
events_by Finished go = []

-- from a place on; no log has more events than bytes, so its length is fuel enough
unfoldable pub events_from : ℕ → List ℕ → ℕ → List Event
events_from zero l at = []
events_from (suc fuel) l at = events_by (read_at l at) (λ next. events_from fuel l next)

unfoldable pub events_in : List ℕ → List Event
events_in l = events_from (length l) l 0
