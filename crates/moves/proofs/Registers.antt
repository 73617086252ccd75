-- Registers that are read or written, as steps and as events. Assumes nothing.
use mathlib.Core.Path.{◌≡◌, refl, ap}
use mathlib.Core.List.{List, [], ◌∷◌, map}
use Rattle.laws.specs.Lists.{each}
use Rattle.registers.specs.declared.RegSpec.{RegSpec}
use Rattle.registers.specs.declared.RegisterFile.{RegisterFile}
use Rattle.implicit.specs.declared.Way.{Way}
use Rattle.implicit.specs.declared.Way.TheVariants.{Read, Write}
use Rattle.definition.specs.Steps.{register_step}
use Rattle.definition.specs.Logs.{step_events, events_of}
use Rattle.definition.specs.declared.Event.{Event}
use Rattle.event.specs.Moves.{move_event, moved}

one_move : (f : RegisterFile) (w : Way) (y : RegSpec) → step_events f (register_step w y) ≡ move_event w y ∷ []
unfolding step_events
one_move f Read y = refl
one_move f Write y = refl

pub events_moved : (f : RegisterFile) (w : Way) (ys : List RegSpec) → events_of f (map (register_step w) ys) ≡ moved w ys
unfolding moved each
events_moved f w [] = refl
events_moved f w (y ∷ ys) = rw (one_move f w y) (ap (λ (l : List Event). move_event w y ∷ l) (events_moved f w ys))
