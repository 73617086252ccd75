-- Registers that are read or written, as events, and the kinds of events.
use Rattle.std.specs.Prelude.{ℕ, ◌+◌, List, map}
use Rattle.registers.specs.declared.RegSpec.{RegSpec}
use Rattle.implicit.specs.declared.Way.{Way}
use Rattle.implicit.specs.declared.Way.TheVariants.{Read, Write}
use Rattle.definition.specs.declared.Event.{Event}
use Rattle.definition.specs.declared.Event.TheVariants.{RegisterRead, RegisterWrite}

-- the kind of a write stands behind that of the read
abbrev pub kind_of : Way → ℕ → ℕ
kind_of Read k = k
kind_of Write k = k + 1

abbrev pub move_event : Way → RegSpec → Event
move_event Read y = RegisterRead y
move_event Write y = RegisterWrite y

unfoldable pub moved : Way → List RegSpec → List Event
moved w ys = map (move_event w) ys
