-- An equation leaves one outcome. Assumes nothing.
use mathlib.Core.Path.{sym, ◌∙◌}
use Rattle.laws.specs.Outcomes.{OneOutcome}

pub one_outcome : {A : Type 0} (x : A) → OneOutcome x
one_outcome x o u h k = h ∙ sym k
