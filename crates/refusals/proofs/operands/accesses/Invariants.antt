use Rattle.std.proofs.Common.{◌≡◌, ℕ, Bool}
use Rattle.definition.specs.Tables.{shape_of}
use Rattle.definition.specs.declared.Shape.{Shape}
use Rattle.refusals.proofs.Walk.{Left}
use Rattle.refusals.proofs.operands.accesses.Given as goal

-- whatever the test asks of shapes, no operand before i passed it
abbrev pub invariant-loop-i : goal.invariant-loop-i
invariant-loop-i g l =
    (p : Shape → Bool) → ((s : ℕ) (r : Bool) → goal.F-post g l.test s r → r ≡ p (shape_of s)) → Left p l.x l.i
