-- Who may fault on memory: the three tests one after the other. Assumes nothing.
use mathlib.Core.Path.{◌≡◌}
use mathlib.Core.Bool.{Bool, true, false, or-false}
use Rattle.laws.specs.Tests.{any}
use Rattle.implicit.specs.Lists.{implicit_of}
use Rattle.implicit.specs.Memory.{memory_entry}
use Rattle.record.specs.declared.Record.{Record}
use Rattle.definition.specs.Behaviors.{Operand, operands_of, is_memory, complex, may_fault}

module _ (x : Record) {t : Bool} (e : t ≡ complex x) where
  pub fault_complex : t ≡ true → t ≡ may_fault x
  unfolding may_fault any
  fault_complex h = rw (← e, h)

  module _ (h : t ≡ false) {l : Bool} (f : l ≡ any memory_entry (implicit_of x.digest.extra)) where
    pub fault_listed : l ≡ true → l ≡ may_fault x
    unfolding may_fault any
    fault_listed k = rw (← e, h, ← f, k)

    pub fault_named : {n : Bool} → l ≡ false → n ≡ any (λ (o : Operand). is_memory o.shape) (operands_of x) → n ≡ may_fault x
    unfolding may_fault any
    fault_named k g = rw (← e, h, ← f, k, ← g, or-false)
