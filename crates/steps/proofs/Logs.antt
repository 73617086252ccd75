-- The whole log: the steps of the definition under a file are the events that are written from what the file says of the record's
-- registers. Assumes nothing.
use mathlib.Core.Path.{◌≡◌, refl, ◌∙◌}
use mathlib.Core.Bool.{Bool, true, false, cond}
use mathlib.Core.List.{[], ◌∷◌, ◌++◌, append_assoc, append-nil}
use Rattle.laws.specs.Lists.{each, flat}
use Rattle.laws.proofs.Lists.{each_append}
use Rattle.access.specs.Accesses.{reading, writing}
use Rattle.registers.specs.declared.RegisterFile.{RegisterFile}
use Rattle.digest.specs.Digests.{flags_access}
use Rattle.implicit.specs.Lists.{implicit_of}
use Rattle.record.specs.declared.Record.{Record}
use Rattle.definition.specs.Behaviors.{operands_of}
use Rattle.definition.specs.Steps.{reads, writes, rflags, entry_steps, operand_steps, flag_steps, steps_of}
use Rattle.definition.specs.Logs.{step_events, events_of}
use Rattle.definition.specs.declared.Event.TheVariants.{RegisterRead, RegisterWrite}
use Rattle.address.specs.Places.{sources_of}
use Rattle.steps.specs.Whole.{flags_read, flags_write, log_events}
use Rattle.steps.proofs.Operands.{explicit_is}
use Rattle.implied.proofs.Lists.{list_is}

module _ (f : RegisterFile) (x : Record) where
  both : (r w : Bool) → events_of f (flat (cond r (reads rflags ∷ []) [] ∷ cond w (writes rflags ∷ []) [] ∷ [])) ≡ cond r (RegisterRead rflags ∷ []) [] ++ cond w (RegisterWrite rflags ∷ []) []
  unfolding flat each step_events
  both true true = refl
  both true false = refl
  both false true = refl
  both false false = refl

  flags_are : events_of f (flag_steps (flags_access x.digest)) ≡ flags_read x ++ flags_write x
  unfolding flag_steps
  flags_are = both (reading (flags_access x.digest)) (writing (flags_access x.digest))

  pub log_is : events_of f (steps_of x) ≡ log_events x (sources_of f x)
  unfolding steps_of flat log_events sources_of
  log_is =
      each_append (step_events f) (each (entry_steps x) (implicit_of x.digest.extra)) (flag_steps (flags_access x.digest) ++ (each (operand_steps x) (operands_of x) ++ []))
      ∙ rw (append-nil (each (operand_steps x) (operands_of x)), each_append (step_events f) (flag_steps (flags_access x.digest)) (each (operand_steps x) (operands_of x)), list_is f x x.digest.extra, flags_are, explicit_is f x)
      (simp (append_assoc, append-nil))
