-- The bytes of steps are the bytes of their events: what a writer of events wrote, a writer of steps wrote. Assumes nothing.
use Prim.Native.Nat.{ℕ}
use mathlib.Core.Path.{◌≡◌, refl, sym, ap, ◌∙◌}
use mathlib.Core.List.{List, [], ◌∷◌, ◌++◌}
use lib.ListN.{length}
use Rattle.laws.specs.Lists.{each}
use Rattle.laws.specs.Lending.{size, Logged}
use Rattle.laws.proofs.Lists.{each_append}
use Rattle.laws.proofs.OneByOne.{one_size, logged}
use Rattle.registers.specs.declared.RegisterFile.{RegisterFile}
use Rattle.definition.specs.Steps.{Step}
use Rattle.definition.specs.Logs.{step_events, events_of, event_bytes, bytes_of, step_bytes}

pub steps_bytes : (f : RegisterFile) (ss : List Step) → each (step_bytes f) ss ≡ bytes_of (events_of f ss)
unfolding each step_bytes
steps_bytes f [] = refl
steps_bytes f (s ∷ ss) =
    ap (λ l. bytes_of (step_events f s) ++ l) (steps_bytes f ss) ∙ sym (each_append event_bytes (step_events f s) (events_of f ss))

-- how many they are
pub step_size : (f : RegisterFile) (s : Step) → size (step_bytes f) (s ∷ []) ≡ size event_bytes (step_events f s)
unfolding size step_bytes
step_size f s = one_size (step_bytes f) s

pub steps_size : (f : RegisterFile) (ss : List Step) → size (step_bytes f) ss ≡ size event_bytes (events_of f ss)
unfolding size
steps_size f ss = ap length (steps_bytes f ss)

-- the events of a step are written, and so the step is
pub step_logged :
    (f : RegisterFile) (s : Step) {old new : List ℕ} {n : ℕ}
    → Logged event_bytes (step_events f s) old new n → Logged (step_bytes f) (s ∷ []) old new n
unfolding step_bytes
step_logged f s l = logged (step_bytes f) s (l.count, l.bytes)
