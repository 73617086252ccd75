-- Demand 3 over whole calls. Assumes nothing.
use Prim.Native.Nat.{ℕ, ◌+◌, ◌≤◌}
use borrow.Author.Tests.{eqb-true}
use mathlib.Core.Path.{◌≡◌, refl, ◌∙◌}
use mathlib.Core.List.{List}
use mathlib.Core.Bool.{Bool, true, false}
use lib.ListN.{length}
use lib.Dec.{eqb}
use Rattle.registers.specs.declared.RegisterFile.{RegisterFile}
use Rattle.record.specs.Records.{record_of}
use Rattle.definition.specs.Limits.{most_bytes}
use Rattle.definition.specs.Steps.{steps_of}
use Rattle.definition.specs.Visits.{fixed_record, log_of, refusal_of, outcome, visit_by}
use Rattle.definition.specs.declared.Answer.TheVariants.{Refused, Complex}
use Rattle.promises.specs.Refinement.{Extends, RefinesAll, AgreeOn}
use Rattle.promises.specs.Calls.{by_number, by_opcode, Alike, refused, logged}
use Rattle.promises.proofs.Refine.{steps_refine, steps_agree}
use Rattle.promises.proofs.Rooms.{room_enough, visit_has_room}

-- the log of the second file refines that of the first
logs_refine : (b : List ℕ) (f g : RegisterFile) → Extends f g → RefinesAll (log_of b f) (log_of b g)
unfolding log_of
logs_refine b f g more = steps_refine f g more (steps_of (fixed_record b))

logs_agree : (b : List ℕ) (f g : RegisterFile) → AgreeOn f g (log_of b f) → log_of b f ≡ log_of b g
unfolding log_of
logs_agree b f g h = steps_agree f g (steps_of (fixed_record b)) h

module _ (bad : Bool) (b : List ℕ) (f g : RegisterFile) (p q : List ℕ) (s t : ℕ) where
  -- with room, the refusal is the record's and the file's alone
  refuse_alike : s + most_bytes ≤ length p → t + most_bytes ≤ length q → refusal_of bad b f p s ≡ refusal_of bad b g q t
  unfolding refusal_of
  refuse_alike hp hq = rw (room_enough b f p s hp, room_enough b g q t hq)

  pub by_refines : Extends f g → s + most_bytes ≤ length p → t + most_bytes ≤ length q → Alike (visit_by bad b f p s) (visit_by bad b g q t) p q s t (log_of b f) (log_of b g)
  unfolding visit_by outcome
  by_refines more hp hq = go (refusal_of bad b g q t) refl
    where
      same_number : refusal_of bad b f p s ≡ refusal_of bad b g q t
      same_number = refuse_alike hp hq

      by_test : (k : ℕ) (z u v : Bool) → refusal_of bad b g q t ≡ k → eqb k 0 ≡ z → eqb k 4 ≡ u → eqb k 7 ≡ v → Alike (visit_by bad b f p s) (visit_by bad b g q t) p q s t (log_of b f) (log_of b g)
      by_test k true u v e h i j = logged (rw (same_number, e, h)) (rw (e, h)) (logs_refine b f g more)
      by_test k false true v e h i j = refused (Complex (record_of b).opcode) by_opcode (rw (same_number, e, h, i)) (rw (e, h, i))
      by_test k false false true e h i j = absurd (visit_has_room bad b g q t hq (e ∙ eqb-true k 7 j))
      by_test k false false false e h i j = refused (Refused k) by_number (rw (same_number, e, h, i, j)) (rw (e, h, i, j))

      go : (k : ℕ) → refusal_of bad b g q t ≡ k → Alike (visit_by bad b f p s) (visit_by bad b g q t) p q s t (log_of b f) (log_of b g)
      go k e = by_test k (eqb k 0) (eqb k 4) (eqb k 7) e refl refl refl

pub by_agrees : (bad : Bool) (b : List ℕ) (f g : RegisterFile) (p : List ℕ) (s : ℕ) → AgreeOn f g (log_of b f) → visit_by bad b f p s ≡ visit_by bad b g p s
unfolding visit_by refusal_of
by_agrees bad b f g p s h = rw (logs_agree b f g h)
