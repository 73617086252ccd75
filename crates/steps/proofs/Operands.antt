-- The explicit operands, part by part. Assumes nothing.
use Prim.Native.Nat.{ℕ, zero, suc, ◌*◌, ◌/◌, ◌%◌, ◌^◌, ◌<◌}
use native.Mathlib.Omega.{arith}
use mathlib.Core.Path.{◌≡◌, refl, ap, ◌∙◌}
use mathlib.Core.Bool.{Bool, true, false, cond}
use mathlib.Core.List.{List, [], ◌∷◌, ◌++◌, append_assoc, append-nil}
use lib.Dec.{ltb, eqb}
use lib.ListN.{take}
use lib.Seq.{take-nil}
use borrow.Author.Tests.{lt-ltb}
use Rattle.laws.specs.Words.{bit}
use Rattle.laws.specs.Lists.{each, flat}
use Rattle.laws.proofs.Lists.{each_append}
use Rattle.access.specs.Accesses.{writing}
use Rattle.registers.specs.declared.RegisterFile.{RegisterFile}
use Rattle.digest.specs.Digests.{access_at}
use Rattle.implicit.specs.declared.Way.TheVariants.{Read, Write}
use Rattle.record.specs.Records.{spec_at}
use Rattle.record.specs.declared.Record.{Record}
use Rattle.definition.specs.Tables.{shape_of}
use Rattle.definition.specs.Behaviors.{Operand, operand_at, operands_of}
use Rattle.definition.specs.Steps.{Step, operand_steps, read_part, write_part}
use Rattle.definition.specs.Logs.{step_events, events_of}
use Rattle.definition.specs.declared.Event.{Event}
use Rattle.address.specs.Places.{sources_of}
use Rattle.address.specs.declared.places.Sources.{Sources}
use Rattle.steps.specs.Parts.{way_of, part_at, parts_from, part_count, explicit_events}
use Rattle.steps.proofs.Specs.{part_steps, part_is}

-- a bit of the accesses is a part
module _ (v : ℕ) where
  abbrev Bits : ℕ → ℕ → ℕ → Type 0
  Bits i p q = (bit (v / 4 ^ i % 4) 0 ≡ bit v p) × (bit (v / 4 ^ i % 4) 1 ≡ bit v q)

  bits_0 : Bits 0 0 1
  unfolding bit
  bits_0 =
      let low : v / 4 ^ 0 % 4 / 2 ^ 0 % 2 ≡ v / 2 ^ 0 % 2 = omega arith in
      let high : v / 4 ^ 0 % 4 / 2 ^ 1 % 2 ≡ v / 2 ^ 1 % 2 = omega arith in
      (ap (λ (n : ℕ). eqb n 1) low, ap (λ (n : ℕ). eqb n 1) high)

  bits_1 : Bits 1 2 3
  unfolding bit
  bits_1 =
      let low : v / 4 ^ 1 % 4 / 2 ^ 0 % 2 ≡ v / 2 ^ 2 % 2 = omega arith in
      let high : v / 4 ^ 1 % 4 / 2 ^ 1 % 2 ≡ v / 2 ^ 3 % 2 = omega arith in
      (ap (λ (n : ℕ). eqb n 1) low, ap (λ (n : ℕ). eqb n 1) high)

  bits_2 : Bits 2 4 5
  unfolding bit
  bits_2 =
      let low : v / 4 ^ 2 % 4 / 2 ^ 0 % 2 ≡ v / 2 ^ 4 % 2 = omega arith in
      let high : v / 4 ^ 2 % 4 / 2 ^ 1 % 2 ≡ v / 2 ^ 5 % 2 = omega arith in
      (ap (λ (n : ℕ). eqb n 1) low, ap (λ (n : ℕ). eqb n 1) high)

  bits_3 : Bits 3 6 7
  unfolding bit
  bits_3 =
      let low : v / 4 ^ 3 % 4 / 2 ^ 0 % 2 ≡ v / 2 ^ 6 % 2 = omega arith in
      let high : v / 4 ^ 3 % 4 / 2 ^ 1 % 2 ≡ v / 2 ^ 7 % 2 = omega arith in
      (ap (λ (n : ℕ). eqb n 1) low, ap (λ (n : ℕ). eqb n 1) high)

module _ (f : RegisterFile) (x : Record) where
  abbrev at : Sources
  at = sources_of f x

  part_if : (on : Bool) (ss : List Step) {es : List Event} → events_of f ss ≡ es → events_of f (cond on ss []) ≡ cond on es []
  unfolding each
  part_if true ss e = e
  part_if false ss e = refl

  -- operand i is the parts p and q
  operand :
      (i p q : ℕ) → (bit (x.digest.operands / 4 ^ i % 4) 0 ≡ bit x.digest.operands p) × (bit (x.digest.operands / 4 ^ i % 4) 1 ≡ bit x.digest.operands q)
      → way_of p ≡ Read → way_of q ≡ Write → p / 2 ≡ i → q / 2 ≡ i
      → events_of f (operand_steps x (operand_at x i)) ≡ part_at x at p ++ part_at x at q
  unfolding operand_steps flat part_at part_steps
  operand i p q b r w d e =
      rw (append-nil (cond (writing (access_at x.digest i)) (write_part x (shape_of (spec_at x i))) []), b.0, b.1, r, w, d, e)
      (each_append (step_events f) (cond (bit x.digest.operands p) (read_part x (shape_of (spec_at x i))) []) (cond (bit x.digest.operands q) (write_part x (shape_of (spec_at x i))) [])
      ∙ rw (part_if (bit x.digest.operands p) (read_part x (shape_of (spec_at x i))) (part_is f x Read (spec_at x i)), part_if (bit x.digest.operands q) (write_part x (shape_of (spec_at x i))) (part_is f x Write (spec_at x i))))

  operand_0 : events_of f (operand_steps x (operand_at x 0)) ≡ part_at x at 0 ++ part_at x at 1
  unfolding way_of
  operand_0 = operand 0 0 1 (bits_0 x.digest.operands) refl refl refl refl

  operand_1 : events_of f (operand_steps x (operand_at x 1)) ≡ part_at x at 2 ++ part_at x at 3
  unfolding way_of
  operand_1 = operand 1 2 3 (bits_1 x.digest.operands) refl refl refl refl

  operand_2 : events_of f (operand_steps x (operand_at x 2)) ≡ part_at x at 4 ++ part_at x at 5
  unfolding way_of
  operand_2 = operand 2 4 5 (bits_2 x.digest.operands) refl refl refl refl

  operand_3 : events_of f (operand_steps x (operand_at x 3)) ≡ part_at x at 6 ++ part_at x at 7
  unfolding way_of
  operand_3 = operand 3 6 7 (bits_3 x.digest.operands) refl refl refl refl

  one_more : (o : Operand) (os : List Operand) {a b : List Event} → events_of f (operand_steps x o) ≡ a → events_of f (each (operand_steps x) os) ≡ b → events_of f (each (operand_steps x) (o ∷ os)) ≡ a ++ b
  unfolding each
  one_more o os p q = each_append (step_events f) (operand_steps x o) (each (operand_steps x) os) ∙ rw (p, q)

  none : events_of f (each (operand_steps x) []) ≡ []
  unfolding each
  none = refl

  by_count :
      (c : ℕ)
      → events_of f (each (operand_steps x) (take c (operand_at x 0 ∷ operand_at x 1 ∷ operand_at x 2 ∷ operand_at x 3 ∷ [])))
      ≡ flat (parts_from x at 0 (cond (ltb 4 c) 8 (2 * c)))
  unfolding parts_from flat
  by_count zero = none
  by_count (suc zero) = one_more _ [] operand_0 none ∙ simp (append_assoc, append-nil)
  by_count (suc (suc zero)) = one_more _ _ operand_0 (one_more _ [] operand_1 none) ∙ simp (append_assoc, append-nil)
  by_count (suc (suc (suc zero))) = one_more _ _ operand_0 (one_more _ _ operand_1 (one_more _ [] operand_2 none)) ∙ simp (append_assoc, append-nil)
  by_count (suc (suc (suc (suc zero)))) =
      one_more _ _ operand_0 (one_more _ _ operand_1 (one_more _ _ operand_2 (one_more _ [] operand_3 none))) ∙ simp (append_assoc, append-nil)
  by_count (suc (suc (suc (suc (suc n))))) =
      let h : 4 < suc (suc (suc (suc (suc n)))) = omega arith in
      rw (lt-ltb 4 (suc (suc (suc (suc (suc n))))) h, take-nil (suc n))
      (one_more _ _ operand_0 (one_more _ _ operand_1 (one_more _ _ operand_2 (one_more _ [] operand_3 none))) ∙ simp (append_assoc, append-nil))

  pub explicit_is : events_of f (each (operand_steps x) (operands_of x)) ≡ explicit_events x (sources_of f x)
  unfolding operands_of explicit_events part_count
  explicit_is = by_count x.count
