-- The walk along the operands below count, where a test looks for one that passes. Assumes nothing.
use Prim.Native.Nat.{ℕ, ◌+◌, ◌≤◌, ◌<◌}
use mathlib.Core.Path.{◌≡◌, refl, sym, ◌∙◌}
use mathlib.Core.Bool.{Bool, true, false, not, ◌&&◌}
use lib.ListN.{length, drop, drop_of_length-le}
use lib.Dec.{eqb}
use Rattle.laws.specs.Tests.{any}
use Rattle.laws.proofs.Choice.{any_here, any_later}
use Rattle.digest.specs.Digests.{access_at}
use Rattle.record.specs.Records.{spec_at}
use Rattle.record.specs.declared.Record.{Record}
use Rattle.definition.specs.Tables.{shape_of}
use Rattle.definition.specs.Behaviors.{Operand, operand_at, operands_of}
use Rattle.definition.specs.Refusals.{accessed}
use Rattle.definition.specs.declared.Shape.{Shape}
use Rattle.definition.proofs.Operands.{operand_step}

-- the operand is accessed, and its shape passes
abbrev pub picks : (Shape → Bool) → Operand → Bool
picks p o = not (eqb o.access 0) && p o.shape

-- none of the first i operands passed: those from i on decide
pub record Left (p : Shape → Bool) (x : Record) (i : ℕ) : Type 0 where
  pub rest : any (picks p) (drop i (operands_of x)) ≡ accessed p x

module _ (p : Shape → Bool) (x : Record) where
  pub all_left : Left p x 0
  unfolding accessed
  all_left = record { rest = refl }

  module _ {i : ℕ} (left : Left p x i) where
    pub none_left : length (operands_of x) ≤ i → false ≡ accessed p x
    unfolding any
    none_left h = rw (drop_of_length-le (operands_of x) {i = i} h) at left.rest

    -- a test of operand i: it is accessed, and r says what the test asks of its shape
    module _ (h : i < length (operands_of x)) where
      later : picks p (operand_at x i) ≡ false → Left p x (i + 1)
      later e = record { rest = sym (any_later (picks p) (operand_at x i) (drop (i + 1) (operands_of x)) e) ∙ rw (operand_step x i h) at left.rest }

      module _ {a : Bool} (accesses : a ≡ not (eqb (access_at x.digest i) 0)) where
        pub unaccessed : a ≡ false → Left p x (i + 1)
        unaccessed t = later (rw (← accesses, t))

        module _ {r : Bool} {s : ℕ} (e : s ≡ spec_at x i) (q : r ≡ p (shape_of s)) (t : a ≡ true) where
          asked : picks p (operand_at x i) ≡ r
          asked = rw (← accesses, t, ← e, ← q)

          pub hit : r ≡ true → true ≡ accessed p x
          hit f =
              sym (any_here (picks p) (operand_at x i) (drop (i + 1) (operands_of x)) (asked ∙ f))
              ∙ rw (operand_step x i h) at left.rest

          pub miss : r ≡ false → Left p x (i + 1)
          miss f = later (asked ∙ f)
