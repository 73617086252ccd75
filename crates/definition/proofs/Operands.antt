-- The operands below count: a walk along them, and a test of all of them. Assumes nothing.
use Prim.Native.Nat.{ℕ, zero, suc, min, ◌+◌, ◌<◌}
use native.Mathlib.Nat.{le_of_suc-le-suc, not-suc-le-zero}
use native.Mathlib.Numerals.{add-one}
use native.Mathlib.Omega.{arith}
use mathlib.Core.Path.{◌≡◌, refl, sym, ap, ◌∙◌}
use mathlib.Core.Bool.{Bool, ◌&&◌, ◌||◌, or-false, or_assoc}
use mathlib.Core.List.{List, [], ◌∷◌}
use lib.ListN.{length, get_or, take, drop, length-take}
use lib.Seq.{drop-cons, get_or-take, take-nil}
use lib.Dec.{ltb}
use borrow.Author.Tests.{lt-ltb}
use Rattle.laws.specs.Tests.{any}
use Rattle.record.specs.declared.Record.{Record}
use Rattle.record.proofs.Laws.{some_of_four}
use Rattle.definition.specs.Behaviors.{Operand, operand_at, operands_of}

-- the four operands
abbrev four : Record → List Operand
four x = operand_at x 0 ∷ operand_at x 1 ∷ operand_at x 2 ∷ operand_at x 3 ∷ []

four_at : (x : Record) (d : Operand) (i : ℕ) → i < 4 → get_or (four x) i d ≡ operand_at x i
four_at x d zero h = refl
four_at x d (suc zero) h = refl
four_at x d (suc (suc zero)) h = refl
four_at x d (suc (suc (suc zero))) h = refl
four_at x d (suc (suc (suc (suc i)))) h = absurd (not-suc-le-zero (le_of_suc-le-suc (le_of_suc-le-suc (le_of_suc-le-suc (le_of_suc-le-suc h)))))

pub operands_length : (x : Record) → length (operands_of x) ≡ min x.count 4
unfolding operands_of
operands_length x = length-take x.count (four x)

-- a step of the walk
pub operand_step : (x : Record) (i : ℕ) → i < length (operands_of x) → drop i (operands_of x) ≡ operand_at x i ∷ drop (i + 1) (operands_of x)
unfolding operands_of
operand_step x i h =
    let k : i < x.count = omega (arith, operands_length x) in
    rw (add-one i)
    (drop-cons (operands_of x) i (operand_at x 0) h
    ∙ ap (λ (o : Operand). o ∷ drop (suc i) (operands_of x)) (get_or-take x.count (four x) i (operand_at x 0) k ∙ four_at x (operand_at x 0) i (omega (arith, operands_length x))))

-- a test of the first n of four, each by its place
first_four :
    {A : Type 0} (p : A → Bool) (n : ℕ) (a b c d : A)
    → ((ltb 0 n && p a) || (ltb 1 n && p b) || (ltb 2 n && p c) || (ltb 3 n && p d)) ≡ any p (take n (a ∷ b ∷ c ∷ d ∷ []))
unfolding any
first_four p zero a b c d = refl
first_four p (suc zero) a b c d = simp or-false
first_four p (suc (suc zero)) a b c d = simp or-false
first_four p (suc (suc (suc zero))) a b c d = simp (or-false, or_assoc)
first_four {A} p (suc (suc (suc (suc n)))) a b c d =
    let k = suc (suc (suc (suc n))) in
    rw (lt-ltb 0 k (omega arith), lt-ltb 1 k (omega arith), lt-ltb 2 k (omega arith), lt-ltb 3 k (omega arith))
    (some_of_four (p a) (p b) (p c) (p d) ∙ ap (λ (l : List A). p a || (p b || (p c || (p d || any p l)))) (sym (take-nil n)))

-- some operand below count passes a test, each by its place
pub some_operand :
    (p : Operand → Bool) (x : Record)
    → ((ltb 0 x.count && p (operand_at x 0)) || (ltb 1 x.count && p (operand_at x 1)) || (ltb 2 x.count && p (operand_at x 2)) || (ltb 3 x.count && p (operand_at x 3))) ≡ any p (operands_of x)
unfolding operands_of
some_operand p x = first_four p x.count (operand_at x 0) (operand_at x 1) (operand_at x 2) (operand_at x 3)
