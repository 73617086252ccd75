-- Which specs may name no register. Assumes nothing.
use Prim.Native.Nat.{ℕ, ◌%◌, ◌≤◌, ◌<◌, zero, suc}
use native.Mathlib.Omega.{arith}
use native.Mathlib.Nat.{le_of_suc-le-suc}
use mathlib.Core.Path.{◌≡◌, refl, sym, ap, ◌∙◌}
use mathlib.Core.Bool.{Bool, true, false, not, ◌&&◌, ◌||◌, or-true, or-false}
use mathlib.Core.List.{[], ◌∷◌}
use lib.ListN.{get_or-eq_default}
use lib.Dec.{ltb, eqb}
use borrow.Author.Tests.{ltb-true, ltb-false, lt-ltb, le-ltb, eq-eqb, ne_eqb}
use Rattle.implicit.proofs.Table.{firsts}
use Rattle.laws.specs.Tests.{any, is_in}
use Rattle.registers.specs.Banks.{is_register}
use Rattle.record.specs.declared.Record.{Record}
use Rattle.record.specs.Records.{reg_at, spec_at}
use Rattle.definition.specs.Tables.{shapes, shape_of, string_specs}
use Rattle.definition.specs.Refusals.{unnamed, nameless, no_slot, sizeless, accessed}
use Rattle.definition.specs.Behaviors.{is_memory}
use Rattle.definition.specs.declared.Shape.TheVariants.{Nothing, Fourth}

-- two tests that agree on the first n numbers, which antt computes
agree : (n : ℕ) (p q : ℕ → Bool) → firsts n p ≡ firsts n q → (k : ℕ) → k < n → p k ≡ q k
agree zero p q e k h = absurd (omega arith)
agree (suc n) p q e zero h = cc
agree (suc n) p q e (suc k) h = agree n (λ k. p (suc k)) (λ k. q (suc k)) (cc) k (le_of_suc-le-suc h)

-- 0, 4 where Reg4 names none, and what is no spec
pub unnamed_is : (x : Record) (s : ℕ) → unnamed x (shape_of s) ≡ (eqb s 0 || ltb 35 s || (eqb s 4 && unnamed x Fourth))
unfolding shape_of unnamed
unnamed_is x s = by (ltb 35 s) refl
  where
    by : (t : Bool) → ltb 35 s ≡ t → unnamed x (shape_of s) ≡ (eqb s 0 || ltb 35 s || (eqb s 4 && unnamed x Fourth))
    by true e =
        let h = ltb-true 35 s e in
        ap (unnamed x) (get_or-eq_default shapes Nothing {n = s} h) ∙ sym (rw (e, or-true (eqb s 0)))
    by false e =
        let h = ltb-false 35 s e in
        agree 36 (λ s. unnamed x (shape_of s)) (λ s. eqb s 0 || ltb 35 s || (eqb s 4 && unnamed x Fourth)) refl s (omega arith)

-- Reg4, a spec that names, and one past the table
module _ (x : Record) (s : ℕ) where
  pub fourth_unnamed : {t : Bool} → s ≡ 4 → t ≡ is_register (reg_at x 3).bank (x.imm % 256) → not t ≡ unnamed x (shape_of s)
  unfolding unnamed
  fourth_unnamed {t} e h = rw (unnamed_is x s, e, h)

  pub spec_named : 1 ≤ s → s ≤ 35 → (s ≡ 4 → ⊥) → false ≡ unnamed x (shape_of s)
  spec_named h g ne = rw (unnamed_is x s, ne_eqb s 0 (omega arith), le-ltb 35 s g, ne_eqb s 4 ne)

  pub no_spec : s < 1 → true ≡ unnamed x (shape_of s)
  no_spec h = rw (unnamed_is x s, eq-eqb s 0 (omega arith))

  pub past_specs : 36 ≤ s → true ≡ unnamed x (shape_of s)
  past_specs h = rw (unnamed_is x s, ne_eqb s 0 (omega arith), lt-ltb 35 s h)

-- refusal 6: a size of 0 where one is needed
module _ (x : Record) where
  pub has_size : (x.size ≡ 0 → ⊥) → false ≡ sizeless x
  unfolding sizeless
  has_size ne = rw (ne_eqb _ _ ne)

  pub size_by_access : {m : Bool} → x.size ≡ 0 → m ≡ accessed is_memory x → m ≡ true → m ≡ sizeless x
  unfolding sizeless
  size_by_access e f h = rw (eq-eqb _ _ e, ← f, h)

  pub size_by_list :
      {m n : Bool} → x.size ≡ 0 → m ≡ accessed is_memory x → m ≡ false → n ≡ is_in x.digest.extra (15 ∷ 16 ∷ 26 ∷ 27 ∷ 28 ∷ []) → n ≡ sizeless x
  unfolding sizeless
  size_by_list e f h g = rw (eq-eqb _ _ e, ← f, h, g)

-- refusal 5: an access that names no register, or a slot that holds none
module _ (x : Record) where
  pub names_all :
      {a s : Bool} → a ≡ accessed (unnamed x) x
      → s ≡ ((is_in x.digest.extra (24 ∷ 25 ∷ []) && not (is_in (spec_at x 0) string_specs)) || (eqb x.digest.extra 25 && not (is_in (spec_at x 1) string_specs)))
      → (a || s) ≡ nameless x
  unfolding nameless no_slot any
  names_all e f = rw (e, f) (simp or-false)
