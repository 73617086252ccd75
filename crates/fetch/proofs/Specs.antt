-- The base, the index and the segment of a spec, by runs of the table. Assumes nothing.
use Prim.Native.Nat.{ℕ, ◌≤◌, ◌<◌, zero-le}
use mathlib.Core.Path.{◌≡◌, refl, sym, ap}
use mathlib.Core.Logic.{inl, inr}
use mathlib.Core.Bool.{Bool, true, false, cond}
use lib.ListN.{get_or-eq_default}
use lib.Dec.{ltb}
use borrow.Author.Tests.{ltb-true, ltb-false}
use Rattle.laws.proofs.Span.{span, span_but}
use Rattle.record.specs.declared.Record.{Record}
use Rattle.definition.specs.Tables.{shapes, shape_of}
use Rattle.definition.specs.Addresses.{segment_of}
use Rattle.definition.specs.Steps.{shape_base}
use Rattle.definition.specs.declared.Base.{Base}
use Rattle.definition.specs.declared.Base.TheVariants.{NoBase, Based}
use Rattle.definition.specs.declared.Shape.{Shape}
use Rattle.definition.specs.declared.Shape.TheVariants.{Nothing}
use Rattle.operand.specs.Bases.{takes_base}
use Rattle.fetch.specs.Parts.{shape_index, shape_segment}

-- past the last spec there is nothing
module _ {A : Type 0} (f : Shape → A) (s : ℕ) where
  past_last : 36 ≤ s → f Nothing ≡ f (shape_of s)
  unfolding shape_of
  past_last h = ap f (sym (get_or-eq_default shapes Nothing {n = s} h))

module _ (s : ℕ) where
  abbrev Has : Base → ℕ → Type 0
  Has b k = b ≡ shape_base (shape_of k)

  pub register_specs : s < 18 → Has NoBase s
  unfolding shape_of shape_base
  register_specs h = span (Has NoBase) 0 18 (refl, (refl, (refl, (refl, (refl, (refl, (refl, (refl, (refl, (refl, (refl, (refl, (refl, (refl, (refl, (refl, (refl, (refl, tt)))))))))))))))))) s zero-le h

  pub deref_specs : 18 ≤ s → s < 20 → Has Based s
  unfolding shape_of shape_base
  deref_specs l h = span (Has Based) 18 2 (refl, (refl, tt)) s l h

  -- after the four that name a register
  pub disp_specs : (s ≡ 20 → ⊥) → (s ≡ 21 → ⊥) → (s ≡ 22 → ⊥) → (s ≡ 23 → ⊥) → 20 ≤ s → s < 26 → Has Based s
  unfolding shape_of shape_base
  disp_specs a b c d l h = span_but (Has Based) s 20 6 (inl a, (inl b, (inl c, (inl d, (inr refl, (inr refl, tt)))))) l h

  pub index_specs : 26 ≤ s → s < 30 → Has NoBase s
  unfolding shape_of shape_base
  index_specs l h = span (Has NoBase) 26 4 (refl, (refl, (refl, (refl, tt)))) s l h

  pub base_index_specs : 30 ≤ s → s < 34 → Has Based s
  unfolding shape_of shape_base
  base_index_specs l h = span (Has Based) 30 4 (refl, (refl, (refl, (refl, tt)))) s l h

  pub absolute_specs : 34 ≤ s → Has NoBase s
  unfolding shape_of shape_base
  absolute_specs l = by (ltb s 36) refl
    where
      by : (t : Bool) → ltb s 36 ≡ t → Has NoBase s
      by true e = span (Has NoBase) 34 2 (refl, (refl, tt)) s l (ltb-true s 36 e)
      by false e = past_last shape_base s (ltb-false s 36 e)

  abbrev Indexed : Bool → ℕ → Type 0
  Indexed t k = t ≡ shape_index (shape_of k)

  pub without_index : s < 26 → Indexed false s
  unfolding shape_of shape_index
  without_index h = span (Indexed false) 0 26 (refl, (refl, (refl, (refl, (refl, (refl, (refl, (refl, (refl, (refl, (refl, (refl, (refl, (refl, (refl, (refl, (refl, (refl, (refl, (refl, (refl, (refl, (refl, (refl, (refl, (refl, tt)))))))))))))))))))))))))) s zero-le h

  pub with_index : 26 ≤ s → s < 34 → Indexed true s
  unfolding shape_of shape_index
  with_index l h = span (Indexed true) 26 8 (refl, (refl, (refl, (refl, (refl, (refl, (refl, (refl, tt)))))))) s l h

  pub no_index : 34 ≤ s → Indexed false s
  unfolding shape_of shape_index
  no_index l = by (ltb s 36) refl
    where
      by : (t : Bool) → ltb s 36 ≡ t → Indexed false s
      by true e = span (Indexed false) 34 2 (refl, (refl, tt)) s l (ltb-true s 36 e)
      by false e = past_last shape_index s (ltb-false s 36 e)

-- the segment, but for the destinations of string instructions
-- in the record's segment, where a base is added
module _ (x : Record) where
  abbrev In : ℕ → Type 0
  In k = shape_segment x (shape_of k) ≡ cond (takes_base k) x.segment 0

  pub segment_is : (s : ℕ) → In s
  unfolding shape_of shape_segment segment_of takes_base
  segment_is s = by (ltb s 36) refl
    where
      by : (t : Bool) → ltb s 36 ≡ t → In s
      by true e = span In 0 36 (refl, (refl, (refl, (refl, (refl, (refl, (refl, (refl, (refl, (refl, (refl, (refl, (refl, (refl, (refl, (refl, (refl, (refl, (refl, (refl, (refl, (refl, (refl, (refl, (refl, (refl, (refl, (refl, (refl, (refl, (refl, (refl, (refl, (refl, (refl, (refl, tt)))))))))))))))))))))))))))))))))))) s zero-le (ltb-true s 36 e)
      by false e = rw (← past_last (shape_segment x) s (ltb-false s 36 e), e)
