-- A walk along a list, i = 0, 1, .. until `entry_at` answers none: it meets each entry in turn, and there are at most four. Assumes nothing.
use Rattle.std.specs.Prelude.{Option, None, Some, slice_get}
use Rattle.std.proofs.lemmas.Option.{slice_get_within, slice_get_past}
use Prim.Native.Nat.{ℕ, zero, suc, zero-le, ◌+◌, ◌≤◌, ◌<◌}
use native.Mathlib.Numerals.{add-one}
use native.Mathlib.Omega.{arith}
use borrow.Author.Tests.{leb-true}
use mathlib.Core.Path.{◌≡◌, refl}
use mathlib.Core.List.{List, [], ◌∷◌}
use lib.Dec.{leb}
use lib.ListN.{length, drop, drop_of_length-le, get_or-eq_default}
use Rattle.laws.specs.Lists.{each, flat}
use Rattle.laws.proofs.Every.{at}
use Rattle.implicit.specs.declared.Entry.{Entry}
use Rattle.implicit.specs.Lists.{implicits, implicit_of, entry_at}

-- no list is longer than four: a test of all of them
pub at_most_four : (l : ℕ) → length (implicit_of l) ≤ 4
unfolding implicit_of
at_most_four l = leb-true _ _ (at (λ (k : ℕ) (es : List Entry). leb (length es) 4) implicits [] refl (λ k. refl) l)

-- there is no list above 28
pub none_above : (l : ℕ) → 28 < l → implicit_of l ≡ []
unfolding implicit_of
none_above l h = get_or-eq_default implicits [] {n = l} h

pub past_last : (l i : ℕ) → length (implicit_of l) ≤ i → entry_at l i ≡ None
unfolding entry_at
past_last l i h = slice_get_past (implicit_of l) i h

-- an entry stands at one of the four places
pub below_four : (l i : ℕ) {e : Entry} → entry_at l i ≡ Some e → i < 4
unfolding entry_at
below_four l i {e} p = omega (arith, slice_get_within (implicit_of l) i e p, at_most_four l)

-- a step along any list: an element and those behind it; and its end
module _ {A : Type 0} where
  onward : (es : List A) (i : ℕ) {e : A} → slice_get es i ≡ Some e → drop i es ≡ e ∷ drop (suc i) es
  onward [] i p = cc
  onward (x ∷ es) zero p = cc
  onward (x ∷ es) (suc i) p = onward es i p

  ended : (es : List A) (i : ℕ) → slice_get es i ≡ None → length es ≤ i
  ended [] i p = zero-le
  ended (x ∷ es) zero p = cc
  ended (x ∷ es) (suc i) p = omega (arith, ended es i p)

-- a step of the walk: an entry and those behind it; and the end of the walk
pub step : (l i : ℕ) {e : Entry} → entry_at l i ≡ Some e → drop i (implicit_of l) ≡ e ∷ drop (i + 1) (implicit_of l)
unfolding entry_at
step l i p = rw (add-one i) (onward (implicit_of l) i p)

pub stop : (l i : ℕ) → entry_at l i ≡ None → drop i (implicit_of l) ≡ []
unfolding entry_at
stop l i p = drop_of_length-le (implicit_of l) (ended (implicit_of l) i p)

-- a list by its four places, of which those past its end give nothing
four_places :
    {B : Type 0} (f : Option Entry → List B) → f None ≡ [] → (es : List Entry) → length es ≤ 4
    → flat (f (slice_get es 0) ∷ f (slice_get es 1) ∷ f (slice_get es 2) ∷ f (slice_get es 3) ∷ []) ≡ each (λ e. f (Some e)) es
unfolding flat each
four_places f z [] h = rw z
four_places f z (a ∷ []) h = rw z
four_places f z (a ∷ b ∷ []) h = rw z
four_places f z (a ∷ b ∷ c ∷ []) h = rw z
four_places f z (a ∷ b ∷ c ∷ d ∷ []) h = refl
four_places f z (a ∷ b ∷ c ∷ d ∷ e ∷ es) h = absurd (omega arith)

pub unrolled :
    {B : Type 0} (f : Option Entry → List B) → f None ≡ [] → (l : ℕ)
    → flat (f (entry_at l 0) ∷ f (entry_at l 1) ∷ f (entry_at l 2) ∷ f (entry_at l 3) ∷ []) ≡ each (λ e. f (Some e)) (implicit_of l)
unfolding entry_at
unrolled f z l = four_places f z (implicit_of l) (at_most_four l)
