-- The code's rows and bits say what the lists say: each by one equation between whole tables, which antt computes. Assumes nothing.
use Rattle.std.specs.Prelude.{Option, None, slice_get}
use Prim.Native.Nat.{ℕ, zero, suc, ◌<◌}
use native.Mathlib.Nat.{le_of_suc-le-suc, not-suc-le-zero}
use mathlib.Core.Path.{◌≡◌, refl, sym, ap, ◌∙◌}
use mathlib.Core.Bool.{Bool, false}
use mathlib.Core.List.{List, [], ◌∷◌, map}
use lib.ListN.{get_or, get_or-map}
use Rattle.laws.specs.Tests.{any}
use Rattle.laws.specs.Words.{bit}
use Rattle.implicit.specs.declared.Entry.{Entry}
use Rattle.implicit.specs.Codes.{entry_of, code_in, rows, row_of}
use Rattle.implicit.specs.Lists.{implicits, implicit_of, entry_at}
use Rattle.implicit.specs.Memory.{memory_entry}

module _ {A : Type 0} where
  -- f at the first n numbers
  abbrev pub firsts : ℕ → (ℕ → A) → List A
  firsts zero f = []
  firsts (suc n) f = f zero ∷ firsts n (λ k. f (suc k))

  firsts_at : (n : ℕ) (f : ℕ → A) (d : A) (k : ℕ) → k < n → get_or (firsts n f) k d ≡ f k
  firsts_at zero f d k h = absurd (not-suc-le-zero h)
  firsts_at (suc n) f d zero h = refl
  firsts_at (suc n) f d (suc k) h = firsts_at n (λ k. f (suc k)) d k (le_of_suc-le-suc h)

-- the four places of a list, none where it has fewer; and what a row holds in its four
abbrev filled : List Entry → List (Option Entry)
filled es = firsts 4 (slice_get es)

abbrev held : ℕ → List (Option Entry)
held row = firsts 4 (λ i. entry_of (code_in row i))

-- the test of the whole table
rows_hold : map held rows ≡ map filled implicits
unfolding entry_of code_in
rows_hold = refl

pub rows_right : (l i : ℕ) → i < 4 → entry_of (code_in (row_of l) i) ≡ entry_at l i
unfolding entry_of code_in implicit_of entry_at
rows_right l i h =
    sym (firsts_at 4 (λ i. entry_of (code_in (row_of l) i)) None i h)
    ∙ ap (λ (es : List (Option Entry)). get_or es i None)
    (sym (get_or-map held rows l 0)
    ∙ ap (λ (ls : List (List (Option Entry))). get_or ls l (held 0)) rows_hold
    ∙ get_or-map filled implicits l [])
    ∙ firsts_at 4 (slice_get (implicit_of l)) None i h

-- bits, one for each list, that pass the test of all of them
pub bits_right :
    (bits : ℕ) → firsts 29 (bit bits) ≡ map (any memory_entry) implicits
    → (l : ℕ) → l < 29 → bit bits l ≡ any memory_entry (implicit_of l)
unfolding any implicit_of
bits_right bits e l h =
    sym (firsts_at 29 (bit bits) false l h)
    ∙ ap (λ (ts : List Bool). get_or ts l false) e
    ∙ get_or-map (any memory_entry) implicits l []
