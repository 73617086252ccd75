-- The lines of counts, one after the other. Assumes nothing.
use Prim.Native.Nat.{ℕ, suc, ◌+◌, ◌-◌, ◌≤◌, ◌<◌}
use native.Mathlib.Omega.{arith}
use mathlib.Core.Path.{◌≡◌, ap}
use mathlib.Core.List.{List, [], ◌∷◌, ◌++◌, append_assoc}
use lib.ListN.{get_or}
use borrow.Author.Tests.{eq-eqb, ne_eqb}
use Rattle.laws.specs.Lists.{flat}
use Rattle.laws.proofs.Lending.{Going}
use Rattle.decimal.specs.Words.{Word, word_bytes}
use Rattle.printing.specs.Ascii.{ascii}
use Rattle.printing.specs.Texts.{pair_line, count_line, count_lines, line, sheet_text, report_text}

-- words that are left, as some and then others
parted :
    {all ws : List Word} {old mid : List ℕ} {m : ℕ} (xs ys : List Word)
    → ws ≡ xs ++ ys → Going word_bytes all (ws ∷ []) old mid m → Going word_bytes all (xs ∷ ys ∷ []) old mid m
unfolding flat
parted xs ys e g =
    let h = rw (e, append_assoc xs ys []) at g.rest in
    record { done = g.done; rest = h; logged = g.logged; left = g.left; small = g.small }

-- no line at zero
pub none_at_zero : (letter : List ℕ) (k n : ℕ) → n ≡ 0 → count_line letter k n ≡ []
unfolding count_line
none_at_zero letter k n h = rw (eq-eqb n 0 h)

pub some_else : (letter : List ℕ) (k n : ℕ) → (n ≡ 0 → ⊥) → count_line letter k n ≡ pair_line letter k (ascii " ") n
unfolding count_line
some_else letter k n h = rw (ne_eqb n 0 h)

module _ (letter : List ℕ) (base : ℕ) (w : List ℕ) where
  -- the first of those that are left, and the others
  line_first :
      (k end : ℕ) → k < end
      → count_lines letter base k (end - k) w ≡ count_line letter k (get_or w (base + k) 0) ++ count_lines letter base (k + 1) (end - (k + 1)) w
  unfolding count_lines
  line_first k end h = let e : end - k ≡ suc (end - (k + 1)) = omega arith in ap (λ (n : ℕ). count_lines letter base k n w) e

  pub line_next :
      (k end : ℕ) → k < end → {all : List Word} {old mid : List ℕ} {m : ℕ}
      → Going word_bytes all (count_lines letter base k (end - k) w ∷ []) old mid m
      → Going word_bytes all (count_line letter k (get_or w (base + k) 0) ∷ count_lines letter base (k + 1) (end - (k + 1)) w ∷ []) old mid m
  line_next k end h g =
      parted (count_line letter k (get_or w (base + k) 0)) (count_lines letter base (k + 1) (end - (k + 1)) w) (line_first k end h) g

  pub line_none : (k end : ℕ) → end ≤ k → count_lines letter base k (end - k) w ≡ []
  unfolding count_lines
  line_none k end h = let e : end - k ≡ 0 = omega arith in ap (λ (n : ℕ). count_lines letter base k n w) e

  pub line_all : (first count : ℕ) → count_lines letter base first (first + count - first) w ≡ count_lines letter base first count w
  line_all first count = let e : first + count - first ≡ count = omega arith in ap (λ (n : ℕ). count_lines letter base first n w) e

-- a report is the sheet, or its refusal
pub report_sheet : (number : ℕ) (w : List ℕ) → number ≡ 0 → report_text number w ≡ sheet_text w
unfolding report_text
report_sheet number w h = rw (eq-eqb number 0 h)

pub report_refused : (number : ℕ) (w : List ℕ) → (number ≡ 0 → ⊥) → report_text number w ≡ line (ascii "refused ") number
unfolding report_text
report_refused number w h = rw (ne_eqb number 0 h)
