-- Sums over lists, and words that are raised where nothing wraps. Assumes nothing.
use Prim.Native.Nat.{ℕ, ◌+◌, ◌*◌, ◌%◌, ◌≤◌, ◌<◌}
use native.Mathlib.Omega.{arith}
use mathlib.Core.Path.{◌≡◌, refl, ap, ap₂, ◌∙◌}
use mathlib.Core.Bool.{Bool, true, false, cond}
use mathlib.Core.List.{List, [], ◌∷◌, ◌++◌, Permᴰ}
use lib.ListN.{length, get_or, set, length-set}
use lib.Seq.{get_or-set_same, get_or-set_other}
use lib.Dec.{eqb, ltb}
use borrow.Author.Tests.{eqb-true, eqb-false, ltb-true, ltb-false}
use Rattle.laws.specs.Lists.{each}
use Rattle.definition.specs.Addresses.{word}
use Rattle.totals.specs.Sheets.{sheet_words, raised, raised_by}
use Rattle.figures.specs.Counts.{sum_of}

module _ {A : Type 0} (f : A → ℕ) where
  pub sum_append : (xs ys : List A) → sum_of f (xs ++ ys) ≡ sum_of f xs + sum_of f ys
  unfolding sum_of
  sum_append [] ys = omega arith
  sum_append (x ∷ xs) ys = omega (arith, sum_append xs ys)

  -- the order does not matter
  pub sum_any_order : {xs ys : List A} → Permᴰ xs ys → sum_of f xs ≡ sum_of f ys
  unfolding sum_of
  sum_any_order Permᴰ.nil = refl
  sum_any_order (Permᴰ.cons e p) = ap₂ (λ (m n : ℕ). m + n) (ap f e) (sum_any_order p)
  sum_any_order (Permᴰ.swap {l = l} e g) = let d = ap f e in let h = ap f g in omega arith
  sum_any_order (Permᴰ.trans p q) = sum_any_order p ∙ sum_any_order q

  pub sum_most : (k : ℕ) → ((x : A) → f x ≤ k) → (xs : List A) → sum_of f xs ≤ length xs * k
  unfolding sum_of
  sum_most k h [] = omega arith
  sum_most k h (x ∷ xs) = omega (arith, h x, sum_most k h xs)

pub sum_one : {A : Type 0} (xs : List A) → sum_of (λ (x : A). 1) xs ≡ length xs
unfolding sum_of
sum_one [] = refl
sum_one (x ∷ xs) = omega (arith, sum_one xs)

-- how much additions add to a word
unfoldable pub amount : ℕ → List (ℕ × ℕ) → ℕ
amount i [] = 0
amount i (p ∷ ps) = cond (eqb i p.0) p.1 0 + amount i ps

pub amount_append : (i : ℕ) (ps qs : List (ℕ × ℕ)) → amount i (ps ++ qs) ≡ amount i ps + amount i qs
unfolding amount
amount_append i [] qs = omega arith
amount_append i (p ∷ ps) qs = omega (arith, amount_append i ps qs)

pub amount_each : {A : Type 0} (f : A → List (ℕ × ℕ)) (i : ℕ) (xs : List A) → amount i (each f xs) ≡ sum_of (λ (x : A). amount i (f x)) xs
unfolding amount each sum_of
amount_each f i [] = refl
amount_each f i (x ∷ xs) = amount_append i (f x) (each f xs) ∙ ap (λ (n : ℕ). amount i (f x) + n) (amount_each f i xs)

raised_long : (w : List ℕ) (j n : ℕ) → length (raised w j n) ≡ length w
unfolding raised
raised_long w j n = go (ltb j sheet_words)
  where
    go : (t : Bool) → length (cond t (set w j ((get_or w j 0 + n) % word)) w) ≡ length w
    go true = length-set w j _
    go false = refl

-- a word is raised by what is added to it, where that does not wrap
raised_at : (w : List ℕ) (i j n : ℕ) → length w ≡ sheet_words → i < sheet_words → get_or w i 0 + cond (eqb i j) n 0 < word → get_or (raised w j n) i 0 ≡ get_or w i 0 + cond (eqb i j) n 0
unfolding raised
raised_at w i j n long h small = go (ltb j sheet_words) refl (eqb i j) refl small
  where
    go : (s : Bool) → ltb j sheet_words ≡ s → (t : Bool) → eqb i j ≡ t → get_or w i 0 + cond t n 0 < word → get_or (cond s (set w j ((get_or w j 0 + n) % word)) w) i 0 ≡ get_or w i 0 + cond t n 0
    go true e true d k =
        let same = eqb-true i j d in
        rw same (get_or-set_same w j _ 0 (omega (arith, ltb-true j sheet_words e)) ∙ (let m : get_or w j 0 + n < word = rw same at k in omega arith))
    go true e false d k = get_or-set_other w j i _ 0 (eqb-false i j d) ∙ omega arith
    go false e true d k = absurd (omega (arith, eqb-true i j d, ltb-false j sheet_words e))
    go false e false d k = omega arith

pub raised_by_long : (ps : List (ℕ × ℕ)) (w : List ℕ) → length (raised_by w ps) ≡ length w
unfolding raised_by
raised_by_long [] w = refl
raised_by_long (p ∷ ps) w = raised_by_long ps (raised w p.0 p.1) ∙ raised_long w p.0 p.1

pub raised_sum :
    (ps : List (ℕ × ℕ)) (w : List ℕ) (i : ℕ) → length w ≡ sheet_words → i < sheet_words → get_or w i 0 + amount i ps < word
    → get_or (raised_by w ps) i 0 ≡ get_or w i 0 + amount i ps
unfolding raised_by amount
raised_sum [] w i long h small = omega arith
raised_sum (p ∷ ps) w i long h small =
    let here = raised_at w i p.0 p.1 long h (omega arith) in
    raised_sum ps (raised w p.0 p.1) i (raised_long w p.0 p.1 ∙ long) h (omega arith) ∙ omega arith
