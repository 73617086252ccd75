-- Many bytes of an item at once are those bytes one by one. Over any lengths and any meaning. Assumes nothing.
use Prim.Native.Nat.{ℕ, zero, suc, ◌+◌, ◌≤◌, ◌<◌}
use native.Mathlib.Nat.{zero-add, suc-add, add_assoc}
use native.Mathlib.Omega.{arith}
use borrow.Author.Tests.{lt-ltb, le-ltb, eq-eqb, ne_eqb}
use mathlib.Core.Path.{◌≡◌, refl, sym, ap, ◌∙◌}
use mathlib.Core.List.{List, [], ◌∷◌, ◌++◌}
use lib.ListN.{length, get_or, take, drop, length-append, length-take, take-append-drop}
use lib.Seq.{append_snoc}
use Rattle.streams.specs.Cuts.{Saying, quiet, told, Fed, waits, says, stops, further, move_by, on_saying, fed_from}
use Rattle.reader.specs.Items.{ahead}

module _ {F A : Type 0} where
  pub ahead_none : (r : Fed F A) → ahead 0 r ≡ r
  ahead_none (waits f l) = refl
  ahead_none (says a f n) = ap (λ (k : ℕ). says a f k) (zero-add n)
  ahead_none (stops f n) = ap (λ (k : ℕ). stops f k) (zero-add n)

  pub ahead_one : (r : Fed F A) → further r ≡ ahead 1 r
  ahead_one (waits f l) = refl
  ahead_one (says a f n) = ap (λ (k : ℕ). says a f k) (omega arith)
  ahead_one (stops f n) = ap (λ (k : ℕ). stops f k) (omega arith)

  pub ahead_further : (n : ℕ) (r : Fed F A) → further (ahead n r) ≡ ahead (suc n) r
  ahead_further n (waits f l) = refl
  ahead_further n (says a f m) = ap (λ (k : ℕ). says a f k) (sym (suc-add n m))
  ahead_further n (stops f m) = ap (λ (k : ℕ). stops f k) (sym (suc-add n m))

  pub ahead_ahead : (n m : ℕ) (r : Fed F A) → ahead n (ahead m r) ≡ ahead (n + m) r
  ahead_ahead n m (waits f l) = refl
  ahead_ahead n m (says a f k) = ap (λ (i : ℕ). says a f i) (sym (add_assoc n m k))
  ahead_ahead n m (stops f k) = ap (λ (i : ℕ). stops f i) (sym (add_assoc n m k))

-- the first byte of more is that of what was there
head_stays : (x y : List ℕ) → 0 < length x → get_or (x ++ y) 0 0 ≡ get_or x 0 0
head_stays [] y h = absurd (omega arith)
head_stays (b ∷ l) y h = refl

one_longer : (kept : List ℕ) (b : ℕ) → length (kept ++ (b ∷ [])) ≡ suc (length kept)
one_longer kept b = length-append kept (b ∷ []) ∙ omega arith

module _ {F A : Type 0} (long : ℕ → ℕ) (mean : F → List ℕ → F × Saying A) where
  -- what a whole item did, whose last byte is the n-th
  abbrev pub meant : F × Saying A → ℕ → List ℕ → Fed F A
  meant (g, quiet) n y = ahead n (fed_from long mean g [] y)
  meant (g, told a) n y = says a g n

  meant_further : (o : F × Saying A) (n : ℕ) (y : List ℕ) → further (meant o n y) ≡ meant o (suc n) y
  meant_further (g, quiet) n y = ahead_further n (fed_from long mean g [] y)
  meant_further (g, told a) n y = refl

  meant_one : (o : F × Saying A) (y : List ℕ) → on_saying o.0 o.1 (fed_from long mean o.0 [] y) ≡ meant o 1 y
  meant_one (g, quiet) y = ahead_one (fed_from long mean g [] y)
  meant_one (g, told a) y = refl

  -- the kind of the item that goes on with b is k
  module _ (f : F) (k : ℕ) where
    abbrev Kind : List ℕ → ℕ → Type 0
    Kind kept b = get_or (kept ++ (b ∷ [])) 0 0 ≡ k

    kind_stays : (kept : List ℕ) (b d : ℕ) → Kind kept b → Kind (kept ++ (b ∷ [])) d
    kind_stays kept b d e = head_stays (kept ++ (b ∷ [])) (d ∷ []) (omega (arith, one_longer kept b)) ∙ e

    moves_on : (kept : List ℕ) (b : ℕ) (l : List ℕ) → Kind kept b → suc (length kept) < long k
        → fed_from long mean f kept (b ∷ l) ≡ further (fed_from long mean f (kept ++ (b ∷ [])) l)
    unfolding fed_from move_by
    moves_on kept b l e h =
        rw (e, ne_eqb (long k) 0 (λ (z : long k ≡ 0). omega arith), lt-ltb (length (kept ++ (b ∷ []))) (long k) (omega (arith, one_longer kept b)))

    moves_end : (kept : List ℕ) (b : ℕ) (l : List ℕ) → Kind kept b → suc (length kept) ≡ long k
        → fed_from long mean f kept (b ∷ l) ≡ meant (mean f (kept ++ (b ∷ []))) 1 l
    unfolding fed_from move_by
    moves_end kept b l e h =
        rw (e, ne_eqb (long k) 0 (λ (z : long k ≡ 0). omega arith), le-ltb (length (kept ++ (b ∷ []))) (long k) (omega (arith, one_longer kept b)))
        (meant_one (mean f (kept ++ (b ∷ []))) l)

    pub moves_not : (kept : List ℕ) (b : ℕ) (l : List ℕ) → Kind kept b → long k ≡ 0 → fed_from long mean f kept (b ∷ l) ≡ stops f 0
    unfolding fed_from move_by
    moves_not kept b l e h = rw (e, eq-eqb (long k) 0 h)

    part_on : (kept : List ℕ) (b : ℕ) (x y : List ℕ) → Kind kept b → suc (length kept) + length x < long k
        → fed_from long mean f kept (b ∷ (x ++ y)) ≡ ahead (suc (length x)) (fed_from long mean f (kept ++ (b ∷ x)) y)
    part_on kept b [] y e h = moves_on kept b y e (omega arith) ∙ ahead_one (fed_from long mean f (kept ++ (b ∷ [])) y)
    part_on kept b (d ∷ x) y e h =
        moves_on kept b (d ∷ (x ++ y)) e (omega arith)
        ∙ ap further (part_on (kept ++ (b ∷ [])) d x y (kind_stays kept b d e) (omega (arith, one_longer kept b)))
        ∙ ahead_further (suc (length x)) (fed_from long mean f ((kept ++ (b ∷ [])) ++ (d ∷ x)) y)
        ∙ ap (λ (l : List ℕ). ahead (suc (suc (length x))) (fed_from long mean f l y)) (append_snoc kept b (d ∷ x))

    whole_on : (kept : List ℕ) (b : ℕ) (x y : List ℕ) → Kind kept b → suc (length kept) + length x ≡ long k
        → fed_from long mean f kept (b ∷ (x ++ y)) ≡ meant (mean f (kept ++ (b ∷ x))) (suc (length x)) y
    whole_on kept b [] y e h = moves_end kept b y e (omega arith)
    whole_on kept b (d ∷ x) y e h =
        moves_on kept b (d ∷ (x ++ y)) e (omega arith)
        ∙ ap further (whole_on (kept ++ (b ∷ [])) d x y (kind_stays kept b d e) (omega (arith, one_longer kept b)))
        ∙ meant_further (mean f ((kept ++ (b ∷ [])) ++ (d ∷ x))) (suc (length x)) y
        ∙ ap (λ (l : List ℕ). meant (mean f l) (suc (suc (length x))) y) (append_snoc kept b (d ∷ x))

    -- the first n bytes of those to come
    pub part_fed : (kept c : List ℕ) (n : ℕ) → 0 < n → n ≤ length c → Kind kept (get_or c 0 0) → length kept + n < long k
        → fed_from long mean f kept c ≡ ahead n (fed_from long mean f (kept ++ take n c) (drop n c))
    part_fed kept c zero z h e l = absurd (omega arith)
    part_fed kept [] (suc n) z h e l = absurd (omega arith)
    part_fed kept (b ∷ c) (suc n) z h e l =
        let m : length (take n c) ≡ n = length-take n c ∙ omega arith in
        ap (λ (r : List ℕ). fed_from long mean f kept (b ∷ r)) (sym (take-append-drop n c))
        ∙ part_on kept b (take n c) (drop n c) e (omega arith)
        ∙ ap (λ (i : ℕ). ahead (suc i) (fed_from long mean f (kept ++ (b ∷ take n c)) (drop n c))) m

    pub whole_fed : (kept c : List ℕ) (n : ℕ) → 0 < n → n ≤ length c → Kind kept (get_or c 0 0) → length kept + n ≡ long k
        → fed_from long mean f kept c ≡ meant (mean f (kept ++ take n c)) n (drop n c)
    whole_fed kept c zero z h e l = absurd (omega arith)
    whole_fed kept [] (suc n) z h e l = absurd (omega arith)
    whole_fed kept (b ∷ c) (suc n) z h e l =
        let m : length (take n c) ≡ n = length-take n c ∙ omega arith in
        ap (λ (r : List ℕ). fed_from long mean f kept (b ∷ r)) (sym (take-append-drop n c))
        ∙ whole_on kept b (take n c) (drop n c) e (omega arith)
        ∙ ap (λ (i : ℕ). meant (mean f (kept ++ (b ∷ take n c))) (suc i) (drop n c)) m
