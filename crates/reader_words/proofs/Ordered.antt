-- The words of a reader, one part after the other. Assumes nothing.
use Prim.Native.Nat.{ℕ, zero, suc, ◌+◌, ◌≤◌, ◌<◌}
use native.Mathlib.Omega.{arith}
use borrow.Author.Tests.{eq-eqb, eqb-true, eqb-false}
use mathlib.Core.Path.{◌≡◌, refl, sym, ap, ◌∙◌}
use mathlib.Core.List.{List, [], ◌∷◌, ◌++◌, append_assoc}
use mathlib.Core.Bool.{Bool, true, false, cond}
use lib.ListN.{length, get_or, drop, set, replicate, length-append, length-replicate}
use lib.Seq.{sets, sets-eq, take_at, drop-append-add, ext_get_or}
use lib.Dec.{eqb}
use mir.Val.{bool_byte as from_bool}
use Rattle.std.proofs.lemmas.Bool.{and_parts}
use Rattle.streams.specs.Streams.{StreamReader}
use Rattle.reader.specs.Held.{reader_with}
use Rattle.reader.specs.declared.held.Reader.{Reader}
use Rattle.reader_words.specs.Words.{reader_words, words_in, words_of, same_words}
use Rattle.reader_words.proofs.Packing.{words_long}

-- words laid over those behind a front
laid_over : (x y z : List ℕ) (n : ℕ) → length x ≡ n → length y ≤ length z → sets (x ++ z) n y ≡ x ++ (y ++ drop (length y) z)
laid_over x y z n e h =
    sets-eq y (x ++ z) n (omega (arith, length-append x z))
    ∙ ap (λ (l : List ℕ). l ++ y ++ drop (n + length y) (x ++ z)) (take_at x z n e)
    ∙ ap (λ (k : ℕ). x ++ y ++ drop (k + length y) (x ++ z)) (sym e)
    ∙ ap (λ (l : List ℕ). x ++ y ++ l) (drop-append-add x z (length y))
    ∙ append_assoc x y (drop (length y) z)

module _ (a b : List ℕ) (p : length a ≡ 20) (q : length b ≡ 20) (k h s : ℕ) where
  first : sets (replicate 48 0) 0 a ≡ a ++ replicate 28 0
  first = laid_over [] a (replicate 48 0) 0 refl (omega (arith, length-replicate {A = ℕ} 48 0)) ∙ ap (λ (n : ℕ). a ++ drop n (replicate 48 0)) p

  second : sets (a ++ replicate 28 0) 20 b ≡ a ++ (b ++ replicate 8 0)
  second = laid_over a b (replicate 28 0) 20 p (omega (arith, length-replicate {A = ℕ} 28 0)) ∙ ap (λ (n : ℕ). a ++ (b ++ drop n (replicate 28 0))) q

  third : sets (a ++ (b ++ replicate 8 0)) 40 (k ∷ h ∷ s ∷ []) ≡ a ++ (b ++ (k ∷ h ∷ s ∷ replicate 5 0))
  third =
      ap (λ (l : List ℕ). sets l 40 (k ∷ h ∷ s ∷ [])) (sym (append_assoc a b (replicate 8 0)))
      ∙ laid_over (a ++ b) (k ∷ h ∷ s ∷ []) (replicate 8 0) 40 (length-append a b ∙ omega (arith, p, q)) (omega (arith, length-replicate {A = ℕ} 8 0))
      ∙ append_assoc a b (k ∷ h ∷ s ∷ replicate 5 0)

  pub built : set (set (set (sets (sets (replicate 48 0) 0 a) 20 b) 40 k) 41 h) 42 s ≡ a ++ (b ++ (k ∷ h ∷ s ∷ replicate 5 0))
  built = ap (λ (l : List ℕ). sets (sets l 20 b) 40 (k ∷ h ∷ s ∷ [])) first ∙ ap (λ (l : List ℕ). sets l 40 (k ∷ h ∷ s ∷ [])) second ∙ third

pub bit_is : (t : Bool) → from_bool t ≡ cond t 1 0
bit_is true = refl
bit_is false = refl

-- the words that are stored one after the other are those of the reader
pub written :
    (r : Reader) (v w : List ℕ) (s : ℕ)
    → v ≡ sets (replicate 48 0) 0 (words_in r.kept) → w ≡ sets v 20 (words_in r.file) → s ≡ from_bool r.stopped
    → set (set (set w 40 (length r.kept)) 41 (length r.file)) 42 s ≡ words_of (reader_with r)
unfolding words_of
written r v w s d e f = rw (e, d, f, bit_is r.stopped) (built (words_in r.kept) (words_in r.file) (words_long r.kept) (words_long r.file) (length r.kept) (length r.file) (cond r.stopped 1 0))

pub words_long_lem : (r : StreamReader) → length (words_of r) ≡ reader_words
unfolding words_of
words_long_lem r =
    length-append (words_in r.kept) (words_in r.file ++ (length r.kept ∷ length r.file ∷ cond r.stopped 1 0 ∷ replicate 5 0))
    ∙ omega (arith, length-append (words_in r.file) (length r.kept ∷ length r.file ∷ cond r.stopped 1 0 ∷ replicate 5 0), words_long r.kept, words_long r.file)

-- WORDS THAT ARE COMPARED
pub same_as_itself : (w : List ℕ) (n : ℕ) → same_words w w n ≡ true
unfolding same_words
same_as_itself w zero = refl
same_as_itself w (suc n) = rw (same_as_itself w n, eq-eqb (get_or w n 0) (get_or w n 0) refl)

by_last_lem : (v w : List ℕ) (n i : ℕ) → eqb (get_or v n 0) (get_or w n 0) ≡ true → i < suc n → (i < n → get_or v i 0 ≡ get_or w i 0) → get_or v i 0 ≡ get_or w i 0
by_last_lem v w n i h l rest = go (eqb i n) refl
  where
    go : (t : Bool) → eqb i n ≡ t → get_or v i 0 ≡ get_or w i 0
    go true e = let z : i ≡ n = eqb-true i n e in rw z (eqb-true (get_or v n 0) (get_or w n 0) h)
    go false e = rest (omega (arith, eqb-false i n e))

pub one_by_one : (v w : List ℕ) (n : ℕ) → same_words v w n ≡ true → (i : ℕ) → i < n → get_or v i 0 ≡ get_or w i 0
unfolding same_words
one_by_one v w zero h i l = absurd (omega arith)
one_by_one v w (suc n) h i l = by_last_lem v w n i ((and_parts (same_words v w n) _ h).1) l (λ k. one_by_one v w n ((and_parts _ _ h).0) i k)

pub same_lists : (v w : List ℕ) → length v ≡ reader_words → length w ≡ reader_words → same_words v w reader_words ≡ true → v ≡ w
same_lists v w p q h = ext_get_or 0 v w (p ∙ sym q) (λ i k. one_by_one v w reader_words h i (omega arith))
