-- Words that are compared where they stand: they are those of a reader just where each part is. Assumes nothing.
use Prim.Native.Nat.{ℕ, zero, suc, ◌+◌, ◌*◌, ◌≤◌, ◌<◌}
use native.Mathlib.Omega.{arith}
use mathlib.Core.Path.{◌≡◌, refl, sym, ap, ◌∙◌}
use mathlib.Core.List.{List, [], ◌∷◌, ◌++◌}
use mathlib.Core.Bool.{cond}
use lib.ListN.{length, get_or, take, drop, replicate, length-drop}
use lib.Seq.{ext_get_or, take_at, drop_at}
use Rattle.std.proofs.lemmas.List.{get_or-take, get_or-drop, take-append-drop, length-take-le, drop-drop}
use Rattle.laws.specs.Words.{number_at}
use Rattle.registers.specs.Files.{numbers_from}
use Rattle.streams.specs.Streams.{StreamReader}
use Rattle.reader.specs.Places.{item_room, room_of}
use Rattle.reader_words.specs.Words.{reader_words, place_words, AreAt, words_in, words_of}
use Rattle.reader_words.proofs.Packing.{words_long, padded}

-- one of the numbers of bytes
number_in : (b : List ℕ) (k n i : ℕ) → i < n → get_or (numbers_from b k n) i 0 ≡ number_at b (k + 8 * i) 8
unfolding numbers_from
number_in b k zero i h = absurd (omega arith)
number_in b k (suc n) zero h = let e : k ≡ k + 8 * 0 = omega arith in ap (λ (j : ℕ). number_at b j 8) e
number_in b k (suc n) (suc i) h =
    let e : k + 8 + 8 * i ≡ k + 8 * suc i = omega arith in
    number_in b (k + 8) n i (omega arith) ∙ ap (λ (j : ℕ). number_at b j 8) e

word_in : (b : List ℕ) (i : ℕ) → i < place_words → get_or (words_in b) i 0 ≡ number_at b (8 * i) 8
unfolding words_in
word_in b i h = let e : 0 + 8 * i ≡ 8 * i = omega arith in number_in b 0 place_words i h ∙ ap (λ (j : ℕ). number_at b j 8) e

-- THE WORDS OF A PLACE, among others
module _ (w b : List ℕ) (from : ℕ) (inside : from + place_words ≤ length w) where
  there : (i : ℕ) → i < place_words → get_or (take place_words (drop from w)) i 0 ≡ get_or w (from + i) 0
  there i h = get_or-take place_words (drop from w) i 0 h ∙ get_or-drop from w i 0

  long : length (take place_words (drop from w)) ≡ place_words
  long = length-take-le place_words (drop from w) (omega (arith, inside, length-drop from w))

  pub place_is : AreAt w from b → take place_words (drop from w) ≡ words_in b
  place_is h = ext_get_or 0 _ _ (long ∙ sym (words_long b)) (λ i l. let k : i < place_words = omega (arith, l, long) in there i k ∙ h i k ∙ sym (word_in b i k))

  pub place_was : take place_words (drop from w) ≡ words_in b → AreAt w from b
  place_was e i k = sym (there i k) ∙ ap (λ (l : List ℕ). get_or l i 0) e ∙ word_in b i k

-- THE EIGHT WORDS BEHIND BOTH
eight :
    (l : List ℕ) → length l ≡ 8
    → l ≡ get_or l 0 0 ∷ get_or l 1 0 ∷ get_or l 2 0 ∷ get_or l 3 0 ∷ get_or l 4 0 ∷ get_or l 5 0 ∷ get_or l 6 0 ∷ get_or l 7 0 ∷ []
eight [] h = absurd (omega (arith, h))
eight (a ∷ []) h = absurd (omega (arith, h))
eight (a ∷ b ∷ []) h = absurd (omega (arith, h))
eight (a ∷ b ∷ c ∷ []) h = absurd (omega (arith, h))
eight (a ∷ b ∷ c ∷ d ∷ []) h = absurd (omega (arith, h))
eight (a ∷ b ∷ c ∷ d ∷ e ∷ []) h = absurd (omega (arith, h))
eight (a ∷ b ∷ c ∷ d ∷ e ∷ f ∷ []) h = absurd (omega (arith, h))
eight (a ∷ b ∷ c ∷ d ∷ e ∷ f ∷ g ∷ []) h = absurd (omega (arith, h))
eight (a ∷ b ∷ c ∷ d ∷ e ∷ f ∷ g ∷ i ∷ []) h = refl
eight (a ∷ b ∷ c ∷ d ∷ e ∷ f ∷ g ∷ i ∷ j ∷ l) h = absurd (omega (arith, h))

pub numbers_told :
    (w : List ℕ) → length w ≡ reader_words
    → drop 40 w
    ≡ get_or w 40 0 ∷ get_or w 41 0 ∷ get_or w 42 0 ∷ get_or w 43 0 ∷ get_or w 44 0 ∷ get_or w 45 0 ∷ get_or w 46 0 ∷ get_or w 47 0 ∷ []
numbers_told w h =
    eight (drop 40 w) (length-drop 40 w ∙ omega (arith, h))
    ∙ rw (get_or-drop 40 w 0 0, get_or-drop 40 w 1 0, get_or-drop 40 w 2 0, get_or-drop 40 w 3 0, get_or-drop 40 w 4 0, get_or-drop 40 w 5 0, get_or-drop 40 w 6 0, get_or-drop 40 w 7 0)

-- all of them, one part after the other
pub three_parts : (w : List ℕ) → w ≡ take 20 (drop 0 w) ++ (take 20 (drop 20 w) ++ drop 40 w)
three_parts w =
    sym (take-append-drop 20 w) ∙ ap (λ (l : List ℕ). take 20 w ++ l) (sym (take-append-drop 20 (drop 20 w)))
    ∙ ap (λ (l : List ℕ). take 20 w ++ (take 20 (drop 20 w) ++ l)) (drop-drop 20 20 w)

module _ (w : List ℕ) (r : StreamReader) (long : length w ≡ reader_words) where
  abbrev numbers : List ℕ
  numbers = length r.kept ∷ length r.file ∷ cond r.stopped 1 0 ∷ replicate 5 0

  abbrev pub told : List ℕ
  told = get_or w 40 0 ∷ get_or w 41 0 ∷ get_or w 42 0 ∷ get_or w 43 0 ∷ get_or w 44 0 ∷ get_or w 45 0 ∷ get_or w 46 0 ∷ get_or w 47 0 ∷ []

  pub all_told : AreAt w 0 (room_of r.kept) → AreAt w 20 (room_of r.file) → told ≡ numbers → w ≡ words_of r
  unfolding words_of
  all_told p q e =
      three_parts w
      ∙ ap (λ (l : List ℕ). l ++ (take 20 (drop 20 w) ++ drop 40 w)) (place_is w (room_of r.kept) 0 (omega (arith, long)) p ∙ padded item_room r.kept)
      ∙ ap (λ (l : List ℕ). words_in r.kept ++ (l ++ drop 40 w)) (place_is w (room_of r.file) 20 (omega (arith, long)) q ∙ padded item_room r.file)
      ∙ ap (λ (l : List ℕ). words_in r.kept ++ (words_in r.file ++ l)) (numbers_told w long ∙ e)

  pub kept_was : w ≡ words_of r → AreAt w 0 (room_of r.kept)
  unfolding words_of
  kept_was z =
      place_was w (room_of r.kept) 0 (omega (arith, long))
      (ap (λ (l : List ℕ). take 20 l) z ∙ take_at (words_in r.kept) (words_in r.file ++ numbers) 20 (words_long r.kept) ∙ sym (padded item_room r.kept))

  behind_kept : w ≡ words_of r → drop 20 w ≡ words_in r.file ++ numbers
  unfolding words_of
  behind_kept z = ap (drop 20) z ∙ drop_at (words_in r.kept) (words_in r.file ++ numbers) 20 (words_long r.kept)

  pub file_was : w ≡ words_of r → AreAt w 20 (room_of r.file)
  file_was z =
      place_was w (room_of r.file) 20 (omega (arith, long))
      (ap (take 20) (behind_kept z) ∙ take_at (words_in r.file) numbers 20 (words_long r.file) ∙ sym (padded item_room r.file))

  pub numbers_were : w ≡ words_of r → told ≡ numbers
  numbers_were z =
      sym (numbers_told w long) ∙ sym (drop-drop 20 20 w) ∙ ap (drop 20) (behind_kept z) ∙ drop_at (words_in r.file) numbers 20 (words_long r.file)
