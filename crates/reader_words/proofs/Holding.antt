-- Which reader words are. Assumes nothing.
use Prim.Native.Nat.{ℕ}
use mathlib.Core.Path.{◌≡◌, refl, sym, ap, ap₂, ◌∙◌}
use mathlib.Core.List.{List, []}
use mathlib.Core.Bool.{Bool, true, false, cond, ◌&&◌}
use lib.ListN.{length, replicate}
use Rattle.laws.specs.Words.{number_at}
use Rattle.registers.specs.Files.{numbers_from}
use Rattle.streams.specs.Cuts.{halted, closing_of}
use Rattle.streams.specs.Streams.{StreamReader, fresh, close}
use Rattle.reader.specs.Places.{item_room}
use Rattle.reader.specs.Held.{is_part, is_latest, reader_with, reader_in, checked}
use Rattle.reader.specs.declared.held.Reader.{Reader}
use Rattle.reader.proofs.Sound.{stopped_is}
use Rattle.reader_words.specs.Words.{reader_words, place_words, bytes_in, words_in, words_of, numbers_in, told_by, same_words, reader_by, closed_words}
use Rattle.reader_words.proofs.Packing.{bytes_long}
use Rattle.reader_words.proofs.Ordered.{same_as_itself, same_lists, words_long_lem}

pub place_long : (w : List ℕ) (from : ℕ) → length (bytes_in w from) ≡ item_room
unfolding bytes_in
place_long w from = bytes_long w from place_words

pub told_from :
    (w item file : List ℕ) (x : StreamReader)
    → x ≡ reader_in (numbers_in w) item file → item ≡ bytes_in w 0 → file ≡ bytes_in w place_words → x ≡ told_by w
unfolding told_by
told_from w item file x e p q = e ∙ ap₂ (λ (i : List ℕ) (f : List ℕ). reader_in (numbers_in w) i f) p q

-- a reader that is checked is what words tell of, and is written again
module _ (w : List ℕ) (r : Reader) (told : checked r ≡ told_by w) where
  abbrev sound : Bool
  sound = is_part r.kept && is_latest r.file

  abbrev by : StreamReader → StreamReader
  by x = cond (same_words (words_of x) w reader_words) x (halted [])

  same_ends : {A : Type 0} (t : Bool) (x : A) → cond t x x ≡ x
  same_ends true x = refl
  same_ends false x = refl

  by_told : reader_by w ≡ by (checked r)
  unfolding reader_by
  by_told = ap by (sym told)

  -- words that are those of the reader that they tell of
  pub held_by : w ≡ words_of (reader_with r) → checked r ≡ reader_by w
  unfolding checked
  held_by same = go sound ∙ sym by_told
    where
      go : (t : Bool) → cond t (reader_with r) (halted []) ≡ by (cond t (reader_with r) (halted []))
      go true = sym (ap (λ (l : List ℕ). cond (same_words l w reader_words) (reader_with r) (halted [])) (sym same) ∙ rw (same_as_itself w reader_words))
      go false = sym (same_ends (same_words (words_of (halted [])) w reader_words) (halted []))

  pub held_by_none : length w ≡ reader_words → (w ≡ words_of (reader_with r) → ⊥) → (s : Reader) → reader_with s ≡ halted [] → checked s ≡ reader_by w
  unfolding checked
  held_by_none long differ s e = stopped_is s e ∙ sym (by_told ∙ go sound)
    where
      other : (t : Bool) → same_words (words_of (reader_with r)) w reader_words ≡ t → cond t (reader_with r) (halted []) ≡ halted []
      other true e = absurd (differ (sym (same_lists (words_of (reader_with r)) w (words_long_lem (reader_with r)) long e)))
      other false e = refl

      go : (t : Bool) → by (cond t (reader_with r) (halted [])) ≡ halted []
      go true = other (same_words (words_of (reader_with r)) w reader_words) refl
      go false = same_ends (same_words (words_of (halted [])) w reader_words) (halted [])

-- a fresh reader's words are 0
pub fresh_words_lem : replicate reader_words 0 ≡ words_of fresh
unfolding words_of words_in numbers_from number_at
fresh_words_lem = refl

pub closed_by : (x y : StreamReader) (n : ℕ) → x ≡ y → n ≡ closing_of x → (n, replicate reader_words 0) ≡ closed_words y
unfolding close
closed_by x y n e h = ap₂ (λ (k : ℕ) (w : List ℕ). (k, w)) (h ∙ ap (λ (x : StreamReader). closing_of x) e) fresh_words_lem
