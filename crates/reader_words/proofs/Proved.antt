-- Every statement of specs/Promises.antt, proved. Assumes nothing.
use Prim.Native.Nat.{ℕ, zero, suc, ◌+◌, ◌-◌, ◌*◌, ◌/◌, ◌%◌, ◌≤◌, ◌<◌}
use native.Mathlib.Nat.{add-zero, zero-add}
use native.Mathlib.Omega.{arith}
use borrow.Author.Tests.{eq-eqb, lt-ltb}
use mathlib.Core.Path.{◌≡◌, refl, sym, ap, ap₂, ◌∙◌}
use mathlib.Core.Logic.{⊎_elim, ◌⊎◌, inl, inr}
use mathlib.Core.List.{List, [], ◌∷◌, ◌++◌}
use mathlib.Core.Bool.{Bool, true, false, cond, not, ◌||◌}
use lib.ListN.{length, get_or, take, replicate, get_or-append}
use lib.Seq.{get_or-append-add}
use lib.Dec.{eqb}
use Rattle.laws.specs.Words.{number_at, little}
use Rattle.registers.specs.Files.{numbers_from, is_file}
use Rattle.event.specs.Held.{Bytes}
use Rattle.streams.specs.Cuts.{halted}
use Rattle.streams.specs.Streams.{length_of, StreamReader, fresh, feed}
use Rattle.streams.specs.Promises.{Sound}
use Rattle.streams.proofs.Proved.{fresh_is_sound, calls_take, bytes_stay}
use Rattle.reader.specs.Places.{item_room}
use Rattle.reader.specs.Held.{is_part, is_latest, holds_part, holds_file, reader_in, handed_to}
use Rattle.reader.proofs.Sound.{kind_short, file_short}
use Rattle.reader_words.specs.Words.{reader_words, place_words, bytes_from, bytes_in, words_in, words_of, told_by, same_words, reader_by}
use Rattle.reader_words.specs.Promises as promised
use Rattle.reader_words.proofs.Packing.{words_long}
use Rattle.reader_words.proofs.Holding.{place_long}
use Rattle.reader_words.proofs.Ordered.{words_long_lem, same_as_itself, same_lists}

-- THE BYTES OF WORDS OF BYTES. The n bytes from place i on, 0 past the end
unfoldable gets : List ℕ → ℕ → ℕ → List ℕ
gets b i zero = []
gets b i (suc n) = get_or b i 0 ∷ gets b (i + 1) n

low : (x y : ℕ) → x < 256 → (x + 256 * y) % 256 ≡ x
low x y h = omega arith

high : (x y : ℕ) → x < 256 → (x + 256 * y) / 256 ≡ y
high x y h = omega arith

little_number : (b : List ℕ) → Bytes b → (i n : ℕ) → little n (number_at b i n) ≡ gets b i n
unfolding little number_at gets
little_number b h i zero = refl
little_number b h i (suc n) =
    rw (low (get_or b i 0) (number_at b (i + 1) n) (h i), high (get_or b i 0) (number_at b (i + 1) n) (h i)) (ap (λ (l : List ℕ). get_or b i 0 ∷ l) (little_number b h (i + 1) n))

gets_more : (b : List ℕ) (i m n : ℕ) → gets b i m ++ gets b (i + m) n ≡ gets b i (m + n)
unfolding gets
gets_more b i zero n = ap₂ (λ (j : ℕ) (k : ℕ). gets b j k) (add-zero i) (sym (zero-add n))
gets_more b i (suc m) n =
    let e : i + suc m ≡ i + 1 + m = omega arith in
    let f : suc m + n ≡ suc (m + n) = omega arith in
    ap (λ (j : ℕ). get_or b i 0 ∷ (gets b (i + 1) m ++ gets b j n)) e
    ∙ ap (λ (l : List ℕ). get_or b i 0 ∷ l) (gets_more b (i + 1) m n)
    ∙ ap (gets b i) (sym f)

-- words that stand at a place of others are those of bytes, and give the bytes back
words_bytes : (w b : List ℕ) → Bytes b → (from i n : ℕ) → ((j : ℕ) → j < n → get_or w (from + j) 0 ≡ get_or (numbers_from b i n) j 0) → bytes_from w from n ≡ gets b i (8 * n)
unfolding bytes_from numbers_from gets
words_bytes w b h from i zero same = refl
words_bytes w b h from i (suc n) same =
    let e : 8 + 8 * n ≡ 8 * suc n = omega arith in
    let first : get_or w from 0 ≡ number_at b i 8 = ap (λ (k : ℕ). get_or w k 0) (sym (add-zero from)) ∙ same 0 (omega arith) in
    ap₂ (λ (x : ℕ) (l : List ℕ). little 8 x ++ l) first (words_bytes w b h (from + 1) (i + 8) n (λ j l. next j l))
    ∙ ap (λ (l : List ℕ). l ++ gets b (i + 8) (8 * n)) (little_number b h i 8)
    ∙ gets_more b i 8 (8 * n)
    ∙ ap (gets b i) e
  where
    next : (j : ℕ) → j < n → get_or w (from + 1 + j) 0 ≡ get_or (numbers_from b (i + 8) n) j 0
    next j l = let e : from + 1 + j ≡ from + suc j = omega arith in ap (λ (k : ℕ). get_or w k 0) e ∙ same (suc j) (omega arith)

gets_all : (b x : List ℕ) (i n : ℕ) → length x ≤ n → ((j : ℕ) → j < length x → get_or b (i + j) 0 ≡ get_or x j 0) → take (length x) (gets b i n) ≡ x
unfolding gets
gets_all b [] i n h same = refl
gets_all b (y ∷ x) i zero h same = absurd (omega arith)
gets_all b (y ∷ x) i (suc n) h same =
    let first : get_or b i 0 ≡ y = ap (λ (k : ℕ). get_or b k 0) (sym (add-zero i)) ∙ same 0 (omega arith) in
    ap₂ (λ (z : ℕ) (l : List ℕ). z ∷ l) first (gets_all b x (i + 1) n (omega arith) next)
  where
    next : (j : ℕ) → j < length x → get_or b (i + 1 + j) 0 ≡ get_or x j 0
    next j l = let e : i + 1 + j ≡ i + suc j = omega arith in ap (λ (k : ℕ). get_or b k 0) e ∙ same (suc j) (omega arith)

-- so a place gives back what was laid in it
place_kept : (w b : List ℕ) (from : ℕ) → Bytes b → length b ≤ item_room → ((j : ℕ) → j < place_words → get_or w (from + j) 0 ≡ get_or (words_in b) j 0) → take (length b) (bytes_in w from) ≡ b
unfolding bytes_in words_in
place_kept w b from h l same =
    ap (take (length b)) (words_bytes w b h from 0 place_words same)
    ∙ gets_all b b 0 item_room l (λ j k. ap (λ (i : ℕ). get_or b i 0) (zero-add j))

-- THE PARTS OF A READER'S WORDS
module _ (r : StreamReader) where
  abbrev A : List ℕ
  A = words_in r.kept

  abbrev B : List ℕ
  B = words_in r.file

  abbrev C : List ℕ
  C = length r.kept ∷ length r.file ∷ cond r.stopped 1 0 ∷ replicate 5 0

  abbrev w : List ℕ
  w = A ++ (B ++ C)

  words_are : words_of r ≡ w
  unfolding words_of
  words_are = refl

  in_first : (j : ℕ) → j < place_words → get_or w (0 + j) 0 ≡ get_or A j 0
  in_first j h = ap (λ (i : ℕ). get_or w i 0) (zero-add j) ∙ get_or-append A (B ++ C) 0 j (omega (arith, words_long r.kept))

  behind : (i : ℕ) → get_or w (place_words + i) 0 ≡ get_or (B ++ C) i 0
  behind i = ap (λ (n : ℕ). get_or w (n + i) 0) (sym (words_long r.kept)) ∙ get_or-append-add A (B ++ C) i 0

  in_second : (j : ℕ) → j < place_words → get_or w (place_words + j) 0 ≡ get_or B j 0
  in_second j h = behind j ∙ get_or-append B C 0 j (omega (arith, words_long r.file))

  in_third : (i : ℕ) → get_or w (40 + i) 0 ≡ get_or C i 0
  in_third i =
      let e : 40 + i ≡ place_words + (place_words + i) = omega arith in
      ap (λ (k : ℕ). get_or w k 0) e ∙ behind (place_words + i)
      ∙ ap (λ (n : ℕ). get_or (B ++ C) (n + i) 0) (sym (words_long r.file)) ∙ get_or-append-add B C i 0

  stopped_is : not (eqb (get_or w 42 0) 0) ≡ r.stopped
  stopped_is = ap (λ (n : ℕ). not (eqb n 0)) (in_third 2) ∙ go r.stopped
    where
      go : (t : Bool) → not (eqb (cond t 1 0) 0) ≡ t
      go true = refl
      go false = refl

  module _ (s : Sound r) (hk : Bytes r.kept) (hf : Bytes r.file) where
    short_kept : length r.kept ≤ item_room
    short_kept =
        ⊎_elim (λ (e : length r.kept ≡ 0). omega arith) (λ (l : length r.kept < length_of (get_or r.kept 0 0)). omega (arith, kind_short (get_or r.kept 0 0))) s.parted

    short_file : length r.file ≤ item_room
    short_file =
        ⊎_elim (λ (e : r.file ≡ []). let z : length r.file ≡ 0 = ap length e in omega arith) (λ (e : is_file r.file ≡ true). omega (arith, file_short r.file e)) s.latest

    kept_is : take (get_or w 40 0) (bytes_in w 0) ≡ r.kept
    kept_is = ap (λ (n : ℕ). take n (bytes_in w 0)) (in_third 0) ∙ place_kept w r.kept 0 hk short_kept in_first

    file_is : take (get_or w 41 0) (bytes_in w place_words) ≡ r.file
    file_is = ap (λ (n : ℕ). take n (bytes_in w place_words)) (in_third 1) ∙ place_kept w r.file place_words hf short_file in_second

    part_is : is_part r.kept ≡ true
    unfolding is_part
    part_is = ⊎_elim (λ (e : length r.kept ≡ 0). rw (eq-eqb (length r.kept) 0 e)) (λ (l : length r.kept < length_of (get_or r.kept 0 0)). rw (lt-ltb (length r.kept) (length_of (get_or r.kept 0 0)) l) (either_true (eqb (length r.kept) 0))) s.parted
      where
        either_true : (t : Bool) → (t || true) ≡ true
        either_true true = refl
        either_true false = refl

    latest_is : is_latest r.file ≡ true
    unfolding is_latest
    latest_is = ⊎_elim (λ (e : r.file ≡ []). rw e) (λ (e : is_file r.file ≡ true). rw e (either_true (eqb (length r.file) 0))) s.latest
      where
        either_true : (t : Bool) → (t || true) ≡ true
        either_true true = refl
        either_true false = refl

    told_is : told_by w ≡ r
    unfolding told_by reader_in holds_part holds_file
    told_is =
        rw (eq-eqb (length (bytes_in w 0)) item_room (place_long w 0), eq-eqb (length (bytes_in w place_words)) item_room (place_long w place_words), kept_is, file_is, part_is, latest_is)
        (ap (λ (t : Bool). record { kept = r.kept; file = r.file; stopped = t }) stopped_is)

pub words_are_kept : promised.WordsAreKept
unfolding reader_by
words_are_kept r s hk hf =
    let e : told_by (words_of r) ≡ r = ap told_by (words_are r) ∙ told_is r s hk hf in
    rw (e, same_as_itself (words_of r) reader_words)

no_bytes : Bytes []
no_bytes i = omega arith

pub new_is_fresh : promised.NewIsFresh
new_is_fresh = words_are_kept fresh fresh_is_sound no_bytes no_bytes

pub calls_go_on : promised.CallsGoOn
unfolding handed_to
calls_go_on r c log start s hk hf hc =
    let room = length log - start in
    let b = bytes_stay r c room s.parted hk hf hc in
    words_are_kept (feed r c room).next (calls_take r c room s).1 b.0 b.1

pub other_words_stop : promised.OtherWordsStop
unfolding reader_by
other_words_stop w l = go (same_words (words_of (told_by w)) w reader_words) refl
  where
    go : (t : Bool) → same_words (words_of (told_by w)) w reader_words ≡ t
        → (words_of (cond t (told_by w) (halted [])) ≡ w) ⊎ (cond t (told_by w) (halted []) ≡ halted [])
    go true e =
        inl (same_lists (words_of (told_by w)) w (words_long_lem (told_by w)) l e)
    go false e = inr refl

bit_small : (t : Bool) → cond t 1 0 < 2
bit_small true = omega arith
bit_small false = omega arith

pub call_unpacks : promised.CallUnpacks
call_unpacks a k o n =
    (omega (arith, bit_small a.finished), omega (arith, bit_small a.finished), omega (arith, bit_small a.finished), omega (arith, bit_small a.finished))
