-- Bytes in words, and words in bytes. Assumes nothing.
use Prim.Native.Nat.{ℕ, zero, suc, ◌+◌, ◌-◌, ◌*◌, ◌≤◌, ◌<◌}
use native.Mathlib.Nat.{add-zero}
use native.Mathlib.Numerals.{add-one}
use native.Mathlib.Omega.{arith}
use mathlib.Core.Path.{◌≡◌, refl, sym, ap, ◌∙◌}
use mathlib.Core.List.{List, [], ◌∷◌, ◌++◌, append-nil, append_assoc}
use lib.ListN.{length, get_or, drop, set, replicate, length-append, drop_of_length-le}
use lib.Seq.{sets, get_or-drop}
use Rattle.laws.specs.Words.{number_at, little}
use Rattle.laws.proofs.Lending.{part, back, laid}
use Rattle.laws.proofs.Numbers.{little_length}
use Rattle.registers.specs.Files.{numbers_from}
use Rattle.reader_words.specs.Words.{place_words, bytes_from, bytes_in, words_in}

-- WORDS FROM BYTES. The words that are still to be stored, from word i of the place on
abbrev pub to_come : List ℕ → ℕ → List ℕ
to_come b i = numbers_from b (8 * i) (place_words - i)

pub one_stored : (w b : List ℕ) (from i : ℕ) → i < place_words
    → sets (set w (from + i) (number_at b (8 * i) 8)) (from + (i + 1)) (to_come b (i + 1)) ≡ sets w (from + i) (to_come b i)
unfolding numbers_from
one_stored w b from i h =
    let e : place_words - i ≡ suc (place_words - (i + 1)) = omega arith in
    let p : from + (i + 1) ≡ suc (from + i) = omega arith in
    let q : 8 * (i + 1) ≡ 8 * i + 8 = omega arith in
    ap (λ (k : ℕ). sets (set w (from + i) (number_at b (8 * i) 8)) k (to_come b (i + 1))) p
    ∙ ap (λ (k : ℕ). sets (set w (from + i) (number_at b (8 * i) 8)) (suc (from + i)) (numbers_from b k (place_words - (i + 1)))) q
    ∙ sym (ap (λ (k : ℕ). sets w (from + i) (numbers_from b (8 * i) k)) e)

pub none_stored : (w b : List ℕ) (from : ℕ) → sets w (from + 0) (to_come b 0) ≡ sets w from (words_in b)
unfolding words_in
none_stored w b from = ap (λ (k : ℕ). sets w k (numbers_from b 0 place_words)) (add-zero from)

numbers_long : (b : List ℕ) (i n : ℕ) → length (numbers_from b i n) ≡ n
unfolding numbers_from
numbers_long b i zero = refl
numbers_long b i (suc n) = ap suc (numbers_long b (i + 8) n)

pub words_long : (b : List ℕ) → length (words_in b) ≡ place_words
unfolding words_in
words_long b = numbers_long b 0 place_words

pub all_stored : (w old b : List ℕ) (from i : ℕ) → place_words ≤ i → sets w (from + i) (to_come b i) ≡ sets old from (words_in b) → w ≡ sets old from (words_in b)
unfolding numbers_from
all_stored w old b from i h e =
    let z : place_words - i ≡ 0 = omega arith in
    sym (ap (λ (k : ℕ). sets w (from + i) (numbers_from b (8 * i) k)) z) ∙ e

-- zeros behind bytes are no other words
zeros_behind : (x z : List ℕ) → ((j : ℕ) → get_or z j 0 ≡ 0) → (i : ℕ) → get_or (x ++ z) i 0 ≡ get_or x i 0
zeros_behind [] z h i = h i
zeros_behind (b ∷ x) z h zero = refl
zeros_behind (b ∷ x) z h (suc i) = zeros_behind x z h i

same_number : (a b : List ℕ) → ((i : ℕ) → get_or a i 0 ≡ get_or b i 0) → (i n : ℕ) → number_at a i n ≡ number_at b i n
unfolding number_at
same_number a b h i zero = refl
same_number a b h i (suc n) = rw (h i, same_number a b h (i + 1) n)

same_numbers : (a b : List ℕ) → ((i : ℕ) → get_or a i 0 ≡ get_or b i 0) → (i n : ℕ) → numbers_from a i n ≡ numbers_from b i n
unfolding numbers_from
same_numbers a b h i zero = refl
same_numbers a b h i (suc n) = rw (same_number a b h i 8, same_numbers a b h (i + 8) n)

zero_at : (n i : ℕ) → ◌≡◌ {A = ℕ} (get_or (replicate n 0) i 0) 0
zero_at zero i = refl
zero_at (suc n) zero = refl
zero_at (suc n) (suc i) = zero_at n i

pub padded : (n : ℕ) (x : List ℕ) → words_in (x ++ drop (length x) (replicate n 0)) ≡ words_in x
unfolding words_in
padded n x =
    same_numbers (x ++ drop (length x) (replicate n 0)) x
    (zeros_behind x (drop (length x) (replicate n 0)) (λ j. get_or-drop (length x) (replicate n 0) j 0 ∙ zero_at n (length x + j)))
    0 place_words

-- BYTES FROM WORDS
pub bytes_long : (w : List ℕ) (i n : ℕ) → length (bytes_from w i n) ≡ 8 * n
unfolding bytes_from
bytes_long w i zero = refl
bytes_long w i (suc n) = length-append (little 8 (get_or w i 0)) (bytes_from w (i + 1) n) ∙ omega (arith, little_length 8 (get_or w i 0), bytes_long w (i + 1) n)

-- one word more
bytes_more : (w : List ℕ) (i n : ℕ) → bytes_from w i (suc n) ≡ bytes_from w i n ++ little 8 (get_or w (i + n) 0)
unfolding bytes_from
bytes_more w i zero = append-nil (little 8 (get_or w i 0)) ∙ ap (λ (k : ℕ). little 8 (get_or w k 0)) (sym (add-zero i))
bytes_more w i (suc n) =
    let e : i + 1 + n ≡ i + suc n = omega arith in
    ap (λ (x : List ℕ). little 8 (get_or w i 0) ++ x) (bytes_more w (i + 1) n)
    ∙ sym (append_assoc (little 8 (get_or w i 0)) (bytes_from w (i + 1) n) (little 8 (get_or w (i + 1 + n) 0)))
    ∙ ap (λ (k : ℕ). little 8 (get_or w i 0) ++ bytes_from w (i + 1) n ++ little 8 (get_or w k 0)) e

-- the bytes of the first i words, laid over the place
abbrev pub Laid : List ℕ → ℕ → List ℕ → List ℕ → ℕ → Type 0
Laid w from old out i = out ≡ bytes_from w from i ++ drop (8 * i) old

pub none_laid : (w : List ℕ) (from : ℕ) (old : List ℕ) → Laid w from old old 0
unfolding bytes_from
none_laid w from old = refl

pub one_laid : (w : List ℕ) (from : ℕ) (old out new : List ℕ) (i : ℕ)
    → Laid w from old out i → new ≡ little 8 (get_or w (from + i) 0) ++ drop 8 (part out (8 * i)) → Laid w from old (back out (8 * i) new) (i + 1)
one_laid w from old out new i l e =
    let q : 8 * i + 8 ≡ 8 * (i + 1) = omega arith in
    laid (bytes_from w from i) (little 8 (get_or w (from + i) 0)) old 8 (bytes_long w from i) l e
    ∙ ap (λ (x : List ℕ). x ++ drop (8 * i + 8) old) (sym (ap (bytes_from w from) (add-one i) ∙ bytes_more w from i))
    ∙ ap (λ (k : ℕ). bytes_from w from (i + 1) ++ drop k old) q

pub all_laid : (w : List ℕ) (from : ℕ) (old out : List ℕ) (i : ℕ) → i ≡ place_words → length old ≤ 8 * place_words → Laid w from old out i → out ≡ bytes_in w from
unfolding bytes_in
all_laid w from old out i e h l =
    l
    ∙ ap (λ (k : ℕ). bytes_from w from k ++ drop (8 * k) old) e
    ∙ ap (λ (x : List ℕ). bytes_from w from place_words ++ x) (drop_of_length-le old h)
    ∙ append-nil (bytes_from w from place_words)

pub ruleset storing = (none_stored, one_stored)

pub ruleset laying = (none_laid, one_laid)
