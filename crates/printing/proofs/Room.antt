-- How many bytes a report takes, at most. Assumes nothing.
use Prim.Native.Nat.{ℕ, zero, suc, ◌+◌, ◌*◌, ◌≤◌}
use native.Mathlib.Omega.{arith}
use mathlib.Core.List.{List, [], ◌∷◌}
use lib.ListN.{length, get_or}
use lib.Dec.{eqb}
use Rattle.laws.specs.Lists.{each}
use Rattle.laws.specs.Lending.{size}
use Rattle.std.proofs.lemmas.Bool.{cond_both}
use Rattle.laws.proofs.Lending.{size_append, sizes, size_flat}
use Rattle.decimal.specs.Words.{Word, letters, decimal, word_bytes}
use Rattle.decimal.proofs.Sizes.{letters_size, decimal_size}
use Rattle.totals.specs.Sheets.{logs_word, in_word, out_word, part_word, known_word, banks, reads_word, writes_word, size_word}
use Rattle.totals.specs.Sheets as sheet
use Rattle.printing.specs.Ascii.{ascii}
use Rattle.printing.specs.Texts.{around, line, pair_line, count_line, count_lines, counts_text, end_text, sheet_text, report_text}

abbrev bytes : List Word → ℕ
bytes ws = size word_bytes ws

around_most : (before : List ℕ) (n : ℕ) (after : List ℕ) → bytes (around before n after) ≤ length before + (20 + length after)
unfolding around sizes
around_most before n after =
    omega (arith, size_flat word_bytes ((letters before ∷ []) ∷ (decimal n ∷ []) ∷ (letters after ∷ []) ∷ []), letters_size before, decimal_size n, letters_size after)

pair_most : (before : List ℕ) (m : ℕ) (between : List ℕ) (n : ℕ) → bytes (pair_line before m between n) ≤ length before + (41 + length between)
unfolding pair_line sizes ascii
pair_most before m between n =
    omega (arith, size_flat word_bytes (around before m between ∷ around [] n (10 ∷ []) ∷ []), around_most before m between, around_most [] n (10 ∷ []))

none : bytes [] ≤ 0
unfolding size each
none = omega arith

count_most : (letter : List ℕ) (k n : ℕ) → bytes (count_line letter k n) ≤ length letter + 42
unfolding count_line ascii
count_most letter k n =
    cond_both (eqb n 0) [] (pair_line letter k (32 ∷ []) n) (λ (ws : List Word). bytes ws ≤ length letter + 42)
    (λ e. omega (arith, none)) (λ e. pair_most letter k (32 ∷ []) n)

counts_most : (letter : List ℕ) (base k n : ℕ) (w : List ℕ) → bytes (count_lines letter base k n w) ≤ n * (length letter + 42)
unfolding count_lines
counts_most letter base k zero w = omega (arith, none)
counts_most letter base k (suc n) w =
    omega (arith, size_append word_bytes (count_line letter k (get_or w (base + k) 0)) (count_lines letter base (k + 1) n w), count_most letter k (get_or w (base + k) 0), counts_most letter base (k + 1) n w)

all_counts_most : (w : List ℕ) → bytes (counts_text w) ≤ 3956
unfolding counts_text sizes ascii
all_counts_most w =
    let a = count_lines (114 ∷ []) (reads_word 0) 0 banks w in
    let b = count_lines (119 ∷ []) (writes_word 0) 0 banks w in
    let c = count_lines (115 ∷ []) (size_word 0) 1 sheet.sizes w in
    omega (arith, size_flat word_bytes (a ∷ b ∷ c ∷ []), counts_most (114 ∷ []) (reads_word 0) 0 banks w, counts_most (119 ∷ []) (writes_word 0) 0 banks w, counts_most (115 ∷ []) (size_word 0) 1 sheet.sizes w)

line_most : (before : List ℕ) (n : ℕ) → bytes (line before n) ≤ length before + 21
unfolding ascii
line_most before n = around_most before n (10 ∷ [])

end_most : (w : List ℕ) → bytes (end_text w) ≤ 96
unfolding end_text sizes ascii
end_most w =
    omega (
      arith,
      size_flat word_bytes (line (ascii "in ") (get_or w in_word 0) ∷ line (ascii "out ") (get_or w out_word 0) ∷ pair_line (ascii "part ") (get_or w part_word 0) (ascii "/") (get_or w known_word 0) ∷ []),
      line_most (ascii "in ") (get_or w in_word 0),
      line_most (ascii "out ") (get_or w out_word 0),
      pair_most (ascii "part ") (get_or w part_word 0) (ascii "/") (get_or w known_word 0),
    )

sheet_most : (w : List ℕ) → bytes (sheet_text w) ≤ 4096
unfolding sheet_text sizes ascii
sheet_most w =
    omega (arith, size_flat word_bytes (line (ascii "logs ") (get_or w logs_word 0) ∷ counts_text w ∷ end_text w ∷ []), line_most (ascii "logs ") (get_or w logs_word 0), all_counts_most w, end_most w)

-- a report fits into 4,096 bytes
pub report_most : (number : ℕ) (w : List ℕ) → bytes (report_text number w) ≤ 4096
unfolding report_text ascii
report_most number w =
    cond_both (eqb number 0) (sheet_text w) (line (ascii "refused ") number) (λ (ws : List Word). bytes ws ≤ 4096)
    (λ e. sheet_most w) (λ e. omega (arith, line_most (ascii "refused ") number))
