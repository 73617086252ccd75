-- The acceptance sheet as it is printed: a definition of its words.
use Rattle.std.specs.Prelude.{ℕ, zero, suc, ◌+◌, List, [], ◌∷◌, ◌++◌, cond, get_or, eqb}
use Rattle.laws.specs.Lists.{flat}
use Rattle.decimal.specs.Words.{Word, letters, decimal}
use Rattle.totals.specs.Sheets.{logs_word, in_word, out_word, part_word, known_word, banks, sizes, reads_word, writes_word, size_word}
use Rattle.printing.specs.Ascii.{ascii}

-- a number with letters before and after it
unfoldable pub around : List ℕ → ℕ → List ℕ → List Word
around before n after = flat ((letters before ∷ []) ∷ (decimal n ∷ []) ∷ (letters after ∷ []) ∷ [])

-- a line of one number, and of two
abbrev pub line : List ℕ → ℕ → List Word
line before n = around before n (ascii "\n")

unfoldable pub pair_line : List ℕ → ℕ → List ℕ → ℕ → List Word
pair_line before m between n = flat (around before m between ∷ around [] n (ascii "\n") ∷ [])

-- the line of a count: its letter, its number and the count; no line at zero
unfoldable pub count_line : List ℕ → ℕ → ℕ → List Word
count_line letter k n = cond (eqb n 0) [] (pair_line letter k (ascii " ") n)

-- the counts of n numbers from k on; that of number k stands in the word base + k
unfoldable pub count_lines : List ℕ → ℕ → ℕ → ℕ → List ℕ → List Word
count_lines letter base k zero w = []
count_lines letter base k (suc n) w = count_line letter k (get_or w (base + k) 0) ++ count_lines letter base (k + 1) n w

-- all reads, then writes, then memory events, each by rising number: banks from 0 on, sizes from 1 on
unfoldable pub counts_text : List ℕ → List Word
counts_text w =
    flat
    (count_lines (ascii "r") (reads_word 0) 0 banks w
    ∷ count_lines (ascii "w") (writes_word 0) 0 banks w
    ∷ count_lines (ascii "s") (size_word 0) 1 sizes w
    ∷ [])

-- bytes read and written, and part writes over writes at known addresses, not reduced
unfoldable pub end_text : List ℕ → List Word
end_text w =
    flat
    (line (ascii "in ") (get_or w in_word 0)
    ∷ line (ascii "out ") (get_or w out_word 0)
    ∷ pair_line (ascii "part ") (get_or w part_word 0) (ascii "/") (get_or w known_word 0)
    ∷ [])

unfoldable pub sheet_text : List ℕ → List Word
sheet_text w = flat (line (ascii "logs ") (get_or w logs_word 0) ∷ counts_text w ∷ end_text w ∷ [])

-- a refusal prints its number and nothing else
unfoldable pub report_text : ℕ → List ℕ → List Word
report_text number w = cond (eqb number 0) (sheet_text w) (line (ascii "refused ") number)
