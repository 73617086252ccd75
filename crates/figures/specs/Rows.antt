-- Sheets with the answers to their logs and the words that are not 0, each with its place.
use Rattle.std.specs.Prelude.{ℕ, ◌+◌, ◌-◌, ◌^◌, List, [], ◌∷◌, ◌++◌, cond, set, eqb}
use Rattle.promises.specs.Bench.{P2_log}
use Rattle.watching.specs.Verdicts.{variable}
use Rattle.totals.specs.Sheets.{address_word, length_word, logs_word, in_word, out_word, part_word, known_word, reads_word, writes_word, size_word, most_logs, add_of, fresh, sheet_from}

-- the number that each log is answered with
unfoldable pub numbers_from : List ℕ → List (List ℕ) → List ℕ
numbers_from w [] = []
numbers_from w (l ∷ ls) = (add_of w l).0 ∷ numbers_from (add_of w l).1 ls

-- the words that are not 0, from a place on
unfoldable pub shown_from : ℕ → List ℕ → List (ℕ × ℕ)
shown_from i [] = []
shown_from i (n ∷ w) = cond (eqb n 0) [] ((i, n) ∷ []) ++ shown_from (i + 1) w

abbrev pub row_of : List ℕ × List (List ℕ) → List ℕ × List (ℕ × ℕ)
row_of q = (numbers_from q.0 q.1, shown_from 0 (sheet_from q.0 q.1))

-- the watch of every row: 8 bytes at 0x1008
unfoldable pub new : List ℕ
new = fresh (variable 0x1008 8)

-- memory events: n bytes at 0x1000 + a
abbrev pub load : ℕ → ℕ → List ℕ
load a n = 3 ∷ a ∷ 0x10 ∷ 0 ∷ 0 ∷ 0 ∷ 0 ∷ 0 ∷ 0 ∷ n ∷ []

abbrev pub store : ℕ → ℕ → List ℕ
store a n = 4 ∷ a ∷ 0x10 ∷ 0 ∷ 0 ∷ 0 ∷ 0 ∷ 0 ∷ 0 ∷ n ∷ []

-- what every row shows: the watch, and the rest
abbrev pub shows : List (ℕ × ℕ) → List (ℕ × ℕ)
shows ps = (address_word, 0x1008) ∷ (length_word, 8) ∷ ps

unfoldable pub rows : List ((List ℕ × List (List ℕ)) × (List ℕ × List (ℕ × ℕ)))
rows =
    -- no logs; a log of no events
    ((new, []), ([], shows []))
    ∷ ((new, [] ∷ []), (0 ∷ [], shows ((logs_word, 1) ∷ [])))
    -- document 02's example
    ∷ (
      (new, P2_log ∷ []),
      (0 ∷ [], shows ((logs_word, 1) ∷ (in_word, 8) ∷ (out_word, 8) ∷ (known_word, 1) ∷ (reads_word 0, 3) ∷ (writes_word 11, 1) ∷ (size_word 8, 2) ∷ [])),
    )
    -- reads are not writes: the last bank of both
    ∷ ((new, (1 ∷ 12 ∷ 5 ∷ []) ∷ (1 ∷ 12 ∷ 5 ∷ 2 ∷ 12 ∷ 5 ∷ []) ∷ []), (0 ∷ 0 ∷ [], shows ((logs_word, 2) ∷ (reads_word 12, 2) ∷ (writes_word 12, 1) ∷ [])))
    -- unknown addresses: their bytes and sizes count, and an unknown write is no write at a known address
    ∷ ((new, (5 ∷ 64 ∷ 6 ∷ 1 ∷ []) ∷ []), (0 ∷ [], shows ((logs_word, 1) ∷ (in_word, 64) ∷ (out_word, 1) ∷ (size_word 1, 1) ∷ (size_word 64, 1) ∷ [])))
    -- writes of the low half, of the high half, of the whole and beside it: two of four are part writes
    ∷ (
      (new, (store 8 4 ++ store 12 4) ∷ (store 8 8 ++ store 16 4) ∷ []),
      (0 ∷ 0 ∷ [], shows ((logs_word, 2) ∷ (out_word, 20) ∷ (part_word, 2) ∷ (known_word, 4) ∷ (size_word 4, 3) ∷ (size_word 8, 1) ∷ [])),
    )
    -- a read of part of it is no part write
    ∷ ((new, load 8 4 ∷ []), (0 ∷ [], shows ((logs_word, 1) ∷ (in_word, 4) ∷ (size_word 4, 1) ∷ [])))
    -- refused logs add nothing and do not count, whatever stands in front of the place: an unknown kind, a size of 0, an event cut short
    ∷ ((new, (store 8 8 ++ (7 ∷ [])) ∷ (5 ∷ 8 ∷ []) ∷ (5 ∷ 8 ∷ 5 ∷ 0 ∷ []) ∷ (5 ∷ []) ∷ []), (1 ∷ 0 ∷ 2 ∷ 1 ∷ [], shows ((logs_word, 1) ∷ (in_word, 8) ∷ (size_word 8, 1) ∷ [])))
    -- the last log within the limit, and the next: 10 for a log that reads, and for one whose own number is 1 or 2
    ∷ ((set new logs_word (most_logs - 1), [] ∷ [] ∷ (7 ∷ []) ∷ (5 ∷ 0 ∷ []) ∷ []), (0 ∷ 10 ∷ 10 ∷ 10 ∷ [], shows ((logs_word, most_logs) ∷ [])))
    -- any words: the watched length is tested before the log, and sums are modulo two to the 64
    ∷ ((set new length_word 9, (7 ∷ []) ∷ []), (2 ∷ [], (address_word, 0x1008) ∷ (length_word, 9) ∷ []))
    ∷ ((set new length_word 0, [] ∷ []), (2 ∷ [], (address_word, 0x1008) ∷ []))
    ∷ ((set new in_word (2 ^ 64 - 1), (5 ∷ 8 ∷ []) ∷ []), (0 ∷ [], shows ((logs_word, 1) ∷ (in_word, 7) ∷ (size_word 8, 1) ∷ [])))
    ∷ []
