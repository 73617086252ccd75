-- The request's traps as rows: calls on a fresh reader one after the other, each a chunk and its room, and what each answers: number,
-- finished, taken, n, opcode.
use Rattle.std.specs.Prelude.{ℕ, ◌-◌, List, [], ◌∷◌, ◌++◌, cond, take, drop, set}
use Rattle.definition.specs.Limits.{most_bytes}
use Rattle.promises.specs.Rows.{record_with, segment, everyday, file_knowing, knows, based, opcode, count, behavior}
use Rattle.promises.specs.Bench.{P2, P2_file}
use Rattle.streams.specs.Streams.{StreamReader, Outcome, feed, close}

pub data Ask : Type 0 where
  chunk : List ℕ → ℕ → Ask
  closing : Ask

abbrev pub Row : Type 0
Row = ℕ × ℕ × ℕ × ℕ × ℕ

abbrev pub row_of : Outcome → Row
row_of o = (o.call.number, cond o.call.finished 1 0, o.call.taken, o.call.n, o.call.opcode)

unfoldable pub rows : StreamReader → List Ask → List Row
rows r [] = []
rows r (chunk c room ∷ qs) = row_of (feed r c room) ∷ rows (feed r c room).next qs
rows r (closing ∷ qs) = ((close r).0, 0, 0, 0, 0) ∷ rows (close r).1 qs

abbrev pub enough : ℕ
enough = most_bytes

-- one byte less
abbrev pub scant : ℕ
scant = most_bytes - 1

abbrev pub p2 : List ℕ
p2 = record_with P2

abbrev pub good : List ℕ
good = file_knowing P2_file

-- a known bit that a file has not
abbrev pub bad : List ℕ
bad = set good 3 2

abbrev pub complex : List ℕ
complex = record_with (opcode 0x1234 ∷ behavior 0x20 ∷ [])

abbrev pub wrong : List ℕ
wrong = record_with (count 5 ∷ [])

-- P2 under fs; P2 without its digest, which is ADD's; and an opcode that has none
abbrev pub p2_fs : List ℕ
p2_fs = record_with (P2 ++ (segment 1 ∷ []))

abbrev pub add : List ℕ
add = record_with (P2 ++ (opcode 103 ∷ everyday ∷ []))

abbrev pub undigested : List ℕ
undigested = record_with (everyday ∷ [])

-- P2's file with the base of fs; and with a known bit that it has not
abbrev pub good_fs : List ℕ
good_fs = file_knowing (P2_file ++ (based ∷ knows 17 0x70000 ∷ []))

abbrev pub bad_fs : List ℕ
bad_fs = set good_fs 3 8

abbrev pub unknown : List ℕ
unknown = 0xFF ∷ []

unfoldable pub traps : List (List Ask × List Row)
traps =
    -- a good file does not end the call
    (chunk (good ++ (good ++ (p2 ++ p2))) enough ∷ chunk p2 enough ∷ [], (0, 1, 322, 32, 0) ∷ (0, 1, 40, 32, 0) ∷ [])
    -- the early 7 comes before an unknown kind, and does not stop the reader; of an empty chunk too
    ∷ (
      chunk unknown 0 ∷ chunk [] 0 ∷ chunk unknown enough ∷ chunk p2 0 ∷ closing ∷ chunk [] enough ∷ [],
      (7, 0, 0, most_bytes, 0) ∷ (7, 0, 0, most_bytes, 0) ∷ (1, 0, 0, 0, 0) ∷ (1, 0, 0, 0, 0) ∷ (1, 0, 0, 0, 0) ∷ (0, 0, 0, 0, 0) ∷ [],
    )
    -- no file: 3 in the table's order
    ∷ (
      chunk p2 enough ∷ chunk complex enough ∷ chunk wrong enough ∷ [],
      (3, 1, 40, 0, 0) ∷ (3, 1, 40, 0, 0) ∷ (2, 1, 40, 0, 0) ∷ [],
    )
    ∷ (
      chunk p2_fs enough ∷ chunk add enough ∷ chunk undigested enough ∷ [],
      (3, 1, 41, 0, 0) ∷ (3, 1, 36, 0, 0) ∷ (9, 1, 36, 0, 0) ∷ [],
    )
    -- every kind, each by its own length
    ∷ (
      chunk (good_fs ++ (p2_fs ++ add)) enough ∷ chunk (add ++ p2) enough ∷ chunk p2 enough ∷ chunk undigested enough ∷ [],
      (0, 1, 198, 38, 0) ∷ (0, 1, 36, 32, 0) ∷ (0, 1, 40, 32, 0) ∷ (9, 1, 36, 0, 0) ∷ [],
    )
    -- one kind of file takes the other's place: its base of fs is gone, so the two addresses are unknown
    ∷ (chunk (good_fs ++ (good ++ p2_fs)) enough ∷ [], (0, 1, 339, 22, 0) ∷ [])
    ∷ (chunk (good ++ (good_fs ++ p2_fs)) enough ∷ [], (0, 1, 339, 38, 0) ∷ [])
    -- a bad file leaves the earlier one
    ∷ (
      chunk (good ++ bad) enough ∷ chunk p2 enough ∷ chunk complex enough ∷ [],
      (3, 1, 282, 0, 0) ∷ (0, 1, 40, 32, 0) ∷ (4, 1, 40, 0, 0x1234) ∷ [],
    )
    ∷ (
      chunk (good_fs ++ (bad_fs ++ p2_fs)) enough ∷ chunk p2_fs enough ∷ [],
      (3, 1, 314, 0, 0) ∷ (0, 1, 41, 38, 0) ∷ [],
    )
    -- an empty log is one
    ∷ (chunk (good ++ (record_with [] ++ p2)) enough ∷ [], (0, 1, 181, 0, 0) ∷ [])
    -- the byte of an unknown kind is not taken
    ∷ (chunk (good ++ (p2 ++ unknown)) enough ∷ chunk unknown enough ∷ [], (0, 1, 181, 32, 0) ∷ (1, 0, 0, 0, 0) ∷ [])
    ∷ (chunk (good ++ unknown) enough ∷ [], (1, 0, 141, 0, 0) ∷ [])
    -- the kept bytes stay on 7
    ∷ (
      chunk (good ++ take 20 p2) enough ∷ chunk (drop 20 p2) scant ∷ chunk (drop 20 p2) enough ∷ [],
      (0, 0, 161, 0, 0) ∷ (7, 0, 0, most_bytes, 0) ∷ (0, 1, 20, 32, 0) ∷ [],
    )
    -- closing leaves no file, though there was one
    ∷ (
      chunk (good ++ take 20 p2) enough ∷ closing ∷ chunk p2 enough ∷ [],
      (0, 0, 161, 0, 0) ∷ (8, 0, 0, 0, 0) ∷ (3, 1, 40, 0, 0) ∷ [],
    )
    ∷ (
      chunk (take 140 good) enough ∷ closing ∷ chunk p2 enough ∷ [],
      (0, 0, 140, 0, 0) ∷ (8, 0, 0, 0, 0) ∷ (3, 1, 40, 0, 0) ∷ [],
    )
    ∷ (chunk (take 156 good_fs) enough ∷ closing ∷ [], (0, 0, 156, 0, 0) ∷ (8, 0, 0, 0, 0) ∷ [])
    ∷ (
      chunk (good_fs ++ take 40 p2_fs) enough ∷ chunk (drop 40 p2_fs) scant ∷ chunk (drop 40 p2_fs) enough ∷ [],
      (0, 0, 197, 0, 0) ∷ (7, 0, 0, most_bytes, 0) ∷ (0, 1, 1, 38, 0) ∷ [],
    )
    -- closing between two items
    ∷ (chunk (good ++ p2) enough ∷ closing ∷ [], (0, 1, 181, 32, 0) ∷ (0, 0, 0, 0, 0) ∷ [])
    ∷ []
