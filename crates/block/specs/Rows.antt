-- Rows of a block: records of a length under a file, over so many bytes of log from a start on, and so many bytes of answers, all 0xEE. What
-- the call answers, and both buffers.
use Rattle.std.specs.Prelude.{ℕ, List, [], ◌∷◌, ◌++◌, set, replicate, Result, Ok, Err}
use Rattle.laws.specs.Lists.{flat}
use Rattle.laws.specs.declared.refusals.Refusal.{Refusal}
use Rattle.laws.specs.declared.refusals.Refusal.TheVariants.{Malformed, Outside, BadFile, NoRoom}
use Rattle.promises.specs.Bench.{P2, P2_file, P2_log}
use Rattle.promises.specs.Rows.{Patch, record_with, file_knowing, put, opcode, count, specs, behavior, size, RegRRR, Disp, buffer, segment, everyday}
use Rattle.block.specs.declared.blocks.Blocked.{Blocked}
use Rattle.block.specs.Blocks.{block_call}

pub record Asked : Type 0 where
  pub each : ℕ
  pub records : List ℕ
  pub file : List Patch
  pub room : ℕ
  pub start : ℕ
  pub answers : ℕ

abbrev pub block : ℕ → List (List ℕ) → List Patch → ℕ → ℕ → ℕ → Asked
block e rs f n s a = record { each = e; records = flat rs; file = f; room = n; start = s; answers = a }

abbrev pub Row : Type 0
Row = Result Blocked Refusal × (List ℕ × List ℕ)

abbrev pub said : ℕ → ℕ → List ℕ → List ℕ → Row
said count written log answers = (Ok (record { count = count; written = written }), (log, answers))

abbrev pub refused : Refusal → List ℕ → List ℕ → Row
refused r log answers = (Err r, (log, answers))

abbrev pub row_of : Asked → Row
row_of q = block_call q.each q.records (file_knowing q.file) (buffer q.room) q.start (buffer q.answers)

-- one register read: 3 bytes of log
abbrev pub ONE : List ℕ
ONE = record_with (specs (RegRRR ∷ []) ∷ [])

abbrev pub ONE_log : List ℕ
ONE_log = 1 ∷ 0 ∷ 0 ∷ []

abbrev pub TWO : List ℕ
TWO = record_with P2

-- refused 2, 4, 5 and 6
abbrev pub outside : List ℕ
outside = record_with (count 5 ∷ [])

abbrev pub complex : List ℕ
complex = record_with (opcode 0x1234 ∷ behavior 0x20 ∷ [])

abbrev pub nameless : List ℕ
nameless = record_with (specs (0 ∷ []) ∷ [])

abbrev pub sizeless : List ℕ
sizeless = record_with (specs (Disp ∷ []) ∷ size 0 ∷ [])

abbrev pub bad_file : List Patch
bad_file = put 4 (0x80 ∷ []) ∷ []

-- one register operand, of this opcode and without a digest; what NOT logs of it
abbrev not_rax : ℕ → List ℕ
not_rax o = record_with (opcode o ∷ specs (1 ∷ []) ∷ everyday ∷ [])

abbrev NOT_log : List ℕ
NOT_log = 1 ∷ 0 ∷ 0 ∷ 2 ∷ 0 ∷ 0 ∷ []

unfoldable pub rows : List (Asked × Row)
rows =
    -- the first 7 ends the call: it is answered with the bytes that it needs, and not counted; what is behind stays
    (block 40 (ONE ∷ TWO ∷ ONE ∷ []) P2_file 10 0 12, said 1 3 (ONE_log ++ buffer 7) (0 ∷ 3 ∷ 0 ∷ 0 ∷ 7 ∷ 32 ∷ 0 ∷ 0 ∷ buffer 4))
    -- one log behind the other, from the start on
    ∷ (
      block 40 (ONE ∷ TWO ∷ ONE ∷ []) P2_file 41 2 13,
      said 3 38 (buffer 2 ++ (ONE_log ++ (P2_log ++ (ONE_log ++ buffer 1)))) (0 ∷ 3 ∷ 0 ∷ 0 ∷ 0 ∷ 32 ∷ 0 ∷ 0 ∷ 0 ∷ 3 ∷ 0 ∷ 0 ∷ buffer 1),
    )
    -- a record that is refused writes no log and the next goes on, without a gap; the opcode is little-endian
    ∷ (
      block 40 (ONE ∷ complex ∷ outside ∷ nameless ∷ sizeless ∷ ONE ∷ []) [] 7 0 24,
      said 6 6 (ONE_log ++ (ONE_log ++ buffer 1))
          (0 ∷ 3 ∷ 0 ∷ 0 ∷ 4 ∷ 0 ∷ 0x34 ∷ 0x12 ∷ 2 ∷ 0 ∷ 0 ∷ 0 ∷ 5 ∷ 0 ∷ 0 ∷ 0 ∷ 6 ∷ 0 ∷ 0 ∷ 0 ∷ 0 ∷ 3 ∷ 0 ∷ 0 ∷ []),
    )
    -- a record of another kind than its length says is that record's own 1
    ∷ (block 40 (set ONE 0 0x11 ∷ ONE ∷ []) [] 3 0 8, said 2 3 ONE_log (1 ∷ 0 ∷ 0 ∷ 0 ∷ 0 ∷ 3 ∷ 0 ∷ 0 ∷ []))
    -- records that name a segment: 41 bytes each, and of another kind than that their own 1
    ∷ (
      block 41 (record_with (specs (18 ∷ []) ∷ segment 1 ∷ []) ∷ set (record_with (segment 1 ∷ [])) 0 0x10 ∷ []) [] 8 0 8,
      said 2 8 (1 ∷ 13 ∷ 0 ∷ 1 ∷ 0 ∷ 0 ∷ 5 ∷ 8 ∷ []) (0 ∷ 8 ∷ 0 ∷ 0 ∷ 1 ∷ 0 ∷ 0 ∷ 0 ∷ []),
    )
    -- records without a digest: 36 bytes each, NOT of a register and then an opcode that has none, whose 9 goes on like 2
    ∷ (
      block 36 (not_rax 115 ∷ not_rax 119 ∷ not_rax 115 ∷ []) [] 12 0 12,
      said 3 12 (NOT_log ++ NOT_log) (0 ∷ 6 ∷ 0 ∷ 0 ∷ 9 ∷ 0 ∷ 0 ∷ 0 ∷ 0 ∷ 6 ∷ 0 ∷ 0 ∷ []),
    )
    -- a start past the end: a refused record goes on, and the first accepted one gets 7, even with an empty log
    ∷ (
      block 40 (outside ∷ record_with [] ∷ ONE ∷ []) [] 3 4 12,
      said 1 0 (buffer 3) (2 ∷ 0 ∷ 0 ∷ 0 ∷ 7 ∷ 0 ∷ 0 ∷ 0 ∷ buffer 4),
    )
    -- at the end an empty log has room
    ∷ (block 40 (record_with [] ∷ []) [] 3 3 4, said 1 0 (buffer 3) (0 ∷ 0 ∷ 0 ∷ 0 ∷ []))
    -- no records
    ∷ (block 40 [] [] 3 9 0, said 0 0 (buffer 3) [])
    -- the whole call: 1 for the length of a record, of no bytes too, and for a part of a record; 2 for more than 1,000 records; 3 for a
    -- bad file; 7 for the answers' room; each before the next
    ∷ (block 39 [] bad_file 3 0 0, refused Malformed (buffer 3) [])
    ∷ (block 42 [] bad_file 3 0 0, refused Malformed (buffer 3) [])
    ∷ (block 0 [] bad_file 3 0 0, refused Malformed (buffer 3) [])
    ∷ (block 40 (replicate 40041 0 ∷ []) bad_file 3 0 0, refused Malformed (buffer 3) [])
    ∷ (block 40 (replicate 40040 0 ∷ []) bad_file 3 0 0, refused Outside (buffer 3) [])
    ∷ (block 40 (replicate 40000 0 ∷ []) bad_file 3 0 0, refused BadFile (buffer 3) [])
    ∷ (block 40 [] bad_file 3 0 0, refused BadFile (buffer 3) [])
    ∷ (block 40 (ONE ∷ ONE ∷ []) [] 6 0 7, refused (NoRoom 0) (buffer 6) (buffer 7))
    ∷ []
