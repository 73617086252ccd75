-- A block of records under one register file: their logs behind one another in one buffer, and four bytes of answer for each in another.
use Rattle.std.specs.Prelude.{ℕ, suc, ◌+◌, ◌-◌, ◌*◌, ◌/◌, List, [], ◌∷◌, Bool, not, cond, length, ltb, eqb, Result, Ok, Err}
use Rattle.laws.specs.Words.{little}
use Rattle.laws.specs.Tests.{first_of}
use Rattle.laws.specs.Lists as lists
use Rattle.laws.specs.Lending.{splice}
use Rattle.laws.specs.Refusals.{refusal_named}
use Rattle.laws.specs.declared.refusals.Refusal.{Refusal}
use Rattle.registers.specs.Files.{file_of, is_file}
use Rattle.registers.specs.declared.RegisterFile.{RegisterFile}
use Rattle.records.specs.Lists.{list_refusal, records_in}
use Rattle.definition.specs.Visits.{visit_under, number_of, opcode_of, count_of}
use Rattle.definition.specs.declared.Answer.{Answer}
use Rattle.definition.specs.declared.Answer.TheVariants.{Done, Refused, Complex, Short}
use Rattle.block.specs.declared.blocks.Blocked.{Blocked}

-- a visit that is refused 7, and the bytes of log that a visit wrote
abbrev pub is_seven : Answer → Bool
is_seven a = eqb (number_of a) 7

abbrev pub logged_by : Answer → ℕ
logged_by (Done n) = n
logged_by (Refused k) = 0
logged_by (Complex o) = 0
logged_by (Short n) = 0

-- what a block leaves: an answer for each record up to and with the first 7, how many records stand before it, the log buffer, and the
-- place behind the last log
pub record Block : Type 0 where
  pub answers : List Answer
  pub count : ℕ
  pub buffer : List ℕ
  pub place : ℕ

-- THE FOLD of the single visit over the records, from a place on: the first 7 ends it
unfoldable pub block_from : RegisterFile → List (List ℕ) → List ℕ → ℕ → Block
block_from f [] p s = record { answers = []; count = 0; buffer = p; place = s }
block_from f (b ∷ bs) p s =
    let o = visit_under b f p s in
    let r = block_from f bs o.1 (s + logged_by o.0) in
    cond (is_seven o.0)
    (record { answers = o.0 ∷ []; count = 0; buffer = o.1; place = s })
    (record { answers = o.0 ∷ r.answers; count = suc r.count; buffer = r.buffer; place = r.place })

-- the answer of a record: the number, the bytes of log written or needed, and the opcode after 4, little-endian
abbrev pub answer_bytes : ℕ
answer_bytes = 4

abbrev pub four_of : Answer → List ℕ
four_of a = number_of a ∷ count_of a ∷ little 2 (opcode_of a)

abbrev pub fours_of : List Answer → List ℕ
fours_of xs = lists.each four_of xs

-- what a block tells whose first record is number i: how many records and bytes of log, and both buffers
unfoldable pub told_from : ℕ → List ℕ → ℕ → Block → Blocked × (List ℕ × List ℕ)
told_from start answers i r =
    (record { count = i + r.count; written = r.place - start }, (r.buffer, splice answers (answer_bytes * i) (fours_of r.answers)))

-- the whole call's refusals, in their order: 1 or 2 for the records, 3 for the file, 7 for the answers' room
unfoldable pub block_refusal : ℕ → List ℕ → List ℕ → List ℕ → ℕ
block_refusal each x f answers =
    first_of
    ((not (eqb (list_refusal (length x) each) 0), list_refusal (length x) each)
    ∷ (not (is_file f), 3)
    ∷ (ltb (length answers) (answer_bytes * (length x / each)), 7)
    ∷ [])

-- what a call answers that is not refused as a whole
abbrev pub answering : Blocked × (List ℕ × List ℕ) → Result Blocked Refusal × (List ℕ × List ℕ)
answering o = (Ok o.0, o.1)

-- THE CALL over bytes. Refused as a whole, it writes nothing.
unfoldable pub block_call : ℕ → List ℕ → List ℕ → List ℕ → ℕ → List ℕ → Result Blocked Refusal × (List ℕ × List ℕ)
block_call each x f log start answers =
    cond (eqb (block_refusal each x f answers) 0)
    (answering (told_from start answers 0 (block_from (file_of f) (records_in each x) log start)))
    (Err (refusal_named (block_refusal each x f answers)), (log, answers))

-- the count and the bytes of log that a call answers: refused as a whole, it answers 0
abbrev pub block_count : Result Blocked Refusal → ℕ
block_count (Ok b) = b.count
block_count (Err r) = 0

abbrev pub block_written : Result Blocked Refusal → ℕ
block_written (Ok b) = b.written
block_written (Err r) = 0
