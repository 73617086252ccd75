-- WHAT IS PROMISED of a block of records, each statement after its sentence. proofs/Proved.antt proves them all; nothing is assumed.
use Rattle.std.specs.Prelude.{ℕ, suc, ◌+◌, ◌*◌, ◌≤◌, ◌≡◌, List, [], ◌∷◌, true, false, length, take, drop, Err}
use Rattle.laws.specs.Refusals.{refusal_named, refused_by}
use Rattle.registers.specs.Files.{file_of}
use Rattle.registers.specs.declared.RegisterFile.{RegisterFile}
use Rattle.records.specs.Lists.{records_in}
use Rattle.definition.specs.Limits.{most_bytes}
use Rattle.definition.specs.Logs.{bytes_of}
use Rattle.definition.specs.Visits.{log_of, visit_under}
use Rattle.definition.specs.declared.Answer.{Answer}
use Rattle.definition.specs.declared.Answer.TheVariants.{Done}
use Rattle.promises.specs.Calls.{Refusal}
use Rattle.promises.specs.Refinement.{Extends, RefinesAll}
use Rattle.promises.specs.Rows.{Table}
use Rattle.block.specs.Blocks.{is_seven, logged_by, block_from, answer_bytes, fours_of, block_refusal, block_call, block_count, block_written}
use Rattle.block.specs.Rows.{row_of, rows}

-- the bytes of log that visits wrote
unfoldable pub sum_of : List Answer → ℕ
sum_of [] = 0
sum_of (a ∷ rest) = logged_by a + sum_of rest

-- of records from a place on, each answer is that of a single call at its place over the buffer p as it was before the block; the bytes
-- that the block leaves there are those that this call leaves; and the next record's place is right behind them
unfoldable pub Singly : RegisterFile → List ℕ → List ℕ → ℕ → List (List ℕ) → List Answer → Type 0
Singly f p final s bs [] = Unit {0}
Singly f p final s [] (a ∷ rest) = ⊥
Singly f p final s (b ∷ bs) (a ∷ rest) =
    (a ≡ (visit_under b f p s).0)
    × (take (logged_by a) (drop s final) ≡ take (logged_by a) (drop s (visit_under b f p s).1))
    × Singly f p final (s + logged_by a) bs rest

-- the answers go up to the end of the records, or up to and with the first 7; the count is that of the others
pub data Counting : List (List ℕ) → ℕ → List Answer → Type 0 where
  through : Counting [] 0 []
  full : {b : List ℕ} {bs : List (List ℕ)} {a : Answer} → is_seven a ≡ true → Counting (b ∷ bs) 0 (a ∷ [])
  on :
      {b : List ℕ} {bs : List (List ℕ)} {k : ℕ} {a : Answer} {xs : List Answer}
      → is_seven a ≡ false → Counting bs k xs → Counting (b ∷ bs) (suc k) (a ∷ xs)

-- A BLOCK IS ITS SINGLE CALLS: answers, bytes, places without a gap, and the count. Outside of the logs no byte of the log buffer changes.
pub record Blocks (f : RegisterFile) (bs : List (List ℕ)) (p : List ℕ) (s : ℕ) : Type 0 where
  pub singly : Singly f p (block_from f bs p s).buffer s bs (block_from f bs p s).answers
  pub count : Counting bs (block_from f bs p s).count (block_from f bs p s).answers
  pub place : (block_from f bs p s).place ≡ s + sum_of (block_from f bs p s).answers
  pub long : length (block_from f bs p s).buffer ≡ length p
  pub before : take s (block_from f bs p s).buffer ≡ take s p
  pub behind : drop (block_from f bs p s).place (block_from f bs p s).buffer ≡ drop (block_from f bs p s).place p

abbrev pub BlocksAreSingleCalls : Type 0
BlocksAreSingleCalls = (f : RegisterFile) (bs : List (List ℕ)) (p : List ℕ) (s : ℕ) → Blocks f bs p s

-- ROOM. With room for the longest log for each record none is refused 7: every record is answered and counted.
abbrev pub BlocksHaveRoom : Type 0
BlocksHaveRoom =
    (f : RegisterFile) (bs : List (List ℕ)) (p : List ℕ) (s : ℕ) → s + most_bytes * length bs ≤ length p
    → ((block_from f bs p s).count ≡ length bs) × (length (block_from f bs p s).answers ≡ length bs)

-- two blocks' answers beside one another: refused alike, or logged, and the second log refines the first
pub data Beside (f g : RegisterFile) : List (List ℕ) → List Answer → List Answer → Type 0 where
  none : Beside f g [] [] []
  refused :
      {b : List ℕ} {bs : List (List ℕ)} {a : Answer} {xs ys : List Answer}
      → Refusal a → Beside f g bs xs ys → Beside f g (b ∷ bs) (a ∷ xs) (a ∷ ys)
  logged :
      {b : List ℕ} {bs : List (List ℕ)} {xs ys : List Answer}
      → RefinesAll (log_of b f) (log_of b g) → Beside f g bs xs ys
      → Beside f g (b ∷ bs) (Done (length (bytes_of (log_of b f))) ∷ xs) (Done (length (bytes_of (log_of b g))) ∷ ys)

-- DEMAND 3 over the block. With that room under both files, of which the second knows more, the records are refused alike one by one, and
-- each log refines the other.
abbrev pub BlocksRefine : Type 0
BlocksRefine =
    (f g : RegisterFile) (bs : List (List ℕ)) (p q : List ℕ) (s t : ℕ)
    → Extends f g → s + most_bytes * length bs ≤ length p → t + most_bytes * length bs ≤ length q
    → Beside f g bs (block_from f bs p s).answers (block_from g bs q t).answers

-- THE WHOLE CALL REFUSED writes nothing, and answers its number alone.
abbrev pub RefusedBlockLeaves : Type 0
RefusedBlockLeaves =
    (each : ℕ) (x f log : List ℕ) (start : ℕ) (answers : List ℕ)
    → (block_refusal each x f answers ≡ 0 → ⊥)
    → (block_call each x f log start answers ≡ (Err (refusal_named (block_refusal each x f answers)), (log, answers)))
    × (refused_by (block_call each x f log start answers).0 ≡ block_refusal each x f answers)

-- FOUR BYTES EACH. A call that is not refused as a whole is the block of its records; it changes four answer bytes for each record that it
-- answered, and no other.
pub record Called (each : ℕ) (x f log : List ℕ) (start : ℕ) (answers : List ℕ) : Type 0 where
  pub number : refused_by (block_call each x f log start answers).0 ≡ 0
  pub count : block_count (block_call each x f log start answers).0 ≡ (block_from (file_of f) (records_in each x) log start).count
  pub written : start + block_written (block_call each x f log start answers).0 ≡ (block_from (file_of f) (records_in each x) log start).place
  pub buffer : (block_call each x f log start answers).1.0 ≡ (block_from (file_of f) (records_in each x) log start).buffer
  pub long : length (block_call each x f log start answers).1.1 ≡ length answers
  pub fours :
      take (answer_bytes * length (block_from (file_of f) (records_in each x) log start).answers) (block_call each x f log start answers).1.1
      ≡ fours_of (block_from (file_of f) (records_in each x) log start).answers
  pub behind :
      drop (answer_bytes * length (block_from (file_of f) (records_in each x) log start).answers) (block_call each x f log start answers).1.1
      ≡ drop (answer_bytes * length (block_from (file_of f) (records_in each x) log start).answers) answers

abbrev pub FourBytesEach : Type 0
FourBytesEach =
    (each : ℕ) (x f log : List ℕ) (start : ℕ) (answers : List ℕ) → block_refusal each x f answers ≡ 0 → Called each x f log start answers

-- TABLE. The order of the whole call's refusals, the first 7, records that are refused, the opcode's bytes.
abbrev pub RowsHold : Type 0
RowsHold = Table row_of rows
