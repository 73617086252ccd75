-- The whole call: its refusals in their order, its answers in the answer buffer, and how large its numbers are. Assumes nothing.
use Prim.Native.Nat.{ℕ, suc, ◌+◌, ◌*◌, ◌/◌, ◌%◌, ◌^◌, ◌≤◌, ◌<◌}
use native.Mathlib.Omega.{arith}
use native.Mathlib.Nat.{zero-add, mul-zero}
use mathlib.Core.Path.{◌≡◌, refl, sym, ap, ◌∙◌}
use mathlib.Core.List.{List, [], ◌∷◌}
use mathlib.Core.Bool.{Bool, true, false, not, cond}
use lib.ListN.{length, take, drop, length-append, length-drop}
use lib.Seq.{take_at, drop_at}
use lib.Dec.{ltb, eqb}
use borrow.Author.Tests.{eqb-true, eq-eqb, ne_eqb, lt-ltb, le-ltb, ltb-false}
use Rattle.std.proofs.Common.{Result, Err}
use Rattle.laws.specs.Tests.{is_in, first_of}
use Rattle.laws.specs.Refusals.{refusal_number, refusal_named}
use Rattle.laws.specs.declared.refusals.Refusal.{Refusal}
use Rattle.laws.specs.Lists as lists
use Rattle.laws.specs.Lending.{splice}
use Rattle.std.proofs.lemmas.Bool.{cond_both}
use Rattle.registers.specs.Files.{file_of, is_file}
use Rattle.registers.specs.Told.{file_refusal}
use Rattle.registers.specs.declared.RegisterFile.{RegisterFile}
use Rattle.registers.proofs.Answers.{is_file_lem, is_none}
use Rattle.records.specs.Lists.{record_lengths, most_records, list_refusal, records_in}
use Rattle.records.proofs.Cuts.{listed, cut_length}
use Rattle.definition.specs.Limits.{most_bytes}
use Rattle.definition.specs.Visits.{visit_under}
use Rattle.definition.specs.declared.Answer.{Answer}
use Rattle.block.specs.declared.blocks.Blocked.{Blocked}
use Rattle.block.specs.Blocks.{is_seven, logged_by, Block, block_from, answer_bytes, four_of, fours_of, told_from, block_refusal, answering, block_call, block_count, block_written}
use Rattle.block.specs.Promises.{sum_of, Called}
use Rattle.block.specs.Promises as promised
use Rattle.block.proofs.Singles.{blocks_are_single_calls}
use Rattle.block.proofs.Rooms.{logged_most}
use Rattle.block.proofs.Turns.{four_long}

module _ (each : ℕ) (x f log : List ℕ) (start : ℕ) (answers : List ℕ) where
  pub refused_call :
      {k : ℕ} → block_refusal each x f answers ≡ k → (k ≡ 0 → ⊥)
      → (Err (refusal_named k), (log, answers)) ≡ block_call each x f log start answers
  unfolding block_call
  refused_call {k} e ne = rw (e, ne_eqb k 0 ne)

  pub called :
      block_refusal each x f answers ≡ 0
      → block_call each x f log start answers ≡ answering (told_from start answers 0 (block_from (file_of f) (records_in each x) log start))
  unfolding block_call
  called e = rw (eq-eqb (block_refusal each x f answers) 0 e)

-- the refusals, by the tests that code makes
module _ (each : ℕ) (x f answers : List ℕ) where
  pub by_list : (list_refusal (length x) each ≡ 0 → ⊥) → block_refusal each x f answers ≡ list_refusal (length x) each
  unfolding block_refusal first_of
  by_list ne = rw (ne_eqb (list_refusal (length x) each) 0 ne)

  module _ (z : list_refusal (length x) each ≡ 0) where
    pub by_file : (file_refusal f ≡ 0 → ⊥) → block_refusal each x f answers ≡ 3
    unfolding block_refusal first_of
    by_file ne = rw (z, is_none f ne)

    module _ (good : file_refusal f ≡ 0) where
      pub by_room_lem : length answers < answer_bytes * (length x / each) → block_refusal each x f answers ≡ 7
      unfolding block_refusal first_of
      by_room_lem r = rw (z, is_file_lem f good, lt-ltb (length answers) (answer_bytes * (length x / each)) r)

      pub passed : answer_bytes * (length x / each) ≤ length answers → block_refusal each x f answers ≡ 0
      unfolding block_refusal first_of
      passed r = rw (z, is_file_lem f good, le-ltb (length answers) (answer_bytes * (length x / each)) r)

-- what a call keeps to that is not refused as a whole
pub record Passed (each : ℕ) (x answers : List ℕ) : Type 0 where
  pub few : length x / each ≤ most_records
  pub room : answer_bytes * (length x / each) ≤ length answers

pub passes : (each : ℕ) (x f answers : List ℕ) → block_refusal each x f answers ≡ 0 → Passed each x answers
unfolding block_refusal first_of
passes each x f answers e = by (eqb (list_refusal (length x) each) 0) (is_file f) (ltb (length answers) (answer_bytes * (length x / each))) refl refl e
  where
    by :
        (s t u : Bool) → eqb (list_refusal (length x) each) 0 ≡ s → ltb (length answers) (answer_bytes * (length x / each)) ≡ u
        → cond (not s) (list_refusal (length x) each) (cond (not t) 3 (cond u 7 0)) ≡ 0 → Passed each x answers
    by false t u h k e = absurd (ne h e)
      where
        ne : eqb (list_refusal (length x) each) 0 ≡ false → list_refusal (length x) each ≡ 0 → ⊥
        ne h e = let z : ◌≡◌ {A = Bool} true false = sym (eq-eqb (list_refusal (length x) each) 0 e) ∙ h in absurd (let w : ◌≡◌ {A = ℕ} 0 1 = ap (λ (b : Bool). cond {A = ℕ} b 0 1) z in omega arith)
    by true false u h k e = absurd (omega arith)
    by true true true h k e = absurd (omega arith)
    by true true false h k e =
        record { few = (listed (length x) each (eqb-true (list_refusal (length x) each) 0 h)).few; room = ltb-false (length answers) (answer_bytes * (length x / each)) k }

-- there is one answer for a record at most, and no record's log is longer than the longest
record Few (n : ℕ) (r : Block) : Type 0 where
  answers : length r.answers ≤ n
  count : r.count ≤ n
  sum : sum_of r.answers ≤ most_bytes * n

few_from : (f : RegisterFile) (bs : List (List ℕ)) (p : List ℕ) (s : ℕ) → Few (length bs) (block_from f bs p s)
unfolding block_from sum_of
few_from f [] p s = record { answers = omega arith; count = omega arith; sum = omega arith }
few_from f (b ∷ bs) p s =
    let o = visit_under b f p s in
    let r = few_from f bs o.1 (s + logged_by o.0) in
    let m = logged_most b f p s in
    cond_both (is_seven o.0) _ _ (Few (suc (length bs)))
    (λ t. record { answers = omega arith; count = omega arith; sum = omega (arith, m) })
    (λ t. record { answers = omega (arith, r.answers); count = omega (arith, r.count); sum = omega (arith, r.sum, m) })

records_long : (each : ℕ) (x : List ℕ) → length (records_in each x) ≡ length x / each
unfolding records_in
records_long each x = cut_length (length x / each) each x

fours_long : (xs : List Answer) → length (fours_of xs) ≡ answer_bytes * length xs
unfolding lists.each
fours_long [] = refl
fours_long (a ∷ xs) = length-append (four_of a) (fours_of xs) ∙ omega (arith, four_long a, fours_long xs)

-- THE ANSWER BYTES
-- each of the numbers is that of its refusal
numbered : (each : ℕ) (x f answers : List ℕ) → refusal_number (refusal_named (block_refusal each x f answers)) ≡ cond {A = ℕ} (eqb (block_refusal each x f answers) 0) 1 (block_refusal each x f answers)
unfolding block_refusal list_refusal first_of
numbered each x f answers =
    by (is_in each record_lengths) (eqb (length x % each) 0) (ltb most_records (length x / each)) (is_file f) (ltb (length answers) (answer_bytes * (length x / each)))
  where
    by :
        (s t u v w : Bool)
        → (let list : ℕ = cond (not s) 1 (cond (not t) 1 (cond u 2 0)) in
        let all : ℕ = cond (not (eqb list 0)) list (cond (not v) 3 (cond w 7 0)) in
        refusal_number (refusal_named all) ≡ cond {A = ℕ} (eqb all 0) 1 all)
    by false t u v w = refl
    by true false u v w = refl
    by true true true v w = refl
    by true true false false w = refl
    by true true false true true = refl
    by true true false true false = refl

pub refused_block_leaves : promised.RefusedBlockLeaves
refused_block_leaves each x f log start answers ne =
    let left = sym (refused_call each x f log start answers refl ne) in
    (left, rw left (numbered each x f answers ∙ rw (ne_eqb (block_refusal each x f answers) 0 ne)))

-- bytes laid at the front
laid_front : (l p : List ℕ) (n : ℕ) → length l ≡ n → n ≤ length p → (length (splice p 0 l) ≡ length p) × (take n (splice p 0 l) ≡ l) × (drop n (splice p 0 l) ≡ drop n p)
unfolding splice
laid_front l p n e h = (
  simp (length-append, length-drop) (omega arith),
  take_at l (drop (0 + length l) p) n e,
  rw (zero-add (length l), drop_at l (drop (length l) p) n e, e),
)

pub four_bytes_each : promised.FourBytesEach
unfolding told_from
four_bytes_each each x f log start answers e =
    let bs = records_in each x in
    let r = block_from (file_of f) bs log start in
    let few = few_from (file_of f) bs log start in
    let w = laid_front (fours_of r.answers) answers (answer_bytes * length r.answers) (fours_long r.answers)
    (omega (arith, few.answers, records_long each x, (passes each x f answers e).room)) in
    let c = called each x f log start answers e in
    let b = blocks_are_single_calls (file_of f) bs log start in
    record {
      number = rw c;
      count = rw (c, zero-add r.count);
      written = rw c (omega (arith, b.place));
      buffer = rw c;
      long = rw (c, mul-zero answer_bytes) w.0;
      fours = rw (c, mul-zero answer_bytes) w.1;
      behind = rw (c, mul-zero answer_bytes) w.2;
    }

-- HOW LARGE: the count and the bytes of log fit their bits
abbrev Small : Result Blocked Refusal × (List ℕ × List ℕ) → Type 0
Small o = (block_count o.0 < 2 ^ 16) × (block_written o.0 < 2 ^ 32)

told_small : (start n : ℕ) (answers : List ℕ) (r : Block) → n ≤ most_records → Few n r → r.place ≡ start + sum_of r.answers → Small (answering (told_from start answers 0 r))
unfolding told_from
told_small start n answers r h few place = (omega (arith, few.count), omega (arith, few.sum, place))

pub call_small : (each : ℕ) (x f log : List ℕ) (start : ℕ) (answers : List ℕ) → Small (block_call each x f log start answers)
call_small each x f log start answers = by (eqb (block_refusal each x f answers) 0) refl
  where
    by : (t : Bool) → eqb (block_refusal each x f answers) 0 ≡ t → Small (block_call each x f log start answers)
    by true t =
        let e = eqb-true (block_refusal each x f answers) 0 t in
        let bs = records_in each x in
        rw (called each x f log start answers e)
        (told_small start (length bs) answers (block_from (file_of f) bs log start)
        (omega (arith, records_long each x, (passes each x f answers e).few))
        (few_from (file_of f) bs log start)
        (blocks_are_single_calls (file_of f) bs log start).place)
    by false t = rw (← refused_call each x f log start answers refl (λ e. absurd (clash e))) (omega arith, omega arith)
      where
        clash : block_refusal each x f answers ≡ 0 → ⊥
        clash e = let z : ◌≡◌ {A = ℕ} 0 1 = ap (λ (b : Bool). cond {A = ℕ} b 0 1) (sym (eq-eqb (block_refusal each x f answers) 0 e) ∙ t) in omega arith

pub fits :
    (each : ℕ) (x f log : List ℕ) (start : ℕ) (answers : List ℕ) {b : Result Blocked Refusal} {buffers : List ℕ × List ℕ}
    → (b, buffers) ≡ block_call each x f log start answers → (block_count b < 2 ^ 16) × (block_written b < 2 ^ 32)
fits each x f log start answers e =
    rw (ap (λ (o : Result Blocked Refusal × (List ℕ × List ℕ)). o.0) e) (call_small each x f log start answers)
