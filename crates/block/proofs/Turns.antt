-- A walk along the records of a block, turn by turn. Assumes nothing.
use Prim.Native.Nat.{ℕ, suc, ◌+◌, ◌-◌, ◌*◌, ◌≤◌, ◌<◌}
use native.Mathlib.Omega.{arith}
use mathlib.Core.Path.{◌≡◌, refl, sym, ap, ◌∙◌}
use mathlib.Core.List.{List, [], ◌∷◌, ◌++◌, append_assoc, append-nil}
use mathlib.Core.Bool.{true, false}
use lib.ListN.{length, take, drop}
use lib.Seq.{drop-drop}
use Rattle.laws.specs.Words.{little}
use Rattle.laws.specs.Lists as lists
use Rattle.laws.specs.Lending.{splice}
use Rattle.laws.proofs.Lending.{part, back, part_is, back_is}
use Rattle.registers.specs.Files.{file_of}
use Rattle.registers.specs.Told.{file_refusal}
use Rattle.registers.specs.declared.RegisterFile.{RegisterFile}
use Rattle.records.specs.Lists.{records_in}
use Rattle.records.proofs.Cuts.{records_next, records_end}
use Rattle.definition.specs.Visits.{visit_under, visit_of}
use Rattle.definition.specs.declared.Answer.{Answer}
use Rattle.definition.specs.declared.Answer.TheVariants.{Done, Refused, Complex, Short}
use Rattle.promises.proofs.Whole.{visit_inside}
use Rattle.visiting.proofs.Calls.{good_file}
use Rattle.block.specs.declared.blocks.Blocked.{Blocked}
use Rattle.block.specs.Blocks.{is_seven, logged_by, Block, block_from, answer_bytes, four_of, fours_of, told_from}
use Rattle.block.proofs.Lists.{splice_none, splice_long, splice_splice}
use Rattle.block.proofs.Singles.{single}

-- a part that was lent comes back with bytes at its front
pub laid_back : (mid : List ℕ) (n : ℕ) (x ys : List ℕ) → ys ≡ x ++ drop (length x) (part mid n) → back mid n ys ≡ splice mid n x
unfolding splice
laid_back mid n x ys e =
    back_is mid n ys
    ∙ rw (e, part_is mid n, drop-drop (length x) n mid) (sym (append_assoc (take n mid) x (drop (n + length x) mid)))

-- an answer has four bytes
pub four_long : (a : Answer) → length (four_of a) ≡ answer_bytes
unfolding little
four_long a = refl

-- one answer told, and the rest behind it
told_next :
    (start i : ℕ) (answers : List ℕ) (a : Answer) (r : Block) → answer_bytes * i + answer_bytes ≤ length answers
    → told_from start answers i (record { answers = a ∷ r.answers; count = suc r.count; buffer = r.buffer; place = r.place })
    ≡ told_from start (splice answers (answer_bytes * i) (four_of a)) (i + 1) r
unfolding told_from lists.each
told_next start i answers a r room =
    let n : i + suc r.count ≡ i + 1 + r.count = omega arith in
    let m : answer_bytes * (i + 1) ≡ answer_bytes * i + length (four_of a) = omega (arith, four_long a) in
    rw (n, m, splice_splice answers (answer_bytes * i) (four_of a) (fours_of r.answers) (omega (arith, four_long a)))

module _ (each : ℕ) (f : RegisterFile) (start : ℕ) where
  -- what is told of the records of the bytes that are left, the first of which is number i
  abbrev pub tells : ℕ → List ℕ → List ℕ → ℕ → List ℕ → Blocked × (List ℕ × List ℕ)
  tells i left log place answers = told_from start answers i (block_from f (records_in each left) log place)

  -- all are visited
  told_none : (i : ℕ) (log : List ℕ) (place : ℕ) (answers : List ℕ) → told_from start answers i (block_from f [] log place) ≡ (record { count = i; written = place - start }, (log, answers))
  unfolding told_from block_from lists.each
  told_none i log place answers = let n : i + 0 ≡ i = omega arith in rw (n, splice_none answers (answer_bytes * i))

  pub over :
      (i : ℕ) (left log : List ℕ) (place : ℕ) (answers : List ℕ) → length left < each
      → tells i left log place answers ≡ (record { count = i; written = place - start }, (log, answers))
  over i left log place answers h =
      ap (λ (bs : List (List ℕ)). told_from start answers i (block_from f bs log place)) (records_end each left h) ∙ told_none i log place answers

-- what the visit of record x answered and left, and what the answers came back as
pub record Turn (x : List ℕ) (f : RegisterFile) (i : ℕ) (log : List ℕ) (place : ℕ) (answers : List ℕ) (a : Answer) (log' answers' : List ℕ) : Type 0 where
  pub visited : (a, log') ≡ visit_under x f log place
  pub told : answers' ≡ four_of a ++ drop answer_bytes (part answers (answer_bytes * i))

-- as code makes it, under a file that passed
pub turned :
    (x file : List ℕ) (i : ℕ) (log : List ℕ) (place : ℕ) (answers : List ℕ) {a : Answer} {log' answers' : List ℕ}
    → file_refusal file ≡ 0 → (a, log') ≡ visit_of x file log place
    → answers' ≡ four_of a ++ drop answer_bytes (part answers (answer_bytes * i))
    → Turn x (file_of file) i log place answers a log' answers'
turned x file i log place answers good visited told =
    record { visited = visited ∙ sym (good_file x log place {f = file_of file} file refl good refl); told = told }

module _
    {x : List ℕ} {f : RegisterFile} {i : ℕ} {log : List ℕ} {place : ℕ} {answers : List ℕ} {a : Answer} {log' answers' : List ℕ}
    (t : Turn x f i log place answers a log' answers')
  where
    answers_are : back answers (answer_bytes * i) answers' ≡ splice answers (answer_bytes * i) (four_of a)
    unfolding little
    answers_are = laid_back answers (answer_bytes * i) (four_of a) answers' t.told

    pub answers_long : answer_bytes * i + answer_bytes ≤ length answers → length (back answers (answer_bytes * i) answers') ≡ length answers
    answers_long h = ap length answers_are ∙ splice_long answers (answer_bytes * i) (four_of a) (omega (arith, four_long a))

    pub log_long : length log' ≡ length log
    log_long = ap (λ (o : Answer × List ℕ). length o.1) t.visited ∙ (single x f log place).long

    -- the place behind a log that was written lies in the buffer
    pub place_fits : (k : ℕ) → place < k → length log < k → place + logged_by a < k
    place_fits k p l = by a t.visited
      where
        by : (a : Answer) → (a, log') ≡ visit_under x f log place → place + logged_by a < k
        by (Done n) e = omega (arith, visit_inside false x f log place n log' (sym e))
        by (Refused n) e = omega arith
        by (Complex o) e = omega arith
        by (Short n) e = omega arith

    -- the fold goes on
    block_next :
        (bs : List (List ℕ)) → is_seven a ≡ false
        → block_from f (x ∷ bs) log place
        ≡ (let r = block_from f bs log' (place + logged_by a) in
        record { answers = a ∷ r.answers; count = suc r.count; buffer = r.buffer; place = r.place })
    unfolding block_from
    block_next bs s = rw (← t.visited, s)

    -- the fold ends with this answer
    block_last :
        (bs : List (List ℕ)) → is_seven a ≡ true
        → block_from f (x ∷ bs) log place ≡ record { answers = a ∷ []; count = 0; buffer = log'; place = place }
    unfolding block_from
    block_last bs s = rw (← t.visited, s)

    told_last :
        (start : ℕ)
        → told_from start answers i (record { answers = a ∷ []; count = 0; buffer = log'; place = place })
        ≡ (record { count = i; written = place - start }, (log', splice answers (answer_bytes * i) (four_of a)))
    unfolding told_from lists.each
    told_last start = let n : i + 0 ≡ i = omega arith in rw (n, append-nil (four_of a))

    module _ (each start : ℕ) {left : List ℕ} (rest : List ℕ) (some : 0 < each) (long : length x ≡ each) (next : left ≡ x ++ rest) where
      pub goes_on_lem :
          is_seven a ≡ false → answer_bytes * i + answer_bytes ≤ length answers
          → tells each f start i left log place answers ≡ tells each f start (i + 1) rest log' (place + logged_by a) (back answers (answer_bytes * i) answers')
      goes_on_lem s room =
          ap (λ (bs : List (List ℕ)). told_from start answers i (block_from f bs log place)) (records_next each x rest some long next)
          ∙ ap (told_from start answers i) (block_next (records_in each rest) s)
          ∙ told_next start i answers a (block_from f (records_in each rest) log' (place + logged_by a)) room
          ∙ ap (λ (l : List ℕ). told_from start l (i + 1) (block_from f (records_in each rest) log' (place + logged_by a))) (sym answers_are)

      pub stops :
          is_seven a ≡ true
          → tells each f start i left log place answers ≡ (record { count = i; written = place - start }, (log', back answers (answer_bytes * i) answers'))
      stops s =
          ap (λ (bs : List (List ℕ)). told_from start answers i (block_from f bs log place)) (records_next each x rest some long next)
          ∙ ap (told_from start answers i) (block_last (records_in each rest) s)
          ∙ told_last start
          ∙ ap (λ (l : List ℕ). (record { count = i; written = place - start }, (log', l))) (sym answers_are)
