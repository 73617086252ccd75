use Rattle.std.proofs.Common.{ℕ, ◌≡◌, ◌+◌, ◌*◌, ◌^◌, ◌<◌, ◌≤◌, length, rules, refl, sym, ap, ◌∙◌, arith}
use Rattle.std.specs.Iterator.Adapters.{enumerate_source, enumerate_count}
use Rattle.std.specs.Slice.Iter.{chunks_exact_rest}
use Rattle.laws.proofs.Lending.{part_length}
use Rattle.registers.specs.Files.{file_of}
use Rattle.records.proofs.Cuts.{count_next, count_end}
use Rattle.block.specs.Blocks.{answer_bytes}
use Rattle.block.proofs.Rooms.{count_byte}
use Rattle.block.proofs.Turns.{tells, turned, answers_long, log_long, place_fits, goes_on_lem, stops, over}
use Rattle.block.proofs.blocks.visit_each.Goals as goal

pub put_answer-requires : goal.put_answer-requires
put_answer-requires c =
    let x = c.args in
    let l = c.loop-i in
    let s = c.in-Some.ensures.steps in
    let more = count_next x.list.each c.in-Some.record.now _ c.records.ensures.some (s.0.1.1 ∙ l.invariant.size) s.0.1.0 in (
      omega (arith, part_length l.answers (answer_bytes * c.in-Some.i), l.invariant.answers, c.requires.0, l.invariant.counted, more, s.1),
      count_byte c.in-Some.record.now (file_of x.file.now) l.log l.place
          (turned c.in-Some.record.now x.file.now c.in-Some.i l.log l.place l.answers c.requires.1 c.visit_accesses-a.ensures refl).visited,
    )

pub returns-then-is_seven : goal.returns-then-is_seven
returns-then-is_seven c =
    let x = c.args in
    let l = c.loop-i in
    let s = c.in-Some.ensures.steps in
    let t = turned c.in-Some.record.now x.file.now c.in-Some.i l.log l.place l.answers c.requires.1 c.visit_accesses-a.ensures c.put_answer.ensures in
    sym
    (l.invariant.told
    ∙ ap (λ (k : ℕ). tells x.list.each (file_of x.file.now) x.start k (chunks_exact_rest (enumerate_source l.i-iterator)) l.log l.place l.answers) (sym s.1)
    ∙ stops t x.list.each x.start _ c.records.ensures.some (s.0.1.1 ∙ l.invariant.size) s.0.1.0 (sym c.is_seven.ensures ∙ c.if-is_seven.true))

pub overflow_add-place : goal.overflow_add-place
overflow_add-place c =
    let x = c.args in
    let l = c.loop-i in
    let t = turned c.in-Some.record.now x.file.now c.in-Some.i l.log l.place l.answers c.requires.1 c.visit_accesses-a.ensures c.put_answer.ensures in
    let short : length l.log < 2 ^ 64 = omega (arith, l.invariant.log) in
    record { fits = rw c.logged_by-place.ensures (place_fits t (2 ^ 64) l.invariant.place short) }

pub loop-i-preserved : goal.loop-i-preserved
loop-i-preserved c =
    let x = c.args in
    let l = c.loop-i in
    let s = c.in-Some.ensures.steps in
    let t = turned c.in-Some.record.now x.file.now c.in-Some.i l.log l.place l.answers c.requires.1 c.visit_accesses-a.ensures c.put_answer.ensures in
    let more = count_next x.list.each c.in-Some.record.now _ c.records.ensures.some (s.0.1.1 ∙ l.invariant.size) s.0.1.0 in
    let room : answer_bytes * c.in-Some.i + answer_bytes ≤ length l.answers = omega (arith, l.invariant.answers, c.requires.0, l.invariant.counted, more, s.1) in
    let short : length l.log < 2 ^ 64 = omega (arith, l.invariant.log) in
    record {
      can_next = search rules;
      is_finite = tt;
      size = s.0.0 ∙ l.invariant.size;
      counted = omega (arith, l.invariant.counted, more, s.2);
      start = omega (arith, l.invariant.start);
      place = rw c.logged_by-place.ensures (place_fits t (2 ^ 64) l.invariant.place short);
      log = log_long t ∙ l.invariant.log;
      answers = answers_long t room ∙ l.invariant.answers;
      told =
          rw (c.logged_by-place.ensures, s.2, ← s.1)
          (l.invariant.told
          ∙ ap (λ (k : ℕ). tells x.list.each (file_of x.file.now) x.start k (chunks_exact_rest (enumerate_source l.i-iterator)) l.log l.place l.answers) (sym s.1)
          ∙ goes_on_lem t x.list.each x.start _ c.records.ensures.some (s.0.1.1 ∙ l.invariant.size) s.0.1.0 (sym c.is_seven.ensures ∙ c.if-is_seven.false) room);
    }

pub returns : goal.returns
returns c =
    let x = c.args in
    let l = c.loop-i in
    let s = c.in-None.ensures.steps in
    let short : length (chunks_exact_rest (enumerate_source l.i-iterator)) < x.list.each = omega (arith, s.0.1.0, l.invariant.size) in
    let all : c.count.result ≡ enumerate_count l.i-iterator =
    omega (arith, c.count.ensures.are, l.invariant.counted, count_end x.list.each _ short) in
    rw all (sym (l.invariant.told ∙ over x.list.each (file_of x.file.now) x.start (enumerate_count l.i-iterator) _ l.log l.place l.answers short))
