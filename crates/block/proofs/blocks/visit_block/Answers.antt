-- The refusals in their order, then the records.
use Rattle.std.proofs.Common.{◌≡◌, ◌≤◌, ◌<◌, ◌*◌, ◌/◌, length, sym, ap, ◌∙◌, arith}
use Rattle.std.proofs.lemmas.Result.{err_from_is_err_and}
use Rattle.registers.specs.Told.{file_refusal}
use Rattle.laws.proofs.Answered as answered
use Rattle.laws.proofs.Answered.{refused_not}
use Rattle.registers.proofs.Answers.{bad_alone}
use Rattle.block.specs.Blocks.{answering, answer_bytes}
use Rattle.block.proofs.Calls.{refused_call, called, by_list, by_file, by_room_lem, passed}
use Rattle.block.proofs.blocks.visit_block.Goals as goal

pub returns-in_err-list : goal.returns-in_err-list
returns-in_err-list c =
    let x = c.args in
    let p = err_from_is_err_and c.from_residual.result c.from_residual.ensures.1 in
    let e = c.in_err-list.ensures in
    rw (p.1, p.2, e.1)
    (refused_call x.each x.records.now x.file.now x.log.now x.start x.answers.now (by_list x.each x.records.now x.file.now x.answers.now e.0) e.0)

pub returns-in_err-check : goal.returns-in_err-check
returns-in_err-check c =
    let x = c.args in
    let p = err_from_is_err_and c.from_residual-in_err-check.result c.from_residual-in_err-check.ensures.1 in
    rw (p.1, p.2, bad_alone x.file.now c.check.ensures c.in_err-check.was)
    (refused_call x.each x.records.now x.file.now x.log.now x.start x.answers.now
    (by_file x.each x.records.now x.file.now x.answers.now c.in_ok-list.ensures.2 (refused_not _ _ c.check.ensures c.in_err-check.was))
    (λ e. omega arith))

pub returns-then-answers-count : goal.returns-then-answers-count
returns-then-answers-count c =
    let x = c.args in
    let l = c.in_ok-list.ensures in
    let good : file_refusal x.file.now ≡ 0 = answered.passed _ _ c.check.ensures c.in_ok-check.was in
    let short : length x.answers.now < answer_bytes * (length x.records.now / x.each) = rw (c.count.ensures.are, l.0, l.1) at c.if-answers-count.true in
    refused_call x.each x.records.now x.file.now x.log.now x.start x.answers.now
    (by_room_lem x.each x.records.now x.file.now x.answers.now l.2 good short)
    (λ e. omega arith)

pub returns : goal.returns
returns c =
    let x = c.args in
    let l = c.in_ok-list.ensures in
    let good : file_refusal x.file.now ≡ 0 = answered.passed _ _ c.check.ensures c.in_ok-check.was in
    let room : answer_bytes * (length x.records.now / x.each) ≤ length x.answers.now = rw (c.count.ensures.are, l.0, l.1) at c.if-answers-count.false in
    ap answering (rw (l.0, l.1) at c.visit_each.ensures)
    ∙ sym (called x.each x.records.now x.file.now x.log.now x.start x.answers.now (passed x.each x.records.now x.file.now x.answers.now l.2 good room))
