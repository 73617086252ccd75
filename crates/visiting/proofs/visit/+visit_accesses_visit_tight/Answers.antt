use mathlib.Core.Path.{refl, sym, ◌∙◌}
use mathlib.Core.Bool.{false, not}
use lib.Dec.{lit<, lit≤}
use lib.ListN.{replicate}
use Rattle.registers.specs.Files.{file_of, is_file}
use Rattle.definition.specs.Limits.{most_bytes}
use Rattle.laws.proofs.Answered.{passed, refused_not}
use Rattle.record.proofs.Laws.{number_read}
use Rattle.registers.proofs.Answers.{number_filed}
use Rattle.visiting.proofs.Calls.{bad_record, bad_file_lem, good_file}
use Rattle.visiting.proofs.Rooms.{lent_on, within_is, laid_is}
use Rattle.visiting.proofs.visit.+visit_accesses_visit_tight.Goals as goal

pub visit_accesses-returns-in-Err : goal.visit_accesses-returns-in-Err
visit_accesses-returns-in-Err t c =
    bad_record c.args.b.now c.args.log.now c.args.start (not (is_file c.args.file.now)) (file_of c.args.file.now)
    (c.from.ensures ∙ number_read c.args.b.now _ c.check.ensures c.in-Err.is)
    (rw (c.from.ensures ∙ number_read c.args.b.now _ c.check.ensures c.in-Err.is) (refused_not _ _ c.check.ensures c.in-Err.is))

pub visit_accesses-returns-in-Err-check : goal.visit_accesses-returns-in-Err-check
visit_accesses-returns-in-Err-check t c =
    bad_file_lem c.args.b.now c.args.log.now c.args.start c.args.file.now refl (passed _ _ c.check.ensures c.in_default.is)
    (c.from-in-Err-check.ensures ∙ number_filed c.args.file.now c.check-2.ensures c.in-Err-check.is)
    (rw (c.from-in-Err-check.ensures ∙ number_filed c.args.file.now c.check-2.ensures c.in-Err-check.is)
    (refused_not _ _ c.check-2.ensures c.in-Err-check.is))

pub visit_accesses-visit_tight-requires : goal.visit_accesses-visit_tight-requires
visit_accesses-visit_tight-requires t c =
    (rw (sym c.decreases, sym c.lacks_room.ensures ∙ c.if-lacks_room.true) (lit< tt), tt)

pub visit_accesses-returns : goal.visit_accesses-returns
visit_accesses-returns t c =
    lent_on false c.args.b.now (file_of c.args.file.now) c.args.log.now c.args.start (sym c.lacks_room.ensures ∙ c.if-lacks_room.false) c.visit_record.ensures
    ∙ good_file c.args.b.now c.args.log.now c.args.start c.args.file.now refl (passed _ _ c.check-2.ensures c.in_default-check.is) refl

pub visit_tight-visit_accesses-answer-requires : goal.visit_tight-visit_accesses-answer-requires
visit_tight-visit_accesses-answer-requires t c =
    (rw (sym c.decreases) (lit< tt), tt)

pub visit_tight-lay-requires : goal.visit_tight-lay-requires
visit_tight-lay-requires t c =
    let v = c.visit_accesses-answer in
    rw v.auto.log (within_is (not (is_file c.args.file.now)) c.args.b.now (file_of c.args.file.now) (replicate most_bytes 0) v.ensures)

pub visit_tight-returns : goal.visit_tight-returns
visit_tight-returns t c =
    c.lay.ensures ∙ laid_is (not (is_file c.args.file.now)) c.args.b.now (file_of c.args.file.now) (replicate most_bytes 0) c.args.log.now c.args.start (lit≤ tt) c.visit_accesses-answer.ensures
