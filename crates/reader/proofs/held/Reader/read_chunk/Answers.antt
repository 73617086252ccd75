use Rattle.std.proofs.Common.{sym, ◌∙◌}
use Rattle.reader.proofs.Calls.{stopped_reader, early_reader, chunk_reader}
use Rattle.reader.proofs.held.Reader.read_chunk.Goals as goal

pub returns-then-self-clause-answers : goal.returns-then-self-clause-answers
returns-then-self-clause-answers c =
    stopped_reader c.args.self.now c.check.new.self c.args.chunk.now c.args.log.now c.args.start c.check.ensures.same
    c.answering.result c.if-self.true c.answering.ensures

pub returns-then-lacks_room-clause-answers : goal.returns-then-lacks_room-clause-answers
returns-then-lacks_room-clause-answers c =
    early_reader c.args.self.now c.check.new.self c.args.chunk.now c.args.log.now c.args.start c.check.ensures.same
    c.answering-then-lacks_room.result c.if-self.false (sym c.lacks_room.ensures ∙ c.if-lacks_room.true)
    c.answering-then-lacks_room.ensures

pub returns-clause-answers : goal.returns-clause-answers
returns-clause-answers c =
    chunk_reader c.args.self.now c.check.new.self c.args.chunk.now c.args.log.now c.args.start c.check.ensures.same
    c.answer.result c.take_items-t.result c.take_items-t.new.self c.answer.new.self c.answer.new.log c.if-self.false
    (sym c.lacks_room.ensures ∙ c.if-lacks_room.false) c.take_items-t.ensures.through c.take_items-t.ensures.means
    c.answer.ensures.answers
