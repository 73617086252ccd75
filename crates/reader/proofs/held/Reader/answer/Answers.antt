use Rattle.reader.proofs.Replies.{record_brought, count_small}
use Rattle.reader.proofs.held.Reader.answer.Goals as goal

pub returns-in-Record-clause-answers : goal.returns-in-Record-clause-answers
returns-in-Record-clause-answers c =
    let e = rw (c.bytes.ensures.kept, c.bytes-in-Record.ensures.kept) at c.visit_accesses-a.ensures in
    record_brought c.args.t c.args.self.now c.args.log.now c.args.start c.visited.result c.requires.going
    c.clear-in-Record.new.self c.clear-in-Record.ensures c.in-Record.is _ _ e c.requires.room c.visited.ensures

pub returns-in-Record-clause-count : goal.returns-in-Record-clause-count
returns-in-Record-clause-count c =
    rw c.visited.ensures (count_small c.bytes-in-Record.result.now c.bytes.result.now c.args.log.now c.args.start c.visit_accesses-a.ensures)
