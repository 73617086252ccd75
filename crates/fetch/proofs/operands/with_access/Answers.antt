use Rattle.definition.specs.Tables.{shape_of}
use Rattle.fetch.proofs.Parts.{access_joined}
use Rattle.fetch.proofs.operands.with_access.Goals as goal

pub returns : goal.returns
returns c =
    let a = c.args in
    access_joined a.set a.x (shape_of a.spec)
    c.segment_of-segment.ensures c.base_of-base.ensures c.index_of-index.ensures
    c.with_segment.ensures c.with_term.ensures c.with_term-2.ensures
