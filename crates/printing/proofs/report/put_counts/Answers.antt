-- The line of the next number, and at the end none.
use Rattle.std.proofs.Common.{◌+◌}
use Rattle.laws.proofs.Lending.{next, fits}
use Rattle.laws.proofs.OneByOne.{begins, no_more}
use Rattle.printing.proofs.Counting.{line_next, line_none, line_all}
use Rattle.printing.proofs.report.put_counts.Goals as goal

pub loop-k-init : goal.loop-k-init
loop-k-init c =
    let x = c.args in
    begins (line_all x.letter.now x.base x.words.now x.first x.count) c.requires.0 c.well_formed.0.0

pub put_count-n-requires : goal.put_count-n-requires
put_count-n-requires c =
    let x = c.args in
    let l = c.loop-k in
    fits (line_next x.letter.now x.base x.words.now l.k (x.first + x.count) c.loop-k-test.true l.invariant)

pub loop-k-preserved : goal.loop-k-preserved
loop-k-preserved c =
    let x = c.args in
    let l = c.loop-k in
    next (line_next x.letter.now x.base x.words.now l.k (x.first + x.count) c.loop-k-test.true l.invariant) c.put_count-n.ensures

pub returns : goal.returns
returns c =
    let x = c.args in
    let l = c.loop-k in
    no_more (line_none x.letter.now x.base x.words.now l.k (x.first + x.count) c.loop-k-test.false) l.invariant
