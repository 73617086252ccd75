-- Byte by byte. Assumes nothing.
use Rattle.std.proofs.Common.{sym, ◌∙◌, arith}
use Rattle.watching.specs.Verdicts.{store_touched}
use Rattle.watching.proofs.Touched.{touching, none_left, bits_few, bits_more, all_done}
use Rattle.watching.proofs.watched.Watched.store_touched.Goals as goal

pub loop-i-init : goal.loop-i-init
loop-i-init c = let x = c.args in none_left (touching x.self.variable x.a x.n) x.self.variable.length

pub with_low-bits-requires : goal.with_low-bits-requires
with_low-bits-requires c =
    let x = c.args in
    rw c.loop-i.invariant
    (bits_few (touching x.self.variable x.a x.n) x.self.variable.length c.loop-i.i x.self.long c.loop-i-test.true)

pub loop-i-preserved : goal.loop-i-preserved
loop-i-preserved c =
    let l = c.loop-i in
    let x = c.args in
    c.with_low-bits.ensures
    ∙ rw (l.invariant, c.touches.ensures) (sym (bits_more (touching x.self.variable x.a x.n) l.i x.self.variable.length c.loop-i-test.true l.auto.i))

pub returns : goal.returns
unfolding store_touched
returns c =
    let l = c.loop-i in
    let x = c.args in
    l.invariant ∙ all_done (touching x.self.variable x.a x.n) x.self.variable.length l.i (omega arith)
