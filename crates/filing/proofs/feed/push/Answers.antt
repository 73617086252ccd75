-- One byte more: the laws of `Pushing`, at the part under way.
use Rattle.std.proofs.Common.{List, ℕ, sym, ap, ◌∙◌, arith, length-set}
use Rattle.filing.specs.declared.feed.Feed.{Feed}
use Rattle.filing.proofs.Pushing.{begun, refused, full, growing, ending}
use Rattle.filing.proofs.feed.push.Goals as goal

pub returns-in_default : goal.returns-in_default
returns-in_default c =
    let x = c.args in
    (rw c.in_default.is (refused c.in_default.field-0 x.words.now x.carry.now x.b), c.requires)

pub returns-then-is_full : goal.returns-then-is_full
returns-then-is_full c =
    let x = c.args in
    let r = c.in-Reading in (
      rw (c.from.ensures, r.is) (full r.part r.have x.words.now x.carry.now x.b (sym c.is_full.ensures ∙ c.if-is_full.true)),
      record { room = c.requires.room; within = tt },
    )

pub returns-then-next-size_of : goal.returns-then-next-size_of
returns-then-next-size_of c =
    let x = c.args in
    let r = c.in-Reading in
    let h = rw r.is at c.requires.within in
    let l = rw c.size_of.ensures at c.if-next-size_of.true in (
      rw r.is
          (growing r.part r.have x.words.now x.carry.now x.b (sym c.is_full.ensures ∙ c.if-is_full.false) l (omega (arith, c.requires.room))),
      record { room = simp length-set c.requires.room; within = (l, h.1) },
    )

pub returns : goal.returns
returns c =
    let x = c.args in
    let r = c.in-Reading in
    let h = rw r.is at c.requires.within in
    let l = rw c.size_of.ensures at c.if-next-size_of.false in
    let e = c.complete.ensures in (
      rw r.is
          (ending r.part r.have x.words.now x.carry.now x.b (sym c.is_full.ensures ∙ c.if-is_full.false) l (omega (arith, c.requires.room)) c.complete.result c.complete.new.words e),
      record {
        room = simp length-set c.requires.room;
        within = rw (ap (λ (p : Feed × List ℕ). p.0) e) (begun r.part x.words.now _).within;
      },
    )
