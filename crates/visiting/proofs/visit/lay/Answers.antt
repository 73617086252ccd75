use mathlib.Core.Path.{sym, ◌∙◌}
use Rattle.visiting.specs.Laying.{laid_out}
use Rattle.visiting.proofs.Rooms.{too_short, laid_here}
use Rattle.visiting.proofs.visit.lay.Goals as goal

pub returns-then-lacks_room : goal.returns-then-lacks_room
returns-then-lacks_room c =
    too_short c.in-Done.is c.args.aside.now c.args.log.now c.args.start (sym c.lacks_room.ensures ∙ c.if-lacks_room.true)

pub returns-else-lacks_room : goal.returns-else-lacks_room
returns-else-lacks_room c =
    laid_here c.in-Done.is c.args.aside.now c.args.log.now c.args.start (sym c.lacks_room.ensures ∙ c.if-lacks_room.false) (rw c.in-Done.is at c.requires)
    c.copy_from_slice.ensures.after

pub returns-in-Refused : goal.returns-in-Refused
unfolding laid_out
returns-in-Refused c = rw c.in-Refused.is

pub returns-in-Complex : goal.returns-in-Complex
unfolding laid_out
returns-in-Complex c = rw c.in-Complex.is

pub returns-in-Short : goal.returns-in-Short
unfolding laid_out
returns-in-Short c = rw c.in-Short.is
