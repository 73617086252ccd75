-- The place after an event lies within the log, so it is a number of 64 bits. Assumes nothing.
use native.Mathlib.Omega.{arith}
use mathlib.Core.Path.{sym, subst}
use Prim.Native.Nat.{◌+◌, ◌<◌, ◌≤◌}
use lib.ListN.{length}
use Rattle.event.proofs.Fronts.{Moves, goes_on_lem, from_part}
use Rattle.event.proofs.reader.read_event.Goals as goal

pub overflow_add-result : goal.overflow_add-result
overflow_add-result c =
    let l = c.args.log.now in
    let at = c.args.at in
    let m : (at < at + c.in-Found.n) × (at + c.in-Found.n ≤ length l) =
    subst (Moves l at) (sym (rw c.in-Found.is at (from_part l at c.read_front-r.ensures))) (goes_on_lem l at) in
    omega arith

pub returns-in-Found : goal.returns-in-Found
returns-in-Found c = rw c.in-Found.is at (from_part c.args.log.now c.args.at c.read_front-r.ensures)

pub returns-in-Bad : goal.returns-in-Bad
returns-in-Bad c = rw c.in-Bad.is at (from_part c.args.log.now c.args.at c.read_front-r.ensures)

pub returns-in-Finished : goal.returns-in-Finished
returns-in-Finished c = rw c.in-Finished.is at (from_part c.args.log.now c.args.at c.read_front-r.ensures)
