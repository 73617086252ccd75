-- The feed is ready before each block.
use Rattle.std.proofs.Common.{arith}
use Rattle.sheet.proofs.Room.take_all.Goals as goal

pub loop-init : goal.loop-init
loop-init c = rw c.begin-f.ensures (record { room = omega arith; within = (omega arith, omega arith) })
