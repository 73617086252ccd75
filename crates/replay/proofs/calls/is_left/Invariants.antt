-- Every byte before the place is as it must be.
use Rattle.std.proofs.Common.{◌≡◌, ℕ, ◌<◌, get_or}
use Rattle.replay.specs.Left.{left_at}
use Rattle.replay.proofs.calls.is_left.Given as goal

abbrev pub invariant-loop-i : goal.invariant-loop-i
invariant-loop-i l = (k : ℕ) → k < l.i → get_or l.buffer k 0 ≡ left_at l.start l.written k
