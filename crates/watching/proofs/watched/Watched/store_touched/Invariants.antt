-- The bits are those of the bytes from i on. Assumes nothing.
use Rattle.std.proofs.Common.{◌≡◌, ◌-◌}
use Rattle.sets.specs.Sets.{bits_from}
use Rattle.watching.proofs.Touched.{touching}
use Rattle.watching.proofs.watched.Watched.store_touched.Given as goal

abbrev pub invariant-loop-i : goal.invariant-loop-i
invariant-loop-i l = l.bits ≡ bits_from (touching l.v l.a l.n) l.i (l.v.length - l.i)
