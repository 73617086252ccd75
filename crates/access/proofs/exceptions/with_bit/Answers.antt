-- The bit is taken off, and then added where it is to be set.
use mathlib.Core.Bool.{true}
use Rattle.access.proofs.Bits.{without_bit, within_bit, bit_bound}
use Rattle.access.proofs.exceptions.with_bit.Goals as goal

pub overflow_add-result : goal.overflow_add-result
overflow_add-result c =
    let a = c.args in
    record { fits = rw (within_bit a.set a.k c.requires) (bit_bound a.set a.k true c.requires c.ranges.set.fits) }

pub returns-then-b : goal.returns-then-b
returns-then-b c = rw c.if-b.true (within_bit c.args.set c.args.k c.requires)

pub returns-else-b : goal.returns-else-b
returns-else-b c = rw c.if-b.false (without_bit c.args.set c.args.k c.requires)
