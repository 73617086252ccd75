use Rattle.std.proofs.Common.{◌≡◌, ℕ, ◌*◌, ◌/◌, ◌%◌, ◌^◌, ◌<◌, ◌≤◌, arith}
use lib.Dec.{lit≤}
use lib.Count.{count_trailing_zeros}
use Rattle.laws.proofs.Lending.{next, fits, whole}
use Rattle.record.specs.Records.{record_of, spec_at}
use Rattle.steps.specs.Parts.{way_of}
use Rattle.steps.proofs.Lent.{lent_part}
use Rattle.steps.proofs.Bits.{part_of, shifted, lowest_in, no_bits, begun, next_bit}
use Rattle.steps.proofs.explicit.put_operands.Goals as goal

-- the lowest set bit is one of eight, and a shift makes it
module _ (r : ℕ) (ne : r ≡ 0 → ⊥) (h : r < 256) where
  abbrev t : ℕ
  t = count_trailing_zeros 32 r

  low : (t < 8) × (2 ^ t ≤ r)
  low = lowest_in 8 32 r (lit≤ tt) (omega (arith, ne)) h

  bit : 1 * 2 ^ t % 2 ^ 32 ≡ 2 ^ t
  bit = shifted t (omega (arith, low.0))

pub loop-rest-init : goal.loop-rest-init
loop-rest-init c =
    (c.parts_of-rest.ensures.1, begun c.args.x c.args.at c.args.log.now c.parts_of-rest.ensures.0 c.requires.1 c.well_formed.0.0)

pub put_based-k-requires : goal.put_based-k-requires
put_based-k-requires c =
    let a = c.args in
    let l = c.loop-rest in
    let p = t l.rest c.loop-rest-test.true l.invariant.0 in (
      c.requires.0.0,
      rw (c.spec.ensures, c.way_of.ensures, lent_part a.x (record_of a.b.now) a.x.digest c.requires.0.1 (way_of p) a.at (spec_at a.x (p / 2)))
          (fits (rw (next_bit a.x a.at l.rest c.loop-rest-test.true l.invariant.0) at l.invariant.1)),
    )

pub overflow_sub-rest : goal.overflow_sub-rest
overflow_sub-rest c =
    let l = c.loop-rest in
    rw (bit l.rest c.loop-rest-test.true l.invariant.0) (low l.rest c.loop-rest-test.true l.invariant.0).1

pub loop-rest-preserved : goal.loop-rest-preserved
loop-rest-preserved c =
    let a = c.args in
    let l = c.loop-rest in
    let p = t l.rest c.loop-rest-test.true l.invariant.0 in
    rw (bit l.rest c.loop-rest-test.true l.invariant.0) (
      omega (arith, l.invariant.0),
      next (rw (next_bit a.x a.at l.rest c.loop-rest-test.true l.invariant.0) at l.invariant.1) (rw (c.spec.ensures, c.way_of.ensures, lent_part a.x (record_of a.b.now) a.x.digest c.requires.0.1 (way_of p) a.at (spec_at a.x (p / 2))) at c.put_based-k.ensures),
    )

pub returns : goal.returns
returns c = whole (rw (c.loop-rest-test.false, no_bits (part_of c.args.x c.args.at) 8 0) at c.loop-rest.invariant.1)
