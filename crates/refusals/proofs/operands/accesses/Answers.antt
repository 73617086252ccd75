use Rattle.std.proofs.Common.{arith}
use Rattle.definition.proofs.Operands.{operands_length}
use Rattle.refusals.proofs.Walk.{all_left, none_left, hit, miss, unaccessed}
use Rattle.refusals.proofs.operands.accesses.Goals.{else-is_accessed-via-then-is_accessed+else-test, else-is_accessed-via-else-is_accessed}
use Rattle.refusals.proofs.operands.accesses.Goals as goal

pub loop-i-init : goal.loop-i-init
loop-i-init g c = λ p asked. all_left p c.args.x

pub returns-then-x-i : goal.returns-then-x-i
returns-then-x-i g c = λ p asked.
    let x = c.args.x in
    none_left p x (c.loop-i.invariant p asked) (omega (arith, operands_length x))

pub returns-then-test : goal.returns-then-test
returns-then-test g c = λ p asked.
    let x = c.args.x in
    hit p x (c.loop-i.invariant p asked) (omega (arith, operands_length x)) c.is_accessed.ensures
    c.spec.ensures (asked _ _ c.test.ensures) c.if-is_accessed.true c.if-test.true

pub loop-i-preserved : goal.loop-i-preserved
loop-i-preserved g c = λ p asked.
    let x = c.args.x in
    elim c.else-is_accessed.branch [
      | else-is_accessed-via-then-is_accessed+else-test w ↦
          miss p x (c.loop-i.invariant p asked) (omega (arith, operands_length x)) c.is_accessed.ensures
          w.spec.ensures (asked _ _ w.test.ensures) w.if-is_accessed.true w.if-test.false
      | else-is_accessed-via-else-is_accessed w ↦
          unaccessed p x (c.loop-i.invariant p asked) (omega (arith, operands_length x)) c.is_accessed.ensures w.if-is_accessed.false
    ]

pub returns : goal.returns
returns g c = λ p asked.
    let x = c.args.x in
    none_left p x (c.loop-i.invariant p asked) (omega (arith, operands_length x))
