use Rattle.std.proofs.Common.{rules, ◌∙◌, arith}
use Rattle.std.specs.Iterator.Adapters.{enumerate_count}
use Rattle.fetch.proofs.Walks.{judged_here, judged_next, judged_end}
use Rattle.fetch.proofs.judging.judge_records.Goals as goal

pub loop-i-init : goal.loop-i-init
loop-i-init c =
    let same = c.into_iter-i-iterator.ensures.into_iter_gives in
    let each = c.enumerate-i-items.ensures in
    let all = c.records.ensures in
    record {
      can_next = search rules;
      is_finite = tt;
      size = rw (same, each.source) all.size;
      same = rw (same, each.source, each.count, all.rest);
    }

pub returns-in-Some-first_lacking : goal.returns-in-Some-first_lacking
returns-in-Some-first_lacking c =
    let a = c.args in
    let l = c.loop-i in
    let s = c.in-Some.ensures.steps in
    rw s.1
    (judged_here a.list.each _ _ c.records.ensures.some (s.0.1.1 ∙ l.invariant.size) s.0.1.0 a.set (enumerate_count l.i-iterator) c.with_record.ensures c.in-Some-first_lacking.ensures
    ∙ l.invariant.same)

pub loop-i-preserved : goal.loop-i-preserved
loop-i-preserved c =
    let a = c.args in
    let l = c.loop-i in
    let s = c.in-Some.ensures.steps in
    record {
      can_next = search rules;
      is_finite = tt;
      size = s.0.0 ∙ l.invariant.size;
      same =
          rw s.2
          (judged_next a.list.each _ _ c.records.ensures.some (s.0.1.1 ∙ l.invariant.size) s.0.1.0 a.set (enumerate_count l.i-iterator) c.with_record.ensures c.in_default.ensures
          ∙ l.invariant.same);
    }

pub returns : goal.returns
returns c =
    let l = c.loop-i in
    judged_end c.args.list.each _ (omega (arith, c.in-None.ensures.steps.0.1.0, l.invariant.size)) c.args.set (enumerate_count l.i-iterator)
    ∙ l.invariant.same
