use Rattle.std.proofs.Common.{ap, ◌∙◌, arith}
use Rattle.std.specs.Slice.Iter.{chunks_exact_size}
use Rattle.records.specs.Lists.{records_in}
use Rattle.fetch.proofs.Walks.{joined_next, joined_end, joined_all}
use Rattle.fetch.proofs.judging.propose_records.Goals as goal

pub loop-record-init : goal.loop-record-init
loop-record-init c =
    let same = c.into_iter-record-iterator.ensures.into_iter_gives in
    let all = c.records-record-items.ensures in
    record {
      size = ap chunks_exact_size same ∙ all.size;
      same = rw (same, all.rest) (joined_all (records_in c.args.list.each c.args.list.bytes.now));
    }

pub loop-record-preserved : goal.loop-record-preserved
loop-record-preserved c =
    let l = c.loop-record in
    let s = c.in-Some.ensures.steps in
    record {
      size = s.0 ∙ l.invariant.size;
      same =
          joined_next c.args.list.each _ _ c.records-record-items.ensures.some (s.1.1 ∙ l.invariant.size) s.1.0 l.set c.with_record-set.ensures
          ∙ l.invariant.same;
    }

pub returns : goal.returns
returns c =
    let l = c.loop-record in
    joined_end c.args.list.each _ (omega (arith, c.in-None.ensures.steps.1.0, l.invariant.size)) l.set ∙ l.invariant.same
