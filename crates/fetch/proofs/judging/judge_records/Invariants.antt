-- No record before i lacks a register, so those that are left decide.
use Rattle.std.proofs.Common.{◌≡◌}
use Rattle.std.specs.Iterator.Adapters.{enumerate_source, enumerate_count}
use Rattle.std.specs.Slice.Iter.{chunks_exact_rest, chunks_exact_size}
use Rattle.records.specs.Lists.{records_in}
use Rattle.fetching.specs.Judging.{judge_from}
use Rattle.fetch.proofs.judging.judge_records.Given as goal

abbrev pub invariant-loop-i : goal.invariant-loop-i
invariant-loop-i l =
    record {
      can_next : (goal.iterator-loop-i).can_next l.i-iterator;
      is_finite : (goal.iterator-loop-i).is_finite l.i-iterator;
      size : chunks_exact_size (enumerate_source l.i-iterator) ≡ l.list.each;
      same : judge_from l.set (enumerate_count l.i-iterator) (records_in l.list.each (chunks_exact_rest (enumerate_source l.i-iterator)))
          ≡ judge_from l.set 0 (records_in l.list.each l.list.bytes.now);
    }
