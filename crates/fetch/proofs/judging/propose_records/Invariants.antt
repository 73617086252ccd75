-- Joined with the needs of the records that are left, the set is the proposed one.
use Rattle.std.proofs.Common.{◌≡◌}
use Rattle.std.specs.Slice.Iter.{chunks_exact_rest, chunks_exact_size}
use Rattle.laws.specs.Lists.{each}
use Rattle.sets.specs.Sets.{joined}
use Rattle.records.specs.Lists.{records_in}
use Rattle.fetching.specs.Needs.{needs_of}
use Rattle.fetching.specs.Judging.{proposed}
use Rattle.fetch.proofs.judging.propose_records.Given as goal

abbrev pub invariant-loop-record : goal.invariant-loop-record
invariant-loop-record l =
    record {
      size : chunks_exact_size l.record-iterator ≡ l.list.each;
      same : joined l.set (each needs_of (records_in l.list.each (chunks_exact_rest l.record-iterator))) ≡ proposed (records_in l.list.each l.list.bytes.now);
    }
