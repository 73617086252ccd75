-- Bytes that are not refused are long enough.
use Rattle.laws.proofs.Answered.{passed}
use Rattle.record.proofs.Laws.{record_long}
use Rattle.record.proofs.Laws as laws
use Rattle.record.proofs.Record.from_bytes.Goals as goal

pub parse-requires : goal.parse-requires
parse-requires c = record_long c.args.b.now (laws.passed c.args.b.now (passed _ _ c.check.ensures c.in_ok-check.was)).is
