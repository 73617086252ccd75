use Rattle.std.proofs.Common.{arith}
use Rattle.records.proofs.Cuts.{listed}
use Rattle.records.proofs.lists.RecordList.records.Goals as goal

pub chunks_exact-requires : goal.chunks_exact-requires
chunks_exact-requires c = omega (arith, (listed _ _ c.args.self.listed).some)

pub returns-clause-some : goal.returns-clause-some
returns-clause-some c = (listed _ _ c.args.self.listed).some
