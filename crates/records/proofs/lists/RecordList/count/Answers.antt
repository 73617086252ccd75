use Rattle.records.proofs.Cuts.{listed}
use Rattle.records.proofs.lists.RecordList.count.Goals as goal

pub nonzero_div-result : goal.nonzero_div-result
nonzero_div-result c = (listed _ _ c.args.self.listed).some

pub returns-clause-few : goal.returns-clause-few
returns-clause-few c = (listed _ _ c.args.self.listed).few
