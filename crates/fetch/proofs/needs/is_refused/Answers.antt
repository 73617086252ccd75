use Rattle.std.proofs.Common.{◌∙◌}
use Rattle.fetch.proofs.Records.{visited_alone}
use Rattle.fetch.proofs.needs.is_refused.Goals as goal

pub returns : goal.returns
returns c = rw (c.number_of.ensures ∙ visited_alone c.args.b.now c.visit_accesses.ensures)
