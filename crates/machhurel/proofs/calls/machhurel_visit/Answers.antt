use Rattle.answers.proofs.Counts.{visit_fits}
use Rattle.machhurel.proofs.calls.machhurel_visit.Goals as goal

pub answer_bits-requires : goal.answer_bits-requires
answer_bits-requires c = visit_fits _ _ _ _ _ c.visit_accesses.ensures
