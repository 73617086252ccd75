use Rattle.answers.proofs.Counts.{listing_fits}
use Rattle.machhurel.proofs.calls.machhurel_listing.Goals as goal

pub answer_bits-requires : goal.answer_bits-requires
answer_bits-requires c = listing_fits _ _ _ c.list_operands.ensures
