-- WHAT IS PROMISED of the numbers that the judge and the proposer answer, each statement after its sentence. proofs/Proved.antt proves
-- them all.
use Rattle.std.specs.Prelude.{ℕ, ◌^◌, ◌<◌, ◌≡◌, Result}
use Rattle.laws.specs.declared.refusals.Refusal.{Refusal}
use Rattle.answers.specs.Promises.{bits_at}
use Rattle.fetching.specs.declared.Judgement.{Judgement}
use Rattle.fetch.specs.Answers.{judgement_number, accepted_bit, lacked_bit, lacking_record, judgement_bits, proposal_number, proposed_set, proposal_bits}

-- THE JUDGE'S ANSWER UNPACKS. Its number, whether the set is accepted, the bit and the record that are lacking are read back.
abbrev pub JudgementUnpacks : Type 0
JudgementUnpacks =
    (j : Result Judgement Refusal) → judgement_number j < 2 ^ 8 → lacked_bit j < 2 ^ 8 → lacking_record j < 2 ^ 32
    → (bits_at 0 8 (judgement_bits j) ≡ judgement_number j)
    × (bits_at 8 1 (judgement_bits j) ≡ accepted_bit j)
    × (bits_at 16 8 (judgement_bits j) ≡ lacked_bit j)
    × (bits_at 32 32 (judgement_bits j) ≡ lacking_record j)

-- SO DOES THE PROPOSER'S: its number and the set.
abbrev pub ProposalUnpacks : Type 0
ProposalUnpacks =
    (p : Result ℕ Refusal) → proposal_number p < 2 ^ 8 → proposed_set p < 2 ^ 32
    → (bits_at 0 8 (proposal_bits p) ≡ proposal_number p) × (bits_at 32 32 (proposal_bits p) ≡ proposed_set p)
