-- Which bits of an answer hold what.
use Rattle.std.specs.Prelude.{ℕ, ◌+◌, Result, Ok, Err}
use Rattle.laws.specs.Refusals.{refused_by}
use Rattle.laws.specs.declared.refusals.Refusal.{Refusal}
use Rattle.answers.specs.Answers.{at}
use Rattle.fetching.specs.declared.Judgement.{Judgement}
use Rattle.fetching.specs.declared.Judgement.TheVariants as judged

-- the parts of an answer: a refusal's number, whether the set is accepted, the bit and the record that are lacking
abbrev pub judgement_number : Result Judgement Refusal → ℕ
judgement_number j = refused_by j

abbrev pub accepted_bit : Result Judgement Refusal → ℕ
accepted_bit (Ok judged.Accepted) = 1
accepted_bit (Ok judged.NoSuchBit) = 0
accepted_bit (Ok (judged.Lacking i k)) = 0
accepted_bit (Err r) = 0

abbrev pub lacked_bit : Result Judgement Refusal → ℕ
lacked_bit (Ok judged.Accepted) = 0
lacked_bit (Ok judged.NoSuchBit) = 0
lacked_bit (Ok (judged.Lacking i k)) = k
lacked_bit (Err r) = 0

abbrev pub lacking_record : Result Judgement Refusal → ℕ
lacking_record (Ok judged.Accepted) = 0
lacking_record (Ok judged.NoSuchBit) = 0
lacking_record (Ok (judged.Lacking i k)) = i
lacking_record (Err r) = 0

unfoldable pub judgement_bits : Result Judgement Refusal → ℕ
judgement_bits j = judgement_number j + at 8 (accepted_bit j) + at 16 (lacked_bit j) + at 32 (lacking_record j)

-- a refusal's number, and the set
abbrev pub proposal_number : Result ℕ Refusal → ℕ
proposal_number p = refused_by p

abbrev pub proposed_set : Result ℕ Refusal → ℕ
proposed_set (Ok v) = v
proposed_set (Err r) = 0

unfoldable pub proposal_bits : Result ℕ Refusal → ℕ
proposal_bits p = proposal_number p + at 32 (proposed_set p)
