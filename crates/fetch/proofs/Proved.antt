-- Every statement of specs/Promises.antt, proved: each part stands at bits of its own. Assumes nothing.
use Prim.Native.Nat.{◌<◌}
use native.Mathlib.Omega.{arith}
use Rattle.std.proofs.Common.{Result, Ok, Err}
use Rattle.laws.specs.declared.refusals.Refusal.{Refusal}
use Rattle.fetching.specs.declared.Judgement.{Judgement}
use Rattle.fetching.specs.declared.Judgement.TheVariants.{Accepted, NoSuchBit, Lacking}
use Rattle.fetch.specs.Answers.{accepted_bit, judgement_bits, proposal_bits}
use Rattle.fetch.specs.Promises as promised

one_bit : (j : Result Judgement Refusal) → accepted_bit j < 2
one_bit (Ok Accepted) = omega arith
one_bit (Ok NoSuchBit) = omega arith
one_bit (Ok (Lacking i k)) = omega arith
one_bit (Err r) = omega arith

pub judgement_unpacks : promised.JudgementUnpacks
unfolding judgement_bits
judgement_unpacks j n k i =
    let a = one_bit j in (omega (arith, a), omega (arith, a), omega (arith, a), omega (arith, a))

pub proposal_unpacks : promised.ProposalUnpacks
unfolding proposal_bits
proposal_unpacks p n v = (omega arith, omega arith)
