-- The count of an answer is at most the bytes that its call can write, so that it fits its bits. Assumes nothing.
use Prim.Native.Nat.{ℕ, ◌^◌, ◌<◌}
use native.Mathlib.Omega.{arith}
use mathlib.Core.Path.{◌≡◌, ap}
use mathlib.Core.Bool.{Bool}
use mathlib.Core.List.{List}
use lib.ListN.{length}
use lib.Dec.{eqb}
use Rattle.std.proofs.lemmas.Bool.{cond_both}
use Rattle.registers.specs.declared.RegisterFile.{RegisterFile}
use Rattle.record.specs.Records.{record_of}
use Rattle.definition.specs.Logs.{bytes_of}
use Rattle.definition.specs.Visits.{count_of, fixed_record, log_of, refusal_of, outcome, visit_by}
use Rattle.definition.specs.Listings.{listing_of, listing_refusal, listing_call}
use Rattle.definition.specs.declared.Answer.{Answer}
use Rattle.definition.proofs.Bounds.{log_bytes_lem}
use Rattle.definition.proofs.ListingBound.{listing_bytes}

abbrev Fits : Answer × List ℕ → Type 0
Fits o = count_of o.0 < 2 ^ 32

outcome_fits : (number opcode : ℕ) (bytes buffer : List ℕ) (start : ℕ) → length bytes < 2 ^ 32 → Fits (outcome number opcode bytes buffer start)
unfolding outcome
outcome_fits number opcode bytes buffer start h =
    cond_both (eqb number 0) _ _ Fits (λ t. h) (λ t. cond_both (eqb number 4) _ _ Fits (λ u. omega arith) (λ u. cond_both (eqb number 7) _ _ Fits (λ v. h) (λ v. omega arith)))

pub listing_fits : (b buffer : List ℕ) (start : ℕ) {a : Answer} {out : List ℕ} → (a, out) ≡ listing_call b buffer start → count_of a < 2 ^ 32
unfolding listing_call
listing_fits b buffer start e =
    rw (ap (λ (o : Answer × List ℕ). o.0) e)
    (outcome_fits (listing_refusal b buffer start) (record_of b).opcode (listing_of (fixed_record b)) buffer start (omega (arith, listing_bytes (fixed_record b))))

pub visit_fits :
    (bad : Bool) (b : List ℕ) (f : RegisterFile) (buffer : List ℕ) (start : ℕ) {a : Answer} {log : List ℕ}
    → (a, log) ≡ visit_by bad b f buffer start → count_of a < 2 ^ 32
unfolding visit_by log_of
visit_fits bad b f buffer start e =
    rw (ap (λ (o : Answer × List ℕ). o.0) e)
    (outcome_fits (refusal_of bad b f buffer start) (record_of b).opcode (bytes_of (log_of b f)) buffer start (omega (arith, log_bytes_lem f (fixed_record b))))
