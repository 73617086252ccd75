-- What the calls on bytes answer: refusals 1 and 2 of the record, 3 of the file, and else what visiting the record does. Assumes nothing.
use Prim.Native.Nat.{ℕ}
use native.Mathlib.Omega.{arith}
use mathlib.Core.Path.{◌≡◌, refl, sym, ap, ◌∙◌}
use mathlib.Core.List.{List, [], ◌∷◌}
use mathlib.Core.Bool.{Bool, true, false, not}
use lib.ListN.{length}
use Rattle.laws.proofs.Choice.{first_here, first_later}
use Rattle.registers.specs.Files.{file_of, is_file}
use Rattle.registers.specs.Told.{file_refusal}
use Rattle.registers.specs.declared.RegisterFile.{RegisterFile}
use Rattle.registers.proofs.Answers.{is_file_lem, is_none}
use Rattle.record.specs.Records.{record_of, record_refusal}
use Rattle.record.specs.declared.Record.{Record}
use Rattle.definition.specs.Behaviors.{fixed_up, complex}
use Rattle.definition.specs.Logs.{bytes_of}
use Rattle.definition.specs.Refusals.{nameless, sizeless, no_room}
use Rattle.definition.specs.Visits.{log_of, fixed_record, refusal_of, outcome, visit_by}
use Rattle.definition.specs.declared.Answer.TheVariants.{Refused}
use Rattle.definition.proofs.Outcomes.{by_record, past_record, bare_record, refused}
use Rattle.visiting.specs.Records.{log_bytes, first_refusal, refusal_in, visit_record}

module _ (b : List ℕ) (f : RegisterFile) (buffer : List ℕ) (start : ℕ) where
  -- the table from 4 on, and from 3 on
  abbrev from_four : List (Bool × ℕ)
  from_four =
      (complex (fixed_record b), 4)
      ∷ (nameless (fixed_record b), 5)
      ∷ (sizeless (fixed_record b), 6)
      ∷ (no_room (length (bytes_of (log_of b f))) buffer start, 7)
      ∷ []

  abbrev from_three : Bool → List (Bool × ℕ)
  from_three bad = (bad, 3) ∷ from_four

  record_refuses : (bad : Bool) → (record_refusal b ≡ 0 → ⊥) → visit_by bad b f buffer start ≡ (Refused (record_refusal b), buffer)
  unfolding visit_by refusal_of
  record_refuses bad ne = refused (record_of b).opcode (bytes_of (log_of b f)) buffer start (by_record b (from_three bad) ne) (bare_record b ne)

  file_refuses : record_refusal b ≡ 0 → visit_by true b f buffer start ≡ (Refused 3, buffer)
  unfolding visit_by refusal_of
  file_refuses z =
      refused (record_of b).opcode (bytes_of (log_of b f)) buffer start
      (past_record b (from_three true) z ∙ first_here true 3 from_four refl)
      ((λ e. omega arith), (λ e. omega arith), (λ e. omega arith))

  both_pass : record_refusal b ≡ 0 → visit_by false b f buffer start ≡ visit_record (fixed_record b) f buffer start
  unfolding visit_by refusal_of visit_record refusal_in first_refusal log_bytes log_of no_room fixed_up
  both_pass z =
      ap (λ (n : ℕ). outcome n (record_of b).opcode (bytes_of (log_of b f)) buffer start)
      (past_record b (from_three false) z ∙ first_later false 3 from_four refl)

-- The same by the refusals that were found
module _ (b : List ℕ) (buffer : List ℕ) (start : ℕ) where
  pub bad_record : {r : ℕ} (bad : Bool) (f : RegisterFile) → r ≡ record_refusal b → (r ≡ 0 → ⊥) → (Refused r, buffer) ≡ visit_by bad b f buffer start
  bad_record bad f e ne = rw e (sym (record_refuses b f buffer start bad (rw e at ne)))

  pub visited :
      {x : Record} (f : RegisterFile) → record_refusal b ≡ 0 → x ≡ record_of b
      → visit_record (fixed_up x) f buffer start ≡ visit_by false b f buffer start
  visited f z p = rw p (sym (both_pass b f buffer start z))

  pub bad_file_lem :
      {r u : ℕ} (file : List ℕ) → r ≡ record_refusal b → r ≡ 0 → u ≡ file_refusal file → (u ≡ 0 → ⊥)
      → (Refused u, buffer) ≡ visit_by (not (is_file file)) b (file_of file) buffer start
  unfolding file_refusal
  bad_file_lem file e z p ne = rw (p, is_none file (rw p at ne)) (sym (file_refuses b (file_of file) buffer start (sym e ∙ z)))

  -- a file that passed, and what was parsed of it
  pub good_file :
      {u : ℕ} {f : RegisterFile} (file : List ℕ) → u ≡ file_refusal file → u ≡ 0 → f ≡ file_of file
      → visit_by false b f buffer start ≡ visit_by (not (is_file file)) b (file_of file) buffer start
  good_file file p q j = rw (is_file_lem file (sym p ∙ q), j)
