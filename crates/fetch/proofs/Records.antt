-- The needs of a record by how its visit is refused. Assumes nothing.
use Prim.Native.Nat.{ℕ}
use mathlib.Core.Path.{◌≡◌, refl, sym, ap, ◌∙◌}
use mathlib.Core.List.{List, [], ◌∷◌}
use mathlib.Core.Bool.{Bool, true, false, not}
use lib.ListN.{replicate, set}
use lib.Dec.{eqb}
use borrow.Author.Tests.{ne_eqb, eq-eqb, eqb-true, eqb-false, not-true, not-false}
use Rattle.laws.specs.Words.{number_at}
use Rattle.laws.specs.Lists.{each}
use Rattle.sets.specs.Sets.{joined}
use Rattle.sets.proofs.Joined.{joined_append}
use Rattle.registers.specs.Files.{file_kind, file_bytes, file_values, file_length, numbers_from, is_file, file_of, no_file}
use Rattle.record.specs.Records.{record_refusal}
use Rattle.record.specs.declared.Record.{Record}
use Rattle.definition.specs.Limits.{most_bytes}
use Rattle.definition.specs.Behaviors.{complex, operands_of}
use Rattle.definition.specs.Refusals.{nameless, sizeless}
use Rattle.definition.specs.Steps.{steps_of}
use Rattle.definition.specs.Visits.{fixed_record, visit_by, number_of}
use Rattle.definition.specs.declared.Answer.{Answer}
use Rattle.definition.proofs.Outcomes.{by_record}
use Rattle.fetching.specs.Needs.{step_needs, refusal_alone, needs_of}
use Rattle.fetching.proofs.Alone.{alone_is}
use Rattle.fetch.specs.Parts.{operand_needs, list_needs}
use Rattle.fetch.proofs.Parts.{record_needs}

-- the bytes of a file that knows nothing
abbrev nothing : List ℕ
nothing = set (replicate file_bytes 0) 0 file_kind

is_good_lem : is_file nothing ≡ true
unfolding is_file file_length file_values number_at
is_good_lem = refl

knows_nothing : file_of nothing ≡ no_file
unfolding file_of no_file numbers_from number_at
knows_nothing = refl

pub visited_alone :
    (b : List ℕ) {a : Answer} {l : List ℕ} → (a, l) ≡ visit_by (not (is_file nothing)) b (file_of nothing) (replicate most_bytes 0) 0
    → number_of a ≡ refusal_alone b
unfolding refusal_alone
visited_alone b e = ap (λ (o : Answer × List ℕ). number_of o.0) (rw (is_good_lem, knows_nothing) at e)

module _ (b : List ℕ) where
  abbrev after_record : List (Bool × ℕ)
  after_record = (complex (fixed_record b), 4) ∷ (nameless (fixed_record b), 5) ∷ (sizeless (fixed_record b), 6) ∷ []

  pub none_needed : (refusal_alone b ≡ 0 → ⊥) → needs_of b ≡ []
  unfolding needs_of
  none_needed ne = rw (ne_eqb (refusal_alone b) 0 ne)

  all_needed : refusal_alone b ≡ 0 → needs_of b ≡ each step_needs (steps_of (fixed_record b))
  unfolding needs_of
  all_needed e = rw (eq-eqb (refusal_alone b) 0 e)

  -- by the test that code makes
  pub is_refused_lem : not (eqb (refusal_alone b) 0) ≡ true → refusal_alone b ≡ 0 → ⊥
  is_refused_lem t = eqb-false (refusal_alone b) 0 (not-true (eqb (refusal_alone b) 0) t)

  pub not_refused : not (eqb (refusal_alone b) 0) ≡ false → refusal_alone b ≡ 0
  not_refused t = eqb-true (refusal_alone b) 0 (not-false (eqb (refusal_alone b) 0) t)

  -- the record's own refusals come first
  pub record_passes : refusal_alone b ≡ 0 → record_refusal b ≡ 0
  record_passes e = by (eqb (record_refusal b) 0) refl
    where
      by : (t : Bool) → eqb (record_refusal b) 0 ≡ t → record_refusal b ≡ 0
      by true h = eqb-true (record_refusal b) 0 h
      by false h = let ne = eqb-false (record_refusal b) 0 h in sym (by_record b after_record ne) ∙ sym (alone_is b) ∙ e

  -- what the code joins
  module _ (set : ℕ) where
    pub refused : (refusal_alone b ≡ 0 → ⊥) → set ≡ joined set (needs_of b)
    unfolding joined
    refused ne = rw (none_needed ne)

    pub good_record :
        {x : Record} {s t : ℕ} → refusal_alone b ≡ 0 → x ≡ fixed_record b → s ≡ joined set (list_needs x.digest.extra)
        → t ≡ joined s (each (operand_needs x) (operands_of x)) → t ≡ joined set (needs_of b)
    good_record {x} z fixed p q =
        rw (
          all_needed z,
          ← fixed,
          record_needs x,
          joined_append set (list_needs x.digest.extra) (each (operand_needs x) (operands_of x)),
          ← p,
        ) q
