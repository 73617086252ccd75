-- The outcome of a call that writes, case by case: refused by what stands before the room, past the end, no room, written. They hold
-- for the bytes of anything, so that listing and visiting cite the same laws. Assumes nothing.
use Prim.Native.Nat.{ℕ, ◌-◌, ◌≤◌}
use native.Mathlib.Omega.{arith}
use mathlib.Core.Path.{◌≡◌, refl, sym, ◌∙◌}
use mathlib.Core.Bool.{Bool, true, false, not, cond}
use mathlib.Core.List.{List, [], ◌∷◌, ◌++◌}
use lib.ListN.{length}
use borrow.Author.Tests.{ne_eqb}
use Rattle.laws.specs.Tests.{first_of}
use Rattle.laws.specs.Lists.{each}
use Rattle.laws.specs.Lending.{Logged, lacks_room}
use Rattle.laws.proofs.Choice.{first_later}
use Rattle.laws.proofs.Every.{Every}
use Rattle.laws.proofs.Lending.{part, back, spliced, part_length}
use Rattle.everyday.specs.Rows.{unlisted}
use Rattle.record.specs.Records.{is_record, record_of, outside, lacks_digest, record_tests, record_refusal}
use Rattle.record.proofs.Laws.{passed}
use Rattle.definition.specs.Refusals.{no_room}
use Rattle.definition.specs.Visits.{outcome}
use Rattle.definition.specs.declared.Answer.TheVariants.{Done, Refused, Complex, Short}

-- A table of refusals in two parts: the first part refuses, or it passes and the second part decides
pub first_front : (ts us : List (Bool × ℕ)) {k : ℕ} → first_of ts ≡ k → (k ≡ 0 → ⊥) → first_of (ts ++ us) ≡ k
unfolding first_of
first_front [] us e ne = absurd (ne (sym e))
first_front ((true, n) ∷ ts) us e ne = e
first_front ((false, n) ∷ ts) us e ne = first_front ts us e ne

pub first_back : (ts us : List (Bool × ℕ)) → Every (λ t. t.0 ≡ false) ts → first_of (ts ++ us) ≡ first_of us
first_back [] us h = refl
first_back (t ∷ ts) us h = first_later t.0 t.1 (ts ++ us) h.0 ∙ first_back ts us h.1

-- The tests of a record's bytes stand first in the table of every call on a record: they refuse, or the others decide
module _ (b : List ℕ) (us : List (Bool × ℕ)) where
  pub by_record : (record_refusal b ≡ 0 → ⊥) → first_of (record_tests b ++ us) ≡ record_refusal b
  unfolding record_refusal
  by_record ne = first_front (record_tests b) us refl ne

  pub past_record : record_refusal b ≡ 0 → first_of (record_tests b ++ us) ≡ first_of us
  past_record e = let p = passed b e in first_back (record_tests b) us (rw p.is refl, (p.in_tables, (p.digested, tt)))

-- a number whose answer carries nothing but itself
abbrev pub Bare : ℕ → Type 0
Bare k = (k ≡ 0 → ⊥) × (k ≡ 4 → ⊥) × (k ≡ 7 → ⊥)

-- the refusal that a record's bytes give is one
pub bare_record : (b : List ℕ) → (record_refusal b ≡ 0 → ⊥) → Bare (record_refusal b)
unfolding record_refusal first_of
bare_record b ne = by (not (is_record b)) (outside (record_of b)) (lacks_digest b) ne
  where
    by : (s t u : Bool) → (cond {A = ℕ} s 1 (cond t 2 (cond u unlisted 0)) ≡ 0 → ⊥) → Bare (cond s 1 (cond t 2 (cond u unlisted 0)))
    by true t u ne = (ne, (λ e. omega arith), (λ e. omega arith))
    by false true u ne = (ne, (λ e. omega arith), (λ e. omega arith))
    by false false true ne = (ne, (λ e. omega arith), (λ e. omega arith))
    by false false false ne = (ne, (λ e. omega arith), (λ e. omega arith))

-- What a refusal number gives
module _ (opcode : ℕ) (bytes buffer : List ℕ) (start : ℕ) where
  pub refused : {number k : ℕ} → number ≡ k → Bare k → outcome number opcode bytes buffer start ≡ (Refused k, buffer)
  unfolding outcome
  refused {number} {k} e z = rw (e, ne_eqb k 0 z.0, ne_eqb k 4 z.1, ne_eqb k 7 z.2)

  pub refused_complex : {number : ℕ} → number ≡ 4 → outcome number opcode bytes buffer start ≡ (Complex opcode, buffer)
  unfolding outcome
  refused_complex e = rw e

  pub refused_short : {number : ℕ} → number ≡ 7 → outcome number opcode bytes buffer start ≡ (Short (length bytes), buffer)
  unfolding outcome
  refused_short e = rw e

-- The last test of the table: the room decides, for n bytes in a buffer from a start on
abbrev pub by_room : ℕ → List ℕ → ℕ → ℕ
by_room n buffer start = first_of ((no_room n buffer start, 7) ∷ [])

module _ (n : ℕ) (buffer : List ℕ) (start : ℕ) where
  pub too_short : lacks_room n start (length buffer) ≡ true → by_room n buffer start ≡ 7
  unfolding first_of no_room
  too_short h = rw h

  pub enough : lacks_room n start (length buffer) ≡ false → by_room n buffer start ≡ 0
  unfolding first_of no_room
  enough h = rw h

-- that room, in the part that is lent from the start on
pub lent_room : (buffer : List ℕ) (start : ℕ) {n : ℕ} → n ≤ length buffer - start → n ≤ length (part buffer start)
lent_room buffer start h = rw (part_length buffer start) h

-- nothing is refused, and a writer wrote the bytes to that part
pub written :
    {A : Type 0} {enc : A → List ℕ} {es : List A} (opcode : ℕ) (buffer : List ℕ) (start : ℕ) {number n : ℕ} {ys : List ℕ}
    → number ≡ 0 → Logged enc es (part buffer start) ys n → outcome number opcode (each enc es) buffer start ≡ (Done n, back buffer start ys)
unfolding outcome
written opcode buffer start e l = rw (e, l.count, spliced buffer start l)
