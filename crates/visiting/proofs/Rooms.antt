-- The same visit at another place: in the part of a buffer that is lent, and aside. Assumes nothing.
use Prim.Native.Nat.{ℕ, ◌+◌, ◌-◌, ◌≤◌, zero-le}
use native.Mathlib.Nat.{zero-add}
use native.Mathlib.Omega.{arith}
use mathlib.Core.Path.{◌≡◌, refl, sym, ap, subst, ◌∙◌}
use mathlib.Core.Bool.{Bool, true, false, cond}
use mathlib.Core.List.{List, [], ◌∷◌, ◌++◌, append_assoc}
use lib.Dec.{eqb, lit≤}
use lib.ListN.{length, take, drop, length-take, take-append-drop}
use borrow.Rule.Slice.PartMut.{put_mid}
use lib.Seq.{drop-drop, take_at}
use borrow.Author.Tests.{ne_eqb, eqb-true, eqb-false}
use Rattle.laws.proofs.Room.{has_left, has_room, room_for_less}
use Rattle.laws.specs.Tests.{first_of}
use Rattle.laws.specs.Lending.{lacks_room, splice}
use Rattle.laws.proofs.Lending.{part, back, part_is, back_is, part_length}
use Rattle.registers.specs.declared.RegisterFile.{RegisterFile}
use Rattle.record.specs.Records.{record_of, record_tests}
use Rattle.definition.specs.Limits.{most_bytes}
use Rattle.definition.specs.Behaviors.{complex}
use Rattle.definition.specs.Logs.{bytes_of}
use Rattle.definition.specs.Refusals.{nameless, sizeless, no_room}
use Rattle.definition.specs.Visits.{fixed_record, log_of, refusal_of, outcome, visit_by}
use Rattle.definition.specs.declared.Answer.{Answer}
use Rattle.definition.specs.declared.Answer.TheVariants.{Done, Refused, Complex, Short}
use Rattle.definition.proofs.Bounds.{log_bytes_lem}
use Rattle.definition.proofs.Outcomes.{first_front, first_back}
use Rattle.laws.proofs.Every.{first_zero}
use Rattle.visiting.specs.Laying.{Within, laid_out}

-- bytes laid over the part from a start on, and over a buffer from it on
pub spliced_part : (buffer : List ℕ) (start : ℕ) (bytes : List ℕ) → back buffer start (splice (part buffer start) 0 bytes) ≡ splice buffer start bytes
unfolding splice
spliced_part buffer start bytes =
    back_is buffer start (bytes ++ drop (0 + length bytes) (part buffer start))
    ∙ rw (zero-add (length bytes), part_is buffer start, drop-drop (length bytes) start buffer)
    (sym (append_assoc (take start buffer) bytes (drop (start + length bytes) buffer)))

-- nothing laid
pub same_part : (buffer : List ℕ) (start : ℕ) → back buffer start (part buffer start) ≡ buffer
same_part buffer start = back_is buffer start (part buffer start) ∙ rw (part_is buffer start) (take-append-drop start buffer)

-- room from 0 on, and in the part from a start on
from_0 : (n : ℕ) (buffer : List ℕ) → n ≤ length buffer → lacks_room n 0 (length buffer) ≡ false
from_0 n buffer h = has_room n 0 (length buffer) zero-le (omega arith)

pub has_lent : {n : ℕ} (start : ℕ) (buffer : List ℕ) → lacks_room n start (length buffer) ≡ false → n ≤ length (part buffer start)
has_lent {n} start buffer h = rw (part_length buffer start) (has_left n start (length buffer) h)

-- a last test that does not hold changes nothing
no_last : (ts : List (Bool × ℕ)) → first_of (ts ++ ((false, 7) ∷ [])) ≡ first_of ts
unfolding first_of
no_last [] = refl
no_last (t ∷ ts) = ap (cond t.0 t.1) (no_last ts)

module _ (bad : Bool) (b : List ℕ) (f : RegisterFile) where
  abbrev bytes : List ℕ
  bytes = bytes_of (log_of b f)

  -- the tests before the last
  abbrev tests : List (Bool × ℕ)
  tests =
      record_tests b
      ++ ((bad, 3) ∷ (complex (fixed_record b), 4) ∷ (nameless (fixed_record b), 5) ∷ (sizeless (fixed_record b), 6) ∷ [])

  abbrev by_last : Bool → ℕ
  by_last t = first_of (tests ++ ((t, 7) ∷ []))

  at_most : length bytes ≤ most_bytes
  unfolding log_of
  at_most = log_bytes_lem f (fixed_record b)

  number_is : (buffer : List ℕ) (start : ℕ) → refusal_of bad b f buffer start ≡ by_last (no_room (length bytes) buffer start)
  unfolding refusal_of
  number_is buffer start = refl

  enough : (buffer : List ℕ) (start : ℕ) → lacks_room most_bytes start (length buffer) ≡ false → refusal_of bad b f buffer start ≡ by_last false
  unfolding no_room
  enough buffer start h = number_is buffer start ∙ ap by_last (room_for_less most_bytes (length bytes) start (length buffer) at_most h)

  -- in the part from a start on
  shifted :
      (number opcode : ℕ) (buffer : List ℕ) (start : ℕ) {r : Answer} {ys : List ℕ}
      → ◌≡◌ {A = Answer × List ℕ} (r, ys) (outcome number opcode bytes (part buffer start) 0)
      → ◌≡◌ {A = Answer × List ℕ} (r, back buffer start ys) (outcome number opcode bytes buffer start)
  unfolding outcome
  shifted number opcode buffer start e = by (eqb number 0) (eqb number 4) (eqb number 7) e
    where
      by : (s t u : Bool) {r : Answer} {ys : List ℕ}
          → ◌≡◌ {A = Answer × List ℕ} (r, ys) (cond s (Done (length bytes), splice (part buffer start) 0 bytes) (cond t (Complex opcode, part buffer start) (cond u (Short (length bytes), part buffer start) (Refused number, part buffer start))))
          → ◌≡◌ {A = Answer × List ℕ} (r, back buffer start ys) (cond s (Done (length bytes), splice buffer start bytes) (cond t (Complex opcode, buffer) (cond u (Short (length bytes), buffer) (Refused number, buffer))))
      by true t u e = ap (λ (v : Answer × List ℕ). (v.0, back buffer start v.1)) e ∙ rw (spliced_part buffer start bytes)
      by false true u e = ap (λ (v : Answer × List ℕ). (v.0, back buffer start v.1)) e ∙ rw (same_part buffer start)
      by false false true e = ap (λ (v : Answer × List ℕ). (v.0, back buffer start v.1)) e ∙ rw (same_part buffer start)
      by false false false e = ap (λ (v : Answer × List ℕ). (v.0, back buffer start v.1)) e ∙ rw (same_part buffer start)

  pub lent_on :
      (buffer : List ℕ) (start : ℕ) {r : Answer} {ys : List ℕ} → lacks_room most_bytes start (length buffer) ≡ false
      → (r, ys) ≡ visit_by bad b f (part buffer start) 0 → (r, back buffer start ys) ≡ visit_by bad b f buffer start
  unfolding visit_by
  lent_on buffer start h e =
      rw (enough buffer start h)
      (shifted (by_last false) (record_of b).opcode buffer start (rw (enough (part buffer start) 0 (from_0 most_bytes (part buffer start) (has_lent start buffer h))) at e))

  -- aside: the last test decides alone where the others pass
  last_decides : (t : Bool) → by_last false ≡ 0 → by_last t ≡ cond t 7 0
  unfolding first_of
  last_decides true z =
      first_back tests ((true, 7) ∷ []) (first_zero tests (lit≤ tt, (lit≤ tt, (lit≤ tt, (lit≤ tt, (lit≤ tt, (lit≤ tt, (lit≤ tt, tt))))))) (sym (no_last tests) ∙ z))
  last_decides false z = z

  others_decide : (t : Bool) → (by_last false ≡ 0 → ⊥) → by_last t ≡ by_last false
  others_decide t ne = first_front tests ((t, 7) ∷ []) (sym (no_last tests)) ne

  laid_done :
      (opcode : ℕ) (aside buffer : List ℕ) (start : ℕ) (t : Bool)
      → cond t (Short (length bytes), buffer) (Done (length bytes), splice buffer start (take (length bytes) (splice aside 0 bytes))) ≡ outcome (cond t 7 0) opcode bytes buffer start
  unfolding outcome splice
  laid_done opcode aside buffer start true = refl
  laid_done opcode aside buffer start false = rw (take_at bytes (drop (0 + length bytes) aside) (length bytes) refl)

  laid_refused :
      (number opcode : ℕ) (aside buffer : List ℕ) (start : ℕ) → (number ≡ 0 → ⊥) → {r : Answer} {ys : List ℕ}
      → (r, ys) ≡ outcome number opcode bytes aside 0 → laid_out r ys buffer start ≡ outcome number opcode bytes buffer start
  unfolding outcome laid_out
  laid_refused number opcode aside buffer start ne e =
      ap (λ (v : Answer × List ℕ). laid_out v.0 v.1 buffer start) e ∙ rw (ne_eqb number 0 ne) (by (eqb number 4) (eqb number 7))
    where
      by : (t u : Bool)
          → laid_out (cond {A = Answer × List ℕ} t (Complex opcode, aside) (cond u (Short (length bytes), aside) (Refused number, aside))).0 (cond {A = Answer × List ℕ} t (Complex opcode, aside) (cond u (Short (length bytes), aside) (Refused number, aside))).1 buffer start
          ≡ cond t (Complex opcode, buffer) (cond u (Short (length bytes), buffer) (Refused number, buffer))
      by true u = refl
      by false true = refl
      by false false = refl

  done :
      (opcode : ℕ) (aside buffer : List ℕ) (start : ℕ)
      → laid_out (outcome 0 opcode bytes aside 0).0 (outcome 0 opcode bytes aside 0).1 buffer start ≡ outcome (cond (no_room (length bytes) buffer start) 7 0) opcode bytes buffer start
  unfolding outcome laid_out
  done opcode aside buffer start = laid_done opcode aside buffer start (no_room (length bytes) buffer start)

  laid :
      (number opcode : ℕ) (aside buffer : List ℕ) (start : ℕ) {r : Answer} {ys : List ℕ}
      → number ≡ by_last false → (r, ys) ≡ outcome number opcode bytes aside 0
      → laid_out r ys buffer start ≡ outcome (by_last (no_room (length bytes) buffer start)) opcode bytes buffer start
  laid number opcode aside buffer start {r} {ys} k e = by (eqb number 0) refl
    where
      t : Bool
      t = no_room (length bytes) buffer start

      by : (s : Bool) → eqb number 0 ≡ s → laid_out r ys buffer start ≡ outcome (by_last t) opcode bytes buffer start
      by true z =
          let zero_is = eqb-true number 0 z in
          ap (λ (v : Answer × List ℕ). laid_out v.0 v.1 buffer start) (rw zero_is at e)
          ∙ done opcode aside buffer start ∙ rw (last_decides t (sym k ∙ zero_is)) refl
      by false z =
          let ne = eqb-false number 0 z in
          laid_refused number opcode aside buffer start ne e ∙ rw (others_decide t (rw k at ne), k)

  pub laid_is :
      (aside buffer : List ℕ) (start : ℕ) {r : Answer} {ys : List ℕ} → most_bytes ≤ length aside → (r, ys) ≡ visit_by bad b f aside 0
      → laid_out r ys buffer start ≡ visit_by bad b f buffer start
  unfolding visit_by
  laid_is aside buffer start h e =
      rw (number_is buffer start) (laid (refusal_of bad b f aside 0) (record_of b).opcode aside buffer start (enough aside 0 (from_0 most_bytes aside h)) e)

  -- and no more is counted than aside has room for
  within : (number opcode : ℕ) (aside : List ℕ) → Within (outcome number opcode bytes aside 0).0 most_bytes
  unfolding outcome
  within number opcode aside = by (eqb number 0) (eqb number 4) (eqb number 7)
    where
      by : (s t u : Bool)
          → Within (cond {A = Answer × List ℕ} s (Done (length bytes), splice aside 0 bytes) (cond t (Complex opcode, aside) (cond u (Short (length bytes), aside) (Refused number, aside)))).0 most_bytes
      by true t u = at_most
      by false true u = tt
      by false false true = tt
      by false false false = tt

  pub within_is : (aside : List ℕ) {r : Answer} {ys : List ℕ} → (r, ys) ≡ visit_by bad b f aside 0 → Within r most_bytes
  unfolding visit_by
  within_is aside e = subst (λ (v : Answer × List ℕ). Within v.0 most_bytes) (sym e) (within (refusal_of bad b f aside 0) (record_of b).opcode aside)

pub took : (n : ℕ) (l : List ℕ) → n ≤ length l → n ≡ length (take n l)
took n l h = simp length-take (omega arith)

n_left : (start n : ℕ) → start + n - start ≡ n
n_left start n = omega arith

-- what was written aside has no room, or is laid
module _ {answer : Answer} {n : ℕ} (e : answer ≡ Done n) (aside buffer : List ℕ) (start : ℕ) where
  pub too_short : lacks_room n start (length buffer) ≡ true → ◌≡◌ {A = Answer × List ℕ} (Short n, buffer) (laid_out answer aside buffer start)
  unfolding laid_out no_room
  too_short h = rw (e, h)

  same : {a b : List ℕ} → a ≡ b → ◌≡◌ {A = Answer × List ℕ} (Done n, a) (Done n, b)
  same p = rw p

  pub laid_here :
      {ys : List ℕ} → lacks_room n start (length buffer) ≡ false → n ≤ length aside → ys ≡ take n aside
      → ◌≡◌ {A = Answer × List ℕ} (Done n, put_mid start (start + n - start) buffer ys) (laid_out answer aside buffer start)
  unfolding laid_out no_room splice
  laid_here {ys} h w q = rw (e, h, sym (took n aside w)) (same (ap (put_mid start (start + n - start) buffer) q ∙ rw (n_left start n, drop-drop n start buffer) (sym (append_assoc (take start buffer) (take n aside) (drop (start + n) buffer)))))
