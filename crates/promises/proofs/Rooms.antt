-- Refusal 7: the last test of a table, which the longest log or listing never meets, and what it says of another buffer. Assumes nothing.
use Prim.Native.Nat.{ℕ, ◌+◌, ◌≤◌, ◌<◌}
use native.Mathlib.Omega.{arith}
use mathlib.Core.Path.{◌≡◌, refl, ap, ◌∙◌}
use mathlib.Core.List.{List, [], ◌∷◌, ◌++◌}
use mathlib.Core.Bool.{Bool, true, false, cond}
use borrow.Author.Tests.{ne_eqb}
use lib.ListN.{length}
use lib.Dec.{eqb}
use Rattle.laws.specs.Lending.{lacks_room}
use Rattle.laws.specs.Tests.{first_of}
use Rattle.laws.proofs.Every.{Every}
use Rattle.laws.proofs.Room.{has_room, lacks_room_lem}
use Rattle.registers.specs.declared.RegisterFile.{RegisterFile}
use Rattle.record.specs.Records.{record_of, record_tests}
use Rattle.definition.specs.Behaviors.{complex}
use Rattle.definition.specs.Limits.{most_bytes, most_listed}
use Rattle.definition.specs.Logs.{bytes_of}
use Rattle.definition.specs.Refusals.{nameless, sizeless, no_room}
use Rattle.definition.specs.Visits.{fixed_record, log_of, refusal_of, outcome, visit_by}
use Rattle.definition.specs.Listings.{listing_of, listing_refusal, listing_call}
use Rattle.definition.specs.declared.Answer.{Answer}
use Rattle.definition.specs.declared.Answer.TheVariants.{Done, Refused, Complex, Short}
use Rattle.definition.proofs.Bounds.{log_bytes_lem}
use Rattle.definition.proofs.ListingBound.{listing_bytes}
use Rattle.definition.proofs.Outcomes.{refused_short}
use Rattle.promises.specs.Calls.{Retried, unroomed}
use Rattle.promises.proofs.Outcomes.{short_is}

-- A table that ends in 7, and gives it nowhere else
abbrev Other : Bool × ℕ → Type 0
Other t = t.1 ≡ 7 → ⊥

never_seven : (ts : List (Bool × ℕ)) → Every Other ts → first_of (ts ++ ((false, 7) ∷ [])) ≡ 7 → ⊥
unfolding first_of
never_seven [] h e = omega arith
never_seven ((true, n) ∷ ts) h e = h.0 e
never_seven ((false, n) ∷ ts) h e = never_seven ts h.1 e

-- where it gives 7, no other test holds, and in its place another answer to the last test decides
last_decides : (ts : List (Bool × ℕ)) → Every Other ts → (r q : Bool) → first_of (ts ++ ((r, 7) ∷ [])) ≡ 7 → first_of (ts ++ ((q, 7) ∷ [])) ≡ cond q 7 0
unfolding first_of
last_decides [] h r q e = refl
last_decides ((true, n) ∷ ts) h r q e = absurd (h.0 e)
last_decides ((false, n) ∷ ts) h r q e = last_decides ts h.1 r q e

module _ (bad : Bool) (b : List ℕ) where
  abbrev visit_tests : List (Bool × ℕ)
  visit_tests =
      record_tests b
      ++ ((bad, 3) ∷ (complex (fixed_record b), 4) ∷ (nameless (fixed_record b), 5) ∷ (sizeless (fixed_record b), 6) ∷ [])

  visit_others : Every Other visit_tests
  visit_others =
      ((λ e. omega arith), ((λ e. omega arith), ((λ e. omega arith), ((λ e. omega arith), ((λ e. omega arith), ((λ e. omega arith), ((λ e. omega arith), tt)))))))

-- the room of the longest is enough for every record and file
pub room_enough : (b : List ℕ) (f : RegisterFile) (p : List ℕ) (s : ℕ) → s + most_bytes ≤ length p → no_room (length (bytes_of (log_of b f))) p s ≡ false
unfolding no_room log_of
room_enough b f p s h = has_room (length (bytes_of (log_of b f))) s (length p) (omega arith) (omega (arith, log_bytes_lem f (fixed_record b)))

pub visit_has_room : (bad : Bool) (b : List ℕ) (f : RegisterFile) (p : List ℕ) (s : ℕ) → s + most_bytes ≤ length p → refusal_of bad b f p s ≡ 7 → ⊥
unfolding refusal_of
visit_has_room bad b f p s h e = never_seven (visit_tests bad b) (visit_others bad b) (rw (room_enough b f p s h) at e)

abbrev listing_tests : List ℕ → List (Bool × ℕ)
listing_tests b = record_tests b ++ ((complex (fixed_record b), 4) ∷ [])

listing_others : (b : List ℕ) → Every Other (listing_tests b)
listing_others b = ((λ e. omega arith), ((λ e. omega arith), ((λ e. omega arith), ((λ e. omega arith), tt))))

listing_room : (b p : List ℕ) (s : ℕ) → s + most_listed ≤ length p → no_room (length (listing_of (fixed_record b))) p s ≡ false
unfolding no_room
listing_room b p s h = has_room (length (listing_of (fixed_record b))) s (length p) (omega arith) (omega (arith, listing_bytes (fixed_record b)))

pub listing_has_room : (b p : List ℕ) (s : ℕ) → s + most_listed ≤ length p → listing_refusal b p s ≡ 7 → ⊥
unfolding listing_refusal
listing_has_room b p s h e = never_seven (listing_tests b) (listing_others b) (rw (listing_room b p s h) at e)

-- A call whose refusal the room alone decides writes its bytes where they have room, and says their length where they have not
retried :
    (ts : List (Bool × ℕ)) (o : ℕ) (l : List ℕ) → Every Other ts
    → (r : Bool) → first_of (ts ++ ((r, 7) ∷ [])) ≡ 7
    → Retried (λ (q : List ℕ) (t : ℕ). outcome (first_of (ts ++ ((no_room (length l) q t, 7) ∷ []))) o l q t) (length l)
unfolding no_room outcome
retried ts o l h r e q t = (written, short)
  where
    number : first_of (ts ++ ((lacks_room (length l) t (length q), 7) ∷ [])) ≡ cond (lacks_room (length l) t (length q)) 7 0
    number = last_decides ts h r (lacks_room (length l) t (length q)) e

    written : t + length l ≤ length q → (outcome (first_of (ts ++ ((lacks_room (length l) t (length q), 7) ∷ []))) o l q t).0 ≡ Done (length l)
    written k = rw (number, has_room (length l) t (length q) (omega arith) (omega arith))

    short : length q < t + length l → outcome (first_of (ts ++ ((lacks_room (length l) t (length q), 7) ∷ []))) o l q t ≡ (Short (length l), q)
    short k = refused_short o l q t (number ∙ ap (λ (z : Bool). cond {A = ℕ} z 7 0) (lacks_room_lem (length l) t (length q) k))

pub visit_retried :
    (bad : Bool) (b : List ℕ) (f : RegisterFile) (p : List ℕ) (s n : ℕ) → (visit_by bad b f p s).0 ≡ Short n
    → Retried (visit_by bad b f) n × (n ≤ most_bytes)
unfolding visit_by refusal_of log_of
visit_retried bad b f p s n e =
    let l = bytes_of (log_of b f) in
    let d = short_is (refusal_of bad b f p s) (record_of b).opcode l p s n e in
    rw d.1 (retried (visit_tests bad b) (record_of b).opcode l (visit_others bad b) (no_room (length l) p s) d.0, log_bytes_lem f (fixed_record b))

pub listing_retried : (b p : List ℕ) (s n : ℕ) → (listing_call b p s).0 ≡ Short n → Retried (listing_call b) n × (n ≤ most_listed)
unfolding listing_call listing_refusal
listing_retried b p s n e =
    let l = listing_of (fixed_record b) in
    let d = short_is (listing_refusal b p s) (record_of b).opcode l p s n e in
    rw d.1 (retried (listing_tests b) (record_of b).opcode l (listing_others b) (no_room (length l) p s) d.0, listing_bytes (fixed_record b))

-- From a start past the end a call answers what it would answer with room, but for 7 in place of its bytes
abbrev Firm : Bool × ℕ → Type 0
Firm t = (t.1 ≡ 0 → ⊥) × (t.1 ≡ 7 → ⊥)

past_end :
    (ts : List (Bool × ℕ)) (o : ℕ) (l : List ℕ) → Every Firm ts → (p q : List ℕ) (s t : ℕ)
    → (outcome (first_of (ts ++ ((true, 7) ∷ []))) o l p s).0 ≡ unroomed (outcome (first_of (ts ++ ((false, 7) ∷ []))) o l q t).0
unfolding first_of outcome
past_end [] o l h p q s t = refl
past_end ((true, n) ∷ ts) o l h p q s t = rw (ne_eqb n 0 h.0.0, ne_eqb n 7 h.0.1) (same (eqb n 4))
  where
    same : (u : Bool) → (cond {A = Answer × List ℕ} u (Complex o, p) (Refused n, p)).0 ≡ unroomed (cond {A = Answer × List ℕ} u (Complex o, q) (Refused n, q)).0
    same true = refl
    same false = refl
past_end ((false, n) ∷ ts) o l h p q s t = past_end ts o l h.1 p q s t

past_end_full : (n : ℕ) (p : List ℕ) (s : ℕ) → length p < s → no_room n p s ≡ true
unfolding no_room
past_end_full n p s h = lacks_room_lem n s (length p) (omega arith)

pub visit_past_end :
    (bad : Bool) (b : List ℕ) (f : RegisterFile) (p q : List ℕ) (s t : ℕ) → length p < s → t + most_bytes ≤ length q
    → (visit_by bad b f p s).0 ≡ unroomed (visit_by bad b f q t).0
unfolding visit_by refusal_of
visit_past_end bad b f p q s t past room =
    rw (past_end_full (length (bytes_of (log_of b f))) p s past, room_enough b f q t room)
    (past_end (visit_tests bad b) (record_of b).opcode (bytes_of (log_of b f)) firm p q s t)
  where
    firm : Every Firm (visit_tests bad b)
    firm = (
      ((λ e. omega arith), (λ e. omega arith)),
      (
        ((λ e. omega arith), (λ e. omega arith)),
        (
          ((λ e. omega arith), (λ e. omega arith)),
          (
            ((λ e. omega arith), (λ e. omega arith)),
            (((λ e. omega arith), (λ e. omega arith)), (((λ e. omega arith), (λ e. omega arith)), (((λ e. omega arith), (λ e. omega arith)), tt))),
          ),
        ),
      ),
    )
