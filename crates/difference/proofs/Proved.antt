-- Every statement of specs/Promises.antt, proved.
use Prim.Native.Nat.{ℕ}
use native.Mathlib.Omega.{arith}
use mathlib.Core.Path.{◌≡◌, refl, sym, ap, ◌∙◌}
use mathlib.Core.Logic.{⊎_elim, ◌⊎◌}
use mathlib.Core.List.{List, [], ◌∷◌, ◌++◌, append-nil}
use mathlib.Core.Bool.{Bool, false}
use lib.ListN.{length, get_or, drop, length-drop, drop_of_length-le}
use lib.Dec.{ltb}
use borrow.Author.Tests.{ltb-false}
use Rattle.laws.specs.Words.{number_at, little}
use Rattle.laws.specs.Lists.{each}
use Rattle.laws.specs.Lending.{size}
use Rattle.laws.specs.Refusals.{refusal_number}
use Rattle.laws.specs.declared.refusals.Refusal.{Refusal}
use Rattle.laws.specs.declared.refusals.Refusal.TheVariants.{Malformed, Outside}
use Rattle.std.proofs.lemmas.Bool.{or_parts}
use Rattle.registers.specs.Banks.{is_logged}
use Rattle.definition.specs.Logs.{event_bytes, bytes_of}
use Rattle.definition.specs.Readings.{body_of, front_event, is_event, read_front, Reads, end, next}
use Rattle.definition.specs.declared.Event.{Event}
use Rattle.definition.specs.declared.Event.TheVariants.{MemoryRead}
use Rattle.event.specs.Wholes.{Whole, all, broken, read_from, whole_of, Broken}
use Rattle.event.proofs.Fronts.{holds, within}
use Rattle.event.proofs.Wholes.{whole_reads, whole_broken, reads_whole, broken_whole}
use Rattle.event.proofs.Bytes.{reads_bytes}
use Rattle.difference.specs.declared.logs.Parted.{Parted}
use Rattle.difference.specs.Partings.{same_event, front_of, left_of, rest_of, differ, parting_at, refused, parted_by, parted_of, parting_of}
use Rattle.difference.specs.Promises as promised
use Rattle.difference.specs.Rows.{rows}
use Rattle.difference.proofs.Lists.{no_cons, split}
use Rattle.difference.proofs.Compared.{cut_first, cut_second}

pub whole_is_reads : promised.WholeIsReads
whole_is_reads = whole_reads

pub broken_is_refused : promised.BrokenIsRefused
broken_is_refused l es r = (whole_broken l es r, (λ h. let b = (whole_broken l es r).0 h in rw b.refused at (within b.rest)))

-- of logs that read whole: the answer, by their events
module _ (a b : List ℕ) (xs ys : List Event) (r : Reads a xs) (q : Reads b ys) where
  answer_is : parted_of a b ≡ record { number = 0; differs = differ xs ys; at = parting_at xs ys }
  unfolding parted_of
  answer_is = rw (reads_whole a xs r, reads_whole b ys q)

  part_is : parting_of a b ≡ drop (parting_at xs ys) b
  unfolding parting_of
  part_is = rw answer_is

-- no events, no bytes; and no bytes, no events
no_events : (l : List ℕ) (es : List Event) → Reads l es → es ≡ [] → l ≡ []
no_events l es end e = refl
no_events l es (next {e = d} {es = rest} n f r) e = absurd (no_cons d rest e)

no_bytes : (l : List ℕ) (es : List Event) → Reads l es → l ≡ [] → es ≡ []
no_bytes l es end e = refl
no_bytes l es (next n f r) e = let c = holds l f in absurd (omega (arith, c.inside, c.long, ap length e))

-- the sign is that something is left of either
module _ (xs ys : List Event) where
  sign_to : differ xs ys ≡ false → xs ≡ ys
  unfolding differ
  sign_to h = (split xs ys).to h

  sign_back : xs ≡ ys → differ xs ys ≡ false
  unfolding differ
  sign_back h = (split xs ys).back h

  sign_rest : differ xs ys ≡ false → rest_of xs ys ≡ []
  unfolding differ
  sign_rest h = none_is (rest_of xs ys) ((or_parts (ltb 0 (length (left_of xs ys))) (ltb 0 (length (rest_of xs ys))) h).1)
    where
      none_is : (es : List Event) → ltb 0 (length es) ≡ false → es ≡ []
      none_is [] e = refl
      none_is (x ∷ es) e = let m = ltb-false 0 (length (x ∷ es)) e in absurd (omega arith)

  -- the first is the common front: what is left of the second stands behind as many events as the first has
  first_ended : left_of xs ys ≡ [] → drop (length xs) ys ≡ rest_of xs ys
  unfolding rest_of
  first_ended e =
      let f : xs ≡ front_of xs ys = (split xs ys).first ∙ ap (λ (l : List Event). front_of xs ys ++ l) e ∙ append-nil (front_of xs ys) in
      ap (λ (l : List Event). drop (length l) ys) f

pub logs_part : promised.LogsPart
unfolding parting_at parting_of
logs_part a b xs ys r q =
    let s = split xs ys in
    let c = cut_first a b xs ys r q in
    let d = cut_second a b xs ys r q in
    let whole = answer_is a b xs ys r q in
    let rest : Reads (parting_of a b) (rest_of xs ys) = rw (part_is a b xs ys r q) d.behind in
    record {
      number = ap (λ (p : Parted). p.number) whole;
      within = rw whole d.within;
      tail = refl;
      behind = rest;
      shared_first = rw whole c.before;
      shared_second = rw whole d.before;
      first = s.first;
      second = s.second;
      apart = s.apart;
      equal = rw whole (sign_to xs ys, sign_back xs ys);
      none_left = λ h. no_events (parting_of a b) (rest_of xs ys) rest (sign_rest xs ys (sym (ap (λ (p : Parted). p.differs) whole) ∙ h));
      first_ends = λ e. rw (first_ended xs ys e) rest;
      second_ends = ((λ e. no_events (parting_of a b) (rest_of xs ys) rest e), (λ e. no_bytes (parting_of a b) (rest_of xs ys) rest e));
    }

-- reading is a function
all_is : (xs ys : List Event) → all xs ≡ all ys → xs ≡ ys
all_is xs ys e = cc

one_reading : (a b : List ℕ) (xs ys : List Event) → a ≡ b → Reads a xs → Reads b ys → xs ≡ ys
one_reading a b xs ys e r q = all_is xs ys (sym (reads_whole a xs r) ∙ ap whole_of e ∙ reads_whole b ys q)

pub equal_is_equal_bytes : promised.EqualIsEqualBytes
equal_is_equal_bytes a b xs ys ha hb r q =
    let p = logs_part a b xs ys r q in
    ((λ h. reads_bytes a xs ha r ∙ ap bytes_of (p.equal.0 h) ∙ sym (reads_bytes b ys hb q)), (λ e. p.equal.1 (one_reading a b xs ys e r q)))

-- 256 and 0 in two cells, and 0 and 1
wide : List ℕ
wide = 3 ∷ 256 ∷ 0 ∷ 0 ∷ 0 ∷ 0 ∷ 0 ∷ 0 ∷ 0 ∷ 1 ∷ []

narrow : List ℕ
narrow = 3 ∷ 0 ∷ 1 ∷ 0 ∷ 0 ∷ 0 ∷ 0 ∷ 0 ∷ 0 ∷ 1 ∷ []

pub bytes_are_needed : promised.BytesAreNeeded
unfolding wide narrow body_of front_event is_event read_front number_at read_from whole_of same_event front_of left_of rest_of differ parted_of
bytes_are_needed = (
  wide,
  narrow,
  MemoryRead 256 1 ∷ [],
  next {es = []} 10 refl end,
  next {es = []} 10 refl end,
  refl,
  (λ e. let z : ◌≡◌ {A = ℕ} 256 0 = ap (λ (l : List ℕ). get_or l 1 0) e in omega arith),
)

abbrev parted : ℕ → Bool → ℕ → Parted
parted n t k = record { number = n; differs = t; at = k }

by_fields : (p : Parted) {n k : ℕ} {t : Bool} → p.number ≡ n → p.differs ≡ t → p.at ≡ k → p ≡ parted n t k
by_fields p {n} {k} {t} e f g =
    ap (λ (m : ℕ). parted m p.differs p.at) e ∙ ap (λ (s : Bool). parted n s p.at) f ∙ ap (parted n t) g

pub same_log : promised.SameLog
same_log a xs r =
    let p = logs_part a a xs xs r r in
    let sign = p.equal.1 refl in
    let none = p.none_left sign in
    let long = ap length (sym p.tail ∙ none) in
    let place : (parted_of a a).at ≡ length a = omega (arith, p.within, long, length-drop (parted_of a a).at a) in
    (by_fields (parted_of a a) p.number sign place, none)

-- a refused answer's part begins at the end
none_behind : (a b : List ℕ) (r : Refusal) → parted_of a b ≡ refused r b → parting_of a b ≡ []
unfolding parting_of
none_behind a b r e = rw e (drop_of_length-le b {i = length b} (omega arith))

module _ (a b : List ℕ) where
  first_broken : (es : List Event) (k : Refusal) → Broken a es k → parted_of a b ≡ refused k b
  unfolding parted_of
  first_broken es k h = rw (broken_whole a es k h)

  second_broken : (xs es : List Event) (k : Refusal) → Reads a xs → Broken b es k → parted_of a b ≡ refused k b
  unfolding parted_of
  second_broken xs es k r h = rw (reads_whole a xs r, broken_whole b es k h)

  abbrev Both : Type 0
  Both = (ds : List Event) × (es : List Event) × Reads a ds × Reads b es

  number_reads : (parted_of a b).number ≡ 0 → Both
  unfolding parted_of
  number_reads h = by_both (whole_of a) (whole_of b) refl refl h
    where
      numbered : (r : Refusal) → (r ≡ Malformed) ⊎ (r ≡ Outside) → refusal_number r ≡ 0 → ⊥
      numbered r w z = ⊎_elim (λ e. let n = ap refusal_number e in omega arith) (λ e. let n = ap refusal_number e in omega arith) w

      not_refused : (l : List ℕ) (es : List Event) (r : Refusal) → whole_of l ≡ broken es r → refusal_number r ≡ 0 → ⊥
      not_refused l es r e z = numbered r ((broken_is_refused l es r).1 e) z

      by_both : (v w : Whole) → whole_of a ≡ v → whole_of b ≡ w → (parted_by v w b).number ≡ 0 → Both
      by_both (broken es k) w p q z = absurd (not_refused a es k p z)
      by_both (all xs) (broken es k) p q z = absurd (not_refused b es k q z)
      by_both (all xs) (all ys) p q z = (xs, ys, (whole_reads a xs).0 p, (whole_reads b ys).0 q)

pub broken_logs : promised.BrokenLogs
broken_logs a b es xs k = (
  (λ h. let e = first_broken a b es k h in (e, none_behind a b k e)),
  (λ r h. let e = second_broken a b xs es k r h in (e, none_behind a b k e)),
  (number_reads a b, (λ p. ap (λ (x : Parted). x.number) (answer_is a b p.0 p.1 p.2 p.3))),
)

pub rows_hold : promised.RowsHold
unfolding rows body_of front_event is_event is_logged read_front number_at read_from whole_of same_event front_of left_of rest_of differ size each event_bytes little parting_at parted_of parting_of
rows_hold = refl
