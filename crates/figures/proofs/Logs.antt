-- A log that a sheet takes: its events, and what it adds to each word. Assumes nothing.
use Prim.Native.Nat.{ℕ, ◌+◌, ◌*◌, ◌^◌, ◌≤◌, ◌<◌}
use native.Mathlib.Omega.{arith}
use mathlib.Core.Path.{◌≡◌, refl, ap, ◌∙◌}
use mathlib.Core.Bool.{Bool, true, false, cond}
use mathlib.Core.List.{List, [], ◌∷◌}
use lib.ListN.{length, drop, length-drop}
use lib.Dec.{eqb, leb}
use borrow.Author.Tests.{eq-eqb, ne_eqb, eqb-true, leb-true, le-leb}
use Rattle.laws.specs.Lending.{size}
use Rattle.std.proofs.lemmas.Bool.{and_parts}
use Rattle.laws.specs.Refusals.{refused_by}
use Rattle.totals.proofs.Adding.{numbered}
use Rattle.definition.specs.Logs.{event_bytes}
use Rattle.definition.specs.Readings.{Reads, end, next}
use Rattle.definition.specs.declared.Event.{Event}
use Rattle.event.specs.Wholes.{Whole, all, broken, whole_of, events_in}
use Rattle.event.specs.Counts.{count_in, counted_of}
use Rattle.event.proofs.Fronts.{holds}
use Rattle.event.proofs.Cuts.{event_long, size_cons, size_nil}
use Rattle.event.proofs.Wholes.{whole_reads, reads_whole, reads_count}
use Rattle.watching.specs.declared.verdicts.Variable.{Variable}
use Rattle.totals.specs.Sheets.{logs_word, most_log_bytes, additions, log_adds}
use Rattle.figures.specs.Counts.{is_good, events_of, sum_of}
use Rattle.figures.proofs.Sums.{amount, amount_each}
use Rattle.figures.proofs.Amounts.{low_none, event_most}

-- a log's length is that of its events
pub reads_long : (l : List ℕ) (es : List Event) → Reads l es → size event_bytes es ≡ length l
reads_long l es end = size_nil
reads_long l es (next {e = e} {es = rest} n f r) =
    let h = holds l f in
    let d = length-drop n l in
    omega (arith, size_cons e rest, event_long l e n f, reads_long (drop n l) rest r, h.inside)

-- a log that reads whole
pub good_reads : (l : List ℕ) → refused_by (counted_of l) ≡ 0 → Reads l (events_of l)
unfolding counted_of
good_reads l h = go (whole_of l) refl h
  where
    go : (w : Whole) → whole_of l ≡ w → refused_by (count_in w) ≡ 0 → Reads l (events_of l)
    go (all es) e z = rw e ((whole_reads l es).0 e)
    go (broken es r) e z = absurd (numbered r z)

pub reads_events : (l : List ℕ) (es : List Event) → Reads l es → events_of l ≡ es
reads_events l es r = ap events_in (reads_whole l es r)

pub reads_number : (l : List ℕ) (es : List Event) → Reads l es → refused_by (counted_of l) ≡ 0
reads_number l es r = ap refused_by (reads_count l es r)

module _ (l : List ℕ) where
  pub good_is : is_good l ≡ true → (length l ≤ most_log_bytes) × (refused_by (counted_of l) ≡ 0)
  unfolding is_good
  good_is h =
      let a = leb (length l) most_log_bytes in
      let b = eqb (refused_by (counted_of l)) 0 in
      (leb-true (length l) most_log_bytes ((and_parts a b h).0), eqb-true (refused_by (counted_of l)) 0 ((and_parts a b h).1))

  pub is_good_lem : length l ≤ most_log_bytes → refused_by (counted_of l) ≡ 0 → is_good l ≡ true
  unfolding is_good
  is_good_lem h k = rw (le-leb (length l) most_log_bytes h, eq-eqb (refused_by (counted_of l)) 0 k)

module _ (v : Variable) (i : ℕ) where
  -- what a log adds to a word
  unfoldable pub adds : List ℕ → ℕ
  adds l = amount i (log_adds v (events_of l))

  abbrev event_adds : Event → ℕ
  event_adds e = amount i (additions v e)

  pub adds_is : (l : List ℕ) → adds l ≡ cond (eqb i logs_word) 1 0 + sum_of event_adds (events_of l)
  unfolding adds log_adds amount
  adds_is l = ap (λ (n : ℕ). cond (eqb i logs_word) 1 0 + n) (amount_each (additions v) i (events_of l))

  events_most : (l : List ℕ) (es : List Event) → Reads l es → sum_of event_adds es ≤ 32 * length l
  unfolding sum_of
  events_most l es end = omega arith
  events_most l es (next {e = e} {es = rest} n f r) =
      let h = holds l f in
      let d = length-drop n l in
      omega (arith, event_most v i e h.good, event_long l e n f, events_most (drop n l) rest r, h.inside)

  low_events : (es : List Event) → i ≤ logs_word → sum_of event_adds es ≡ 0
  unfolding sum_of
  low_events [] h = refl
  low_events (e ∷ es) h = omega (arith, low_none v i e h, low_events es h)

  -- no log adds more to a word than 2,097,152
  pub adds_most : (l : List ℕ) → is_good l ≡ true → adds l ≤ 2 ^ 21
  adds_most l g = go (eqb i logs_word) refl
    where
      go : (t : Bool) → eqb i logs_word ≡ t → adds l ≤ 2 ^ 21
      go true e = let s = eqb-true i logs_word e in let z = low_events (events_of l) (omega arith) in let a = adds_is l in rw (adds_is l, e, z) (omega arith)
      go false e = let m = good_is l g in let r = events_most l (events_of l) (good_reads l m.1) in rw (adds_is l, e) (omega (arith, m.0))

  -- the watch stays as it is, and a log is one log
  pub adds_none : (l : List ℕ) → i < logs_word → adds l ≡ 0
  adds_none l h = adds_is l ∙ rw (ne_eqb i logs_word (λ e. omega arith), low_events (events_of l) (omega arith))

pub adds_one : (v : Variable) (l : List ℕ) → adds v logs_word l ≡ 1
adds_one v l = adds_is v logs_word l ∙ rw (low_events v logs_word (events_of l) (omega arith))
