-- The watch after a trace is a merge of the watches after each pair alone. This turns the fold around: every other law is one induction
-- with a pair in front. Assumes nothing.
use Prim.Native.Nat.{ℕ, zero, suc, ◌+◌, ◌*◌, ◌^◌, ◌≤◌, ◌<◌}
use native.Mathlib.Omega.{arith}
use mathlib.Core.Path.{◌≡◌, refl, sym, ap, ◌∙◌}
use mathlib.Core.List.{List, [], ◌∷◌, ◌++◌}
use mathlib.Core.Bool.{Bool, true, false}
use lib.ListN.{length, take}
use lib.Dec.{ltb, eqb}
use borrow.Author.Tests.{ltb-true, ltb-false}
use Rattle.std.specs.Prelude.{Option, None, Some}
use Rattle.std.specs.Bool.{then_some}
use Rattle.std.proofs.lemmas.Bool.{cond_both}
use Rattle.definition.specs.Limits.{most_events}
use Rattle.definition.specs.Visits.{number_of}
use Rattle.definition.specs.declared.Answer.{Answer}
use Rattle.watching.specs.Verdicts.{is_length}
use Rattle.watching.specs.Tallies.{tally_of, total, summed}
use Rattle.watching.specs.Traces.{Pair, most_pairs, answer_to, refusals, verdicts_of, earlier, later, fresh, further, taken, after_step, run_from, watch_of}
use Rattle.watching.specs.declared.verdicts.Variable.{Variable}
use Rattle.watching.specs.declared.tallies.Tally.{Tally}
use Rattle.watching.specs.declared.watch.Watch.{Watch}
use Rattle.watching.proofs.Sums.{tally_is, summed_none, none_summed, added_small}
use Rattle.watching.proofs.Steps.{full_takes, short_takes, step_untaken, step_taken, pair_few}
use Rattle.trusting.specs.Merges.{shifted, merged}
use Rattle.trusting.specs.Promises.{Watched, Within}

-- two watches are equal where their parts are
pub watch_is :
    {s t : Watch}
    → s.variable ≡ t.variable → s.pairs ≡ t.pairs → s.tally ≡ t.tally → s.refused ≡ t.refused
    → s.first ≡ t.first → s.last ≡ t.last → s ≡ t
watch_is a b c d e f = λ i. record { variable = a i; pairs = b i; tally = c i; refused = d i; first = e i; last = f i }

summed_assoc : (s t u : Tally) → summed (summed s t) u ≡ summed s (summed t u)
summed_assoc s t u = tally_is (omega arith) (omega arith) (omega arith) (omega arith)

-- numbers
shift_zero : (x : Option ℕ) → shifted 0 x ≡ x
shift_zero (Some i) = ap Some (omega arith)
shift_zero None = refl

shift_shift : (n m : ℕ) (x : Option ℕ) → shifted n (shifted m x) ≡ shifted (n + m) x
shift_shift n m (Some i) = ap Some (omega arith)
shift_shift n m None = refl

earlier_assoc : (x y z : Option ℕ) → earlier (earlier x y) z ≡ earlier x (earlier y z)
earlier_assoc (Some i) y z = refl
earlier_assoc None y z = refl

pub earlier_never : (x : Option ℕ) → earlier x None ≡ x
earlier_never (Some i) = refl
earlier_never None = refl

shift_earlier : (n : ℕ) (x y : Option ℕ) → shifted n (earlier x y) ≡ earlier (shifted n x) (shifted n y)
shift_earlier n (Some i) y = refl
shift_earlier n None y = refl

later_assoc : (x y z : Option ℕ) → later (later x y) z ≡ later x (later y z)
later_assoc x y (Some i) = refl
later_assoc x y None = refl

later_never : (x : Option ℕ) → later None x ≡ x
later_never (Some i) = refl
later_never None = refl

shift_later : (n : ℕ) (x y : Option ℕ) → shifted n (later x y) ≡ later (shifted n x) (shifted n y)
shift_later n x (Some i) = refl
shift_later n x None = refl

numbered_shift : (t : Bool) (n : ℕ) → then_some t n ≡ shifted n (then_some t 0)
numbered_shift true n = ap Some (omega arith)
numbered_shift false n = refl

-- merging is associative, and a fresh watch is its unit
merged_fresh : (v : Variable) (s : Watch) → s.variable ≡ v → merged (fresh v) s ≡ s
unfolding merged fresh
merged_fresh v s e =
    watch_is (sym e) (omega arith) (none_summed s.tally) (omega arith)
    (shift_zero s.first) (later_never (shifted 0 s.last) ∙ shift_zero s.last)

fresh_merged : (v : Variable) (s : Watch) → merged s (fresh v) ≡ s
unfolding merged fresh
fresh_merged v s = watch_is refl (omega arith) (summed_none s.tally) (omega arith) (earlier_never s.first) refl

merged_assoc : (s t u : Watch) → merged (merged s t) u ≡ merged s (merged t u)
unfolding merged
merged_assoc s t u =
    watch_is refl (omega arith) (summed_assoc s.tally t.tally u.tally) (omega arith)
    (rw (shift_earlier s.pairs t.first (shifted t.pairs u.first), shift_shift s.pairs t.pairs u.first)
    (earlier_assoc s.first (shifted s.pairs t.first) (shifted (s.pairs + t.pairs) u.first)))
    (rw (shift_later s.pairs t.last (shifted t.pairs u.last), shift_shift s.pairs t.pairs u.last)
    (later_assoc s.last (shifted s.pairs t.last) (shifted (s.pairs + t.pairs) u.last)))

-- the watch after one pair alone, and the merge of those of all pairs, whatever their number
unfoldable pub pair_watch : Variable → Pair → Watch
pair_watch v p =
    record {
      variable = v;
      pairs = 1;
      tally = tally_of (verdicts_of v p);
      refused = refusals (answer_to p);
      first = then_some (ltb 0 (tally_of (verdicts_of v p)).part) 0;
      last = then_some (ltb 0 (tally_of (verdicts_of v p)).whole) 0;
    }

unfoldable pub whole_watch : Variable → List Pair → Watch
whole_watch v [] = fresh v
whole_watch v (p ∷ ps) = merged (pair_watch v p) (whole_watch v ps)

pub whole_variable : (v : Variable) (ps : List Pair) → (whole_watch v ps).variable ≡ v
unfolding whole_watch merged pair_watch fresh
whole_variable v [] = refl
whole_variable v (p ∷ ps) = refl

-- what a watch holds to that began fresh: so no sum of a step wraps
pub record Bounded (w : Watch) : Type 0 where
  pub limit : w.pairs ≤ most_pairs
  pub events : total w.tally ≤ most_events * w.pairs
  pub refused : w.refused ≤ w.pairs

refusals_few : (a : Answer) → refusals a ≤ 1
refusals_few a = cond_both (eqb (number_of a) 0) 0 1 (λ n. n ≤ 1) (λ t. omega arith) (λ t. omega arith)

pub fresh_bounded : (v : Variable) → Bounded (fresh v)
unfolding fresh
fresh_bounded v = record { limit = omega arith; events = omega arith; refused = omega arith }

module _ (w : Watch) (p : Pair) (bounded : Bounded w) (l : w.pairs < most_pairs) where
  pub small : total w.tally + total (tally_of (verdicts_of w.variable p)) < 2 ^ 64
  small = omega (arith, pair_few w.variable p, bounded.events)

  further_merged : further w (refusals (answer_to p)) (tally_of (verdicts_of w.variable p)) ≡ merged w (pair_watch w.variable p)
  unfolding further merged pair_watch
  further_merged =
      let t = tally_of (verdicts_of w.variable p) in
      watch_is refl refl (added_small w.tally t small) (omega (arith, refusals_few (answer_to p), bounded.refused))
      (ap (earlier w.first) (numbered_shift (ltb 0 t.part) w.pairs))
      (ap (later w.last) (numbered_shift (ltb 0 t.whole) w.pairs))

  merged_bounded : Bounded (merged w (pair_watch w.variable p))
  unfolding merged pair_watch
  merged_bounded = record {
    limit = omega arith;
    events = omega (arith, pair_few w.variable p, bounded.events);
    refused = omega (arith, refusals_few (answer_to p), bounded.refused);
  }

  module _ (h : Watched w.variable) where
    pub step_merged : after_step w p ≡ merged w (pair_watch w.variable p)
    unfolding taken after_step
    step_merged = rw (step_taken w p h l) further_merged

    step_bounded : Bounded (after_step w p)
    step_bounded = rw step_merged merged_bounded

step_short : (w : Watch) (p : Pair) → is_length w.variable.length ≡ false → after_step w p ≡ w
unfolding after_step
step_short w p h = rw (step_untaken w p (short_takes w h))

-- what a fresh watch and runs of no pair and of one more are
fresh_variable : (v : Variable) → (fresh v).variable ≡ v
unfolding fresh
fresh_variable v = refl

fresh_pairs : (v : Variable) → (fresh v).pairs ≡ 0
unfolding fresh
fresh_pairs v = refl

whole_none : (v : Variable) → fresh v ≡ whole_watch v []
unfolding whole_watch
whole_none v = refl

run_none : (w : Watch) → run_from w [] ≡ w
unfolding run_from
run_none w = refl

run_more : (w : Watch) (p : Pair) (ps : List Pair) → run_from w (p ∷ ps) ≡ run_from (after_step w p) ps
unfolding run_from
run_more w p ps = refl

-- the merged watch is of the same variable, with a pair more
kept : (w : Watch) (p : Pair) → (merged w (pair_watch w.variable p)).variable ≡ w.variable
unfolding merged
kept w p = refl

one_more : (w : Watch) (p : Pair) → (merged w (pair_watch w.variable p)).pairs ≡ w.pairs + 1
unfolding merged pair_watch
one_more w p = refl

still : (w : Watch) (p : Pair) → Watched w.variable → Watched (merged w (pair_watch w.variable p)).variable
still w p h = rw (kept w p) h

-- a pair in front of a run
in_front_lem :
    (w : Watch) (p : Pair) (ps : List Pair)
    → merged (merged w (pair_watch w.variable p)) (whole_watch (merged w (pair_watch w.variable p)).variable ps)
    ≡ merged w (whole_watch w.variable (p ∷ ps))
unfolding whole_watch merged
in_front_lem w p ps = rw (kept w p) (merged_assoc w (pair_watch w.variable p) (whole_watch w.variable ps))

-- so of a run that stays within the limit
run_merged :
    (w : Watch) (ps : List Pair) → Watched w.variable → Bounded w → w.pairs + length ps ≤ most_pairs
    → run_from w ps ≡ merged w (whole_watch w.variable ps)
unfolding run_from
run_merged w [] h b l = sym (fresh_merged w.variable w) ∙ ap (merged w) (whole_none w.variable)
run_merged w (p ∷ ps) h b l =
    let k : w.pairs < most_pairs = omega arith in
    rw (step_merged w p b k h)
    (run_merged (merged w (pair_watch w.variable p)) ps (still w p h) (merged_bounded w p b k) (omega (arith, one_more w p))
    ∙ in_front_lem w p ps)

-- past the limit nothing changes, so a run stops at its first so many pairs
step_past : (w : Watch) (p : Pair) → most_pairs ≤ w.pairs → after_step w p ≡ w
unfolding after_step
step_past w p h = rw (step_untaken w p (full_takes w h))

run_past : (w : Watch) (ps : List Pair) → most_pairs ≤ w.pairs → run_from w ps ≡ w
unfolding run_from
run_past w [] h = refl
run_past w (p ∷ ps) h = rw (step_past w p h) (run_past w ps h)

run_first :
    (n : ℕ) (w : Watch) (ps : List Pair) → Watched w.variable → Bounded w → w.pairs + n ≡ most_pairs
    → run_from w ps ≡ merged w (whole_watch w.variable (take n ps))
run_first zero w ps h b l = run_past w ps (omega arith) ∙ sym (fresh_merged w.variable w) ∙ ap (merged w) (whole_none w.variable)
run_first (suc n) w [] h b l = run_none w ∙ sym (fresh_merged w.variable w) ∙ ap (merged w) (whole_none w.variable)
run_first (suc n) w (p ∷ ps) h b l =
    let k : w.pairs < most_pairs = omega arith in
    run_more w p ps
    ∙ rw (step_merged w p b k h)
    (run_first n (merged w (pair_watch w.variable p)) ps (still w p h) (merged_bounded w p b k) (omega (arith, one_more w p))
    ∙ in_front_lem w p (take n ps))

-- the watch after a trace
module _ (v : Variable) (watched : Watched v) where
  fresh_watched : Watched (fresh v).variable
  unfolding fresh
  fresh_watched = watched

  from_fresh : (ps : List Pair) → merged (fresh v) (whole_watch (fresh v).variable ps) ≡ whole_watch v ps
  unfolding fresh
  from_fresh ps = rw (fresh_variable v) (merged_fresh v (whole_watch v ps) (whole_variable v ps))

  pub watch_merged : (ps : List Pair) → Within ps → watch_of v ps ≡ whole_watch v ps
  unfolding watch_of
  watch_merged ps h = run_merged (fresh v) ps fresh_watched (fresh_bounded v) (omega (arith, fresh_pairs v)) ∙ from_fresh ps

  pub watch_first : (n : ℕ) (ps : List Pair) → n ≡ most_pairs → watch_of v ps ≡ whole_watch v (take n ps)
  unfolding watch_of
  watch_first n ps e = run_first n (fresh v) ps fresh_watched (fresh_bounded v) (omega (arith, fresh_pairs v)) ∙ from_fresh (take n ps)

pub whole_append : (v : Variable) (ps qs : List Pair) → whole_watch v (ps ++ qs) ≡ merged (whole_watch v ps) (whole_watch v qs)
unfolding whole_watch
whole_append v [] qs = sym (merged_fresh v (whole_watch v qs) (whole_variable v qs))
whole_append v (p ∷ ps) qs =
    ap (merged (pair_watch v p)) (whole_append v ps qs) ∙ sym (merged_assoc (pair_watch v p) (whole_watch v ps) (whole_watch v qs))

-- whatever the trace and the variable, the watch is bounded
step_bounds : (w : Watch) (p : Pair) → Bounded w → Bounded (after_step w p)
step_bounds w p b = by_length (is_length w.variable.length) (ltb w.pairs most_pairs) refl refl
  where
    by_length : (t u : Bool) → is_length w.variable.length ≡ t → ltb w.pairs most_pairs ≡ u → Bounded (after_step w p)
    by_length true true e f = step_bounded w p b (ltb-true w.pairs most_pairs f) e
    by_length true false e f = rw (step_past w p (ltb-false w.pairs most_pairs f)) b
    by_length false u e f = rw (step_short w p e) b

run_bounds : (w : Watch) (ps : List Pair) → Bounded w → Bounded (run_from w ps)
unfolding run_from
run_bounds w [] b = b
run_bounds w (p ∷ ps) b = run_bounds (after_step w p) ps (step_bounds w p b)

pub watch_bounded : (v : Variable) (ps : List Pair) → Bounded (watch_of v ps)
unfolding watch_of
watch_bounded v ps = run_bounds (fresh v) ps (fresh_bounded v)
