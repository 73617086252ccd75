-- Every statement of specs/Promises.antt, Trust.antt and Strength.antt, and the tables of specs/Rows.antt, proved.
use Prim.Native.Nat.{ℕ, ◌+◌, ◌%◌, ◌<◌}
use native.Mathlib.Omega.{arith}
use native.Mathlib.Nat.{zero-add}
use mathlib.Core.Path.{◌≡◌, refl, sym, ap, ap₂, ◌∙◌}
use mathlib.Core.List.{List, [], ◌∷◌, ◌++◌}
use lib.ListN.{length, take, length-append, length-take}
use borrow.Author.Tests.{ne_eqb}
use Rattle.std.specs.Prelude.{Ok}
use Rattle.laws.specs.Tests.{is_in}
use Rattle.definition.specs.Addresses.{word}
use Rattle.definition.specs.Visits.{number_of}
use Rattle.sets.proofs.Bits.{bits_are}
use Rattle.watching.specs.Verdicts.{bytes_from, store_touched}
use Rattle.watching.specs.Tallies.{no_tally, tally_of}
use Rattle.watching.specs.Traces.{Pair, most_pairs, answer_to, refusals, logged_by, verdicts_of, fresh, further, taken, left_by, step_of, after_step, run_from, watch_of}
use Rattle.watching.specs.declared.verdicts.Variable.{Variable}
use Rattle.watching.specs.declared.watch.Watch.{Watch}
use Rattle.watching.proofs.Sums.{summed_none}
use Rattle.watching.proofs.Walks.{named}
use Rattle.watching.proofs.Steps.{full_takes, short_takes, step_untaken, step_taken}
use Rattle.trusting.specs.Merges.{merged}
use Rattle.trusting.specs.Promises as promised
use Rattle.trusting.specs.Rows as rows
use Rattle.trusting.specs.Trust as trusted
use Rattle.trusting.specs.Strength as strong
use Rattle.trusting.proofs.Merging.{watch_is, earlier_never, pair_watch, whole_variable, step_merged, watch_merged, watch_first, watch_bounded, whole_append}
use Rattle.trusting.proofs.Counts as counts
use Rattle.trusting.proofs.Numbers as numbers
use Rattle.trusting.proofs.Tables as tables
use Rattle.trusting.proofs.Trust as trust
use Rattle.trusting.proofs.Strength as strength

pub counts_are_counts : promised.CountsAreCounts
counts_are_counts = counts.counts_are_counts

pub four_add_up : promised.FourAddUp
four_add_up = counts.four_add_up

pub first_is_least : promised.FirstIsLeast
first_is_least = numbers.first_is_least

pub last_is_greatest : promised.LastIsGreatest
last_is_greatest = numbers.last_is_greatest

pub empty_trace : promised.EmptyTrace
unfolding watch_of run_from fresh
empty_trace v = refl

pub nothing_wraps : promised.NothingWraps
nothing_wraps v ps =
    let b = watch_bounded v ps in (b.limit, omega (arith, b.limit, b.events), omega (arith, b.limit, b.refused))

-- the watch after a trace within the limit: its variable and its pairs
module _ (v : Variable) (ps : List Pair) (watched : promised.Watched v) (l : length ps < most_pairs) where
  variable_kept : (watch_of v ps).variable ≡ v
  variable_kept = ap (λ (w : Watch). w.variable) (watch_merged v watched ps (omega arith)) ∙ whole_variable v ps

  pairs_counted : (watch_of v ps).pairs < most_pairs
  pairs_counted = rw (counts_are_counts v ps watched (omega arith)).0 l

  still_watched : promised.Watched (watch_of v ps).variable
  still_watched = rw variable_kept watched

  step_is : (p : Pair) → step_of (watch_of v ps) p ≡ Ok (taken (watch_of v ps) (answer_to p) (refusals (answer_to p)) (tally_of (verdicts_of v p)))
  step_is p =
      step_taken (watch_of v ps) p still_watched pairs_counted
      ∙ ap (λ (u : Variable). Ok (taken (watch_of v ps) (answer_to p) (refusals (answer_to p)) (tally_of (verdicts_of u p)))) variable_kept

  step_goes : (p : Pair) → after_step (watch_of v ps) p ≡ merged (watch_of v ps) (pair_watch v p)
  step_goes p =
      step_merged (watch_of v ps) p (watch_bounded v ps) pairs_counted still_watched
      ∙ ap (λ (u : Variable). merged (watch_of v ps) (pair_watch u p)) variable_kept

pub step_tells : promised.StepTells
unfolding taken merged pair_watch after_step
step_tells v ps p w l =
    let e = step_is v ps w l p in
    let g : further (watch_of v ps) (refusals (answer_to p)) (tally_of (verdicts_of v p)) ≡ merged (watch_of v ps) (pair_watch v p) =
    sym (ap (left_by (watch_of v ps)) e) ∙ step_goes v ps w l p in
    (taken (watch_of v ps) (answer_to p) (refusals (answer_to p)) (tally_of (verdicts_of v p)), e, refl, refl, ap (λ s. s.tally) g, ap (λ s. s.refused) g)

-- one pair behind a trace
run_append : (w : Watch) (ps : List Pair) (p : Pair) → run_from w (ps ++ (p ∷ [])) ≡ after_step (run_from w ps) p
unfolding run_from
run_append w [] p = refl
run_append w (q ∷ ps) p = run_append (after_step w q) ps p

watch_append : (v : Variable) (ps : List Pair) (p : Pair) → watch_of v (ps ++ (p ∷ [])) ≡ after_step (watch_of v ps) p
unfolding watch_of
watch_append v ps p = run_append (fresh v) ps p

-- a refused pair has no verdict
none_logged : (v : Variable) (p : Pair) → (number_of (answer_to p) ≡ 0 → ⊥) → (refusals (answer_to p) ≡ 1) × (tally_of (verdicts_of v p) ≡ no_tally)
unfolding verdicts_of logged_by tally_of
none_logged v p h = let e = ne_eqb (number_of (answer_to p)) 0 h in (rw e, rw e)

merged_refused :
    (w : Watch) (v : Variable) (p : Pair) → refusals (answer_to p) ≡ 1 → tally_of (verdicts_of v p) ≡ no_tally
    → merged w (pair_watch v p) ≡ promised.refused_once w
unfolding merged pair_watch
merged_refused w v p r t =
    rw (r, t) (watch_is refl refl (summed_none w.tally) refl (earlier_never w.first) refl)

pub refused_pairs : promised.RefusedPairs
refused_pairs v ps p w l h =
    let e = none_logged v p h in
    watch_append v ps p ∙ step_goes v ps w l p ∙ merged_refused (watch_of v ps) v p e.0 e.1

pub past_the_limit : promised.PastTheLimit
unfolding after_step
past_the_limit w p h = let e = step_untaken w p (full_takes w h) in (e, ap (left_by w) e)

pub no_such_length : promised.NoSuchLength
unfolding after_step
no_such_length w p h = let e = step_untaken w p (short_takes w h) in (e, ap (left_by w) e)

-- over any number, so that nothing computes with a list of 1,000,000
beyond : (v : Variable) (n : ℕ) (ps : List Pair) → promised.Watched v → n ≡ most_pairs → watch_of v ps ≡ watch_of v (take n ps)
beyond v n ps w e = watch_first v w n ps e ∙ sym (watch_merged v w (take n ps) (omega (arith, length-take n ps)))

pub beyond_the_limit : promised.BeyondTheLimit
beyond_the_limit v ps w = beyond v most_pairs ps w refl

pub parts_merge : promised.PartsMerge
parts_merge v ps qs w h =
    watch_merged v w (ps ++ qs) h ∙ whole_append v ps qs
    ∙ sym (ap₂ merged (watch_merged v w ps (omega (arith, length-append ps qs))) (watch_merged v w qs (omega (arith, length-append ps qs))))

pub named_as_counted : promised.NamedAsCounted
named_as_counted v log at e next w r = sym (named v log at _ w r)

pub bits_are_bytes : promised.BitsAreBytes
unfolding store_touched
bits_are_bytes v a n i = bits_are (λ (i : ℕ). is_in ((v.address + i) % word) (bytes_from a n)) 0 v.length i ∙ rw (zero-add i)

pub rows_hold : rows.RowsHold
rows_hold = tables.rows_hold

pub verdicts_stand : trusted.VerdictsStand
verdicts_stand = trust.verdicts_stand

pub watches_trusted : trusted.WatchesTrusted
watches_trusted = trust.watches_trusted

pub watches_equal : trusted.WatchesEqual
watches_equal = trust.watches_equal

pub unknown_becomes : strong.UnknownBecomes
unknown_becomes = strength.unknown_becomes

pub numbers_move : strong.NumbersMove
numbers_move = strength.numbers_move
