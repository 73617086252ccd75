-- What the counts of a watch are. Assumes nothing.
use Prim.Native.Nat.{ℕ, ◌+◌}
use native.Mathlib.Omega.{arith}
use mathlib.Core.Path.{◌≡◌, refl, sym, ap, ◌∙◌}
use mathlib.Core.List.{List, [], ◌∷◌, ◌++◌, map}
use mathlib.Core.Bool.{Bool, true, false, cond}
use lib.ListN.{length}
use lib.Dec.{eqb}
use Rattle.laws.specs.Lists.{each}
use Rattle.definition.specs.declared.Event.{Event}
use Rattle.definition.specs.declared.Event.TheVariants.{RegisterRead, RegisterWrite, MemoryRead, MemoryWrite, UnknownRead, UnknownWrite}
use Rattle.watching.specs.Verdicts.{judged, store_verdict, verdict_of}
use Rattle.watching.specs.Tallies.{counting, tally_of, total, summed}
use Rattle.watching.specs.Traces.{Pair, answer_to, refusals, logged_by, verdicts_of, fresh}
use Rattle.watching.specs.declared.verdicts.Variable.{Variable}
use Rattle.watching.specs.declared.verdicts.Verdict.TheVariants.{NoneTouched, PartTouched, WholeTouched}
use Rattle.watching.specs.declared.tallies.Tally.{Tally}
use Rattle.watching.proofs.Sums.{tally_append}
use Rattle.trusting.specs.Merges.{merged}
use Rattle.trusting.specs.Promises.{sum_of, writes_in, CountsAreCounts, FourAddUp}
use Rattle.trusting.proofs.Merging.{pair_watch, whole_watch, watch_merged}

whole_counts :
    (v : Variable) (ps : List Pair)
    → ((whole_watch v ps).pairs ≡ length ps)
    × ((whole_watch v ps).tally ≡ tally_of (each (verdicts_of v) ps))
    × ((whole_watch v ps).refused ≡ sum_of (λ p. refusals (answer_to p)) ps)
unfolding whole_watch pair_watch merged fresh each tally_of
whole_counts v [] = (refl, refl, refl)
whole_counts v (p ∷ ps) =
    let h = whole_counts v ps in (
      omega (arith, h.0),
      ap (summed (tally_of (verdicts_of v p))) h.1 ∙ sym (tally_append (verdicts_of v p) (each (verdicts_of v) ps)),
      omega (arith, h.2),
    )

pub counts_are_counts : CountsAreCounts
counts_are_counts v ps w h = rw (watch_merged v w ps h) (whole_counts v ps)

-- a store gets one of the three verdicts on bytes
judged_counted : (touched length : ℕ) (t : Tally) → total (counting (judged touched length) t) ≡ total t + 1
unfolding judged counting
judged_counted touched length t = go (eqb touched 0) (eqb touched length)
  where
    go : (a b : Bool) → total (counting (cond a NoneTouched (cond b WholeTouched PartTouched)) t) ≡ total t + 1
    go true b = omega arith
    go false true = omega arith
    go false false = omega arith

store_counted : (v : Variable) (a n : ℕ) (t : Tally) → total (counting (store_verdict v a n) t) ≡ total t + 1
unfolding store_verdict
store_counted v a n t = judged_counted _ _ t

-- so a log's verdicts count its writes
events_counted : (v : Variable) (es : List Event) → total (tally_of (map (verdict_of v) es)) ≡ writes_in es
unfolding tally_of writes_in verdict_of counting
events_counted v [] = refl
events_counted v (RegisterRead y ∷ es) = events_counted v es
events_counted v (RegisterWrite y ∷ es) = events_counted v es
events_counted v (MemoryRead a n ∷ es) = events_counted v es
events_counted v (MemoryWrite a n ∷ es) = omega (arith, store_counted v a n (tally_of (map (verdict_of v) es)), events_counted v es)
events_counted v (UnknownRead n ∷ es) = events_counted v es
events_counted v (UnknownWrite n ∷ es) = omega (arith, events_counted v es)

writes_append : (es ds : List Event) → writes_in (es ++ ds) ≡ writes_in es + writes_in ds
unfolding writes_in
writes_append [] ds = omega arith
writes_append (RegisterRead y ∷ es) ds = writes_append es ds
writes_append (RegisterWrite y ∷ es) ds = writes_append es ds
writes_append (MemoryRead a n ∷ es) ds = writes_append es ds
writes_append (MemoryWrite a n ∷ es) ds = omega (arith, writes_append es ds)
writes_append (UnknownRead n ∷ es) ds = writes_append es ds
writes_append (UnknownWrite n ∷ es) ds = omega (arith, writes_append es ds)

trace_counted : (v : Variable) (ps : List Pair) → total (tally_of (each (verdicts_of v) ps)) ≡ writes_in (each logged_by ps)
unfolding each verdicts_of
trace_counted v [] = events_counted v []
trace_counted v (p ∷ ps) =
    ap total (tally_append (map (verdict_of v) (logged_by p)) (each (verdicts_of v) ps))
    ∙ omega (arith, events_counted v (logged_by p), trace_counted v ps, writes_append (logged_by p) (each logged_by ps))

pub four_add_up : FourAddUp
four_add_up v ps w h = ap total (counts_are_counts v ps w h).1 ∙ trace_counted v ps
