-- The tally of the events from a place on, as a walk counts them. Assumes nothing.
use Rattle.std.proofs.Common.{◌≡◌, ℕ, List, map, sym, ap, ◌∙◌}
use Rattle.definition.specs.Readings.{read_at}
use Rattle.definition.specs.declared.Event.{Event}
use Rattle.definition.specs.declared.Reading.{Reading}
use Rattle.definition.specs.declared.Reading.TheVariants.{Found}
use Rattle.watching.specs.Verdicts.{verdict_of}
use Rattle.watching.specs.Tallies.{no_tally, counting, tally_of, summed}
use Rattle.watching.specs.Walks.{events_in}
use Rattle.watching.specs.declared.verdicts.Variable.{Variable}
use Rattle.watching.specs.declared.verdicts.Verdict.{Verdict}
use Rattle.watching.specs.declared.tallies.Tally.{Tally}
use Rattle.watching.proofs.Sums.{summed_none, none_summed, counting_over}
use Rattle.watching.proofs.Walks.{left, whole, NoneFound, stopped, read_on}

module _ (v : Variable) (l : List ℕ) where
  abbrev pub rest : ℕ → Tally
  rest at = tally_of (map (verdict_of v) (left l at))

  pub begun : tally_of (map (verdict_of v) (events_in l)) ≡ summed no_tally (rest 0)
  begun = ap (λ (es : List Event). tally_of (map (verdict_of v) es)) (whole l) ∙ sym (none_summed (rest 0))

  -- an event was read: it is counted, and the rest are those behind it
  pub goes :
      (at k : ℕ) (e : Event) (x : Verdict) (s t : Tally) → read_at l at ≡ Found e k → x ≡ verdict_of v e → t ≡ counting x s
      → summed s (rest at) ≡ summed t (rest k)
  unfolding tally_of
  goes at k e x s t r h c =
      ap (λ (es : List Event). summed s (tally_of (map (verdict_of v) es))) (read_on l at r)
      ∙ counting_over (verdict_of v e) s (rest k)
      ∙ ap (λ (u : Tally). summed u (rest k)) (ap (λ (y : Verdict). counting y s) (sym h) ∙ sym c)

  -- none was read: nothing is left
  pub ends : (at : ℕ) (r : Reading) (s : Tally) → r ≡ read_at l at → NoneFound r → s ≡ summed s (rest at)
  unfolding tally_of
  ends at r s e h = sym (ap (λ (es : List Event). summed s (tally_of (map (verdict_of v) es))) (stopped l at r e h) ∙ summed_none s)
