-- The counts of the events from a place on, as a walk counts them. Assumes nothing.
use Rattle.std.proofs.Common.{◌≡◌, ℕ, List, sym, ap, ◌∙◌}
use Rattle.definition.specs.Readings.{read_at}
use Rattle.definition.specs.declared.Event.{Event}
use Rattle.definition.specs.declared.Reading.{Reading}
use Rattle.definition.specs.declared.Reading.TheVariants.{Found}
use Rattle.event.specs.Wholes.{events_in, whole_of}
use Rattle.event.proofs.Walks.{events_at, found_at, stops_at}
use Rattle.session.specs.declared.counts.Counts.{Counts}
use Rattle.session.specs.Sessions.{no_counts, counting, counts_of}
use Rattle.session.proofs.Sums.{summed, summed_none, none_summed, counting_over}

module _ (l : List ℕ) where
  abbrev pub rest : ℕ → Counts
  rest at = counts_of (events_at l at)

  pub begun : counts_of (events_in (whole_of l)) ≡ summed no_counts (rest 0)
  begun = sym (none_summed (rest 0))

  -- an event was read: it is counted, and the rest are those behind it
  pub goes :
      (at : ℕ) {next : ℕ} {e : Event} (c d : Counts) → read_at l at ≡ Found e next → d ≡ counting e c
      → summed c (rest at) ≡ summed d (rest next)
  unfolding counts_of
  goes at {next} {e} c d r h =
      ap (λ (es : List Event). summed c (counts_of es)) (found_at l at r)
      ∙ counting_over e c (rest next)
      ∙ ap (λ (x : Counts). summed x (rest next)) (sym h)

  -- none was read: nothing is left
  pub ends : (at : ℕ) (r : Reading) (c : Counts) → r ≡ read_at l at → ((e : Event) (k : ℕ) → r ≡ Found e k → ⊥) → c ≡ summed c (rest at)
  unfolding counts_of
  ends at r c e h =
      sym (ap (λ (es : List Event). summed c (counts_of es)) (stops_at l at r e h) ∙ summed_none c)
