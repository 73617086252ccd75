-- Words that are raised one by one, and by the events of a log from a place on. Assumes nothing.
use Rattle.std.proofs.Common.{◌≡◌, ℕ, List, [], ◌∷◌, ◌++◌, sym, refl, ap, ◌∙◌}
use Rattle.laws.specs.Lists.{each}
use Rattle.definition.specs.declared.Event.{Event}
use Rattle.definition.specs.declared.Reading.{Reading}
use Rattle.definition.specs.declared.Reading.TheVariants.{Found}
use Rattle.definition.specs.Readings.{read_at}
use Rattle.event.proofs.Walks.{events_at, found_at, stops_at}
use Rattle.watching.specs.declared.verdicts.Variable.{Variable}
use Rattle.totals.specs.Sheets.{additions, raised, raised_by}

pub raised_append : (w : List ℕ) (ps qs : List (ℕ × ℕ)) → raised_by w (ps ++ qs) ≡ raised_by (raised_by w ps) qs
unfolding raised_by
raised_append w [] qs = refl
raised_append w (p ∷ ps) qs = raised_append (raised w p.0 p.1) ps qs

-- one event, then the others
event_first : (v : Variable) (w : List ℕ) (e : Event) (es : List Event) → raised_by w (each (additions v) (e ∷ es)) ≡ raised_by (raised_by w (additions v e)) (each (additions v) es)
unfolding each
event_first v w e es = raised_append w (additions v e) (each (additions v) es)

module _ (v : Variable) (l : List ℕ) where
  -- what the events from a place on add
  abbrev pub rest : ℕ → List (ℕ × ℕ)
  rest at = each (additions v) (events_at l at)

  -- an event was read: it is added, and the rest are those behind it
  pub goes :
      (at : ℕ) {k : ℕ} {e : Event} (w u : List ℕ) → read_at l at ≡ Found e k → u ≡ raised_by w (additions v e)
      → raised_by w (rest at) ≡ raised_by u (rest k)
  goes at {k} {e} w u r h =
      ap (λ (es : List Event). raised_by w (each (additions v) es)) (found_at l at r)
      ∙ event_first v w e (events_at l k)
      ∙ ap (λ (x : List ℕ). raised_by x (rest k)) (sym h)

  -- none was read: nothing is left
  pub ends : (at : ℕ) (r : Reading) → r ≡ read_at l at → ((e : Event) (k : ℕ) → r ≡ Found e k → ⊥) → [] ≡ rest at
  unfolding each
  ends at r e h = sym (ap (λ (es : List Event). each (additions v) es) (stops_at l at r e h))
