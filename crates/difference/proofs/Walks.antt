-- The walk over two logs: the place, and what the events from it on have in common. Assumes nothing.
use Prim.Native.Nat.{ℕ, ◌+◌}
use native.Mathlib.Omega.{arith}
use mathlib.Core.Path.{◌≡◌, refl, sym, ap, ◌∙◌}
use mathlib.Core.Bool.{true, false}
use mathlib.Core.List.{List}
use lib.ListN.{length, drop}
use Rattle.definition.specs.Logs.{event_bytes}
use Rattle.definition.specs.Readings.{read_front, read_at, placed}
use Rattle.definition.specs.declared.Event.{Event}
use Rattle.definition.specs.declared.Reading.{Reading}
use Rattle.definition.specs.declared.Reading.TheVariants.{Found, Bad, Finished}
use Rattle.event.specs.Wholes.{events_in, whole_of}
use Rattle.event.proofs.Cuts.{event_long, size_cons, size_nil}
use Rattle.event.proofs.Walks.{events_at, found_at, stops_at}
use Rattle.difference.specs.Partings.{same_event, front_of, parting_at}
use Rattle.difference.proofs.Lists.{same_is}

-- an event ends its own bytes behind its place
placed_long : (l : List ℕ) (at : ℕ) (r : Reading) → read_front (drop at l) ≡ r → {e : Event} {next : ℕ} → placed at r ≡ Found e next → next ≡ at + length (event_bytes e)
placed_long l at (Found d n) f {e} {next} p =
    let i : d ≡ e = cc in
    let j : at + n ≡ next = cc in
    sym j ∙ ap (λ (k : ℕ). at + k) (event_long (drop at l) d n f ∙ ap (λ (x : Event). length (event_bytes x)) i)
placed_long l at (Bad k) f p = let z : ◌≡◌ {A = ℕ} 0 1 = cc in absurd (omega arith)
placed_long l at Finished f p = let z : ◌≡◌ {A = ℕ} 0 1 = cc in absurd (omega arith)

long_at : (l : List ℕ) (at : ℕ) {e : Event} {next : ℕ} → read_at l at ≡ Found e next → next ≡ at + length (event_bytes e)
unfolding read_at
long_at l at p = placed_long l at (read_front (drop at l)) refl p

-- the place so far, and the bytes of what the events from it on have in common
abbrev pub ahead : List ℕ → List ℕ → ℕ → ℕ
ahead a b at = at + parting_at (events_at a at) (events_at b at)

module _ (a b : List ℕ) (at : ℕ) where
  pub begins : at ≡ 0 → parting_at (events_in (whole_of a)) (events_in (whole_of b)) ≡ ahead a b at
  begins e = rw e (omega arith)

  -- nothing is left of the first, or of the second
  pub first_stops : (r : Reading) → r ≡ read_at a at → ((d : Event) (k : ℕ) → r ≡ Found d k → ⊥) → ahead a b at ≡ at
  unfolding parting_at front_of
  first_stops r e t = rw (stops_at a at r e t, size_nil) (omega arith)

  module _ (d : Event) {n : ℕ} (first : read_at a at ≡ Found d n) where
    pub second_stops : (r : Reading) → r ≡ read_at b at → ((d : Event) (k : ℕ) → r ≡ Found d k → ⊥) → ahead a b at ≡ at
    unfolding parting_at front_of
    second_stops r e t = rw (found_at a at first, stops_at b at r e t, size_nil) (omega arith)

    module _ (e : Event) {m : ℕ} (second : read_at b at ≡ Found e m) where
      -- two events that differ, and two that do not
      pub parts : same_event d e ≡ false → ahead a b at ≡ at
      unfolding parting_at front_of
      parts h = rw (found_at a at first, found_at b at second, h, size_nil) (omega arith)

      pub both : same_event d e ≡ true → ahead a b at ≡ ahead a b m
      unfolding parting_at front_of
      both h =
          let i : n ≡ m = long_at a at first ∙ ap (λ (x : Event). at + length (event_bytes x)) (same_is d e h) ∙ sym (long_at b at second) in
          let j = long_at b at second in
          rw (found_at a at first, found_at b at second, h, i, size_cons e (front_of (events_at a m) (events_at b m))) (omega arith)
