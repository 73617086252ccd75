-- A walk over a log, event by event. Assumes nothing.
use Prim.Native.Nat.{ℕ, zero, suc, ◌+◌, ◌≤◌, ◌<◌}
use native.Mathlib.Omega.{arith}
use native.Mathlib.Nat.{zero-add}
use mathlib.Core.Path.{◌≡◌, refl, sym, ap, ◌∙◌}
use mathlib.Core.List.{List, [], ◌∷◌}
use lib.ListN.{length, drop, length-drop}
use lib.Seq.{drop-drop}
use Rattle.std.specs.Prelude.{Result, Ok, Err}
use Rattle.laws.specs.declared.refusals.Refusal.{Refusal}
use Rattle.definition.specs.declared.Event.{Event}
use Rattle.definition.specs.declared.Reading.{Reading}
use Rattle.definition.specs.declared.Reading.TheVariants.{Found, Bad, Finished}
use Rattle.definition.specs.Readings.{read_front, read_at, placed}
use Rattle.event.specs.Wholes.{Whole, all, broken, events_in, in_front, onward, read_from, whole_of}
use Rattle.event.specs.Counts.{count_in, end_of}
use Rattle.event.proofs.Fronts.{Within, within, front_empty}

-- the rest of a walk goes by what was read
same :
    (l : List ℕ) (f g : ℕ → Whole) (r : Reading) → Within l r
    → ((n : ℕ) → 0 < n → n ≤ length l → f n ≡ g n) → onward r f ≡ onward r g
same l f g (Found e n) w h = ap (in_front e) (h n (omega (arith, w.long)) w.inside)
same l f g (Bad r) w h = refl
same l f g Finished w h = refl

-- more fuel than there are bytes changes nothing
fuel : (i j : ℕ) (l : List ℕ) → length l ≤ i → length l ≤ j → read_from i l ≡ read_from j l
unfolding read_from
fuel zero zero l h h' = refl
fuel zero (suc j) l h h' = rw (front_empty l (omega arith))
fuel (suc i) zero l h h' = rw (front_empty l (omega arith))
fuel (suc i) (suc j) l h h' =
    same l (λ n. read_from i (drop n l)) (λ n. read_from j (drop n l)) (read_front l) (within l)
    (λ n p q. let s = length-drop n l in fuel i j (drop n l) (omega arith) (omega arith))

-- one reading more
pub unrolled : (l : List ℕ) → whole_of l ≡ onward (read_front l) (λ n. whole_of (drop n l))
unfolding read_from whole_of
unrolled l =
    fuel (length l) (suc (length l)) l (omega arith) (omega arith)
    ∙ same l (λ n. read_from (length l) (drop n l)) (λ n. whole_of (drop n l)) (read_front l) (within l)
    (λ n p q. let s = length-drop n l in fuel (length l) (length (drop n l)) (drop n l) (omega arith) (omega arith))

-- the same from a place on
abbrev pub whole_at : List ℕ → ℕ → Whole
whole_at l at = whole_of (drop at l)

from_place : (l : List ℕ) (at : ℕ) (r : Reading) → onward r (λ n. whole_of (drop n (drop at l))) ≡ onward (placed at r) (whole_at l)
from_place l at (Found e n) = ap (λ (t : List ℕ). in_front e (whole_of t)) (drop-drop n at l)
from_place l at (Bad r) = refl
from_place l at Finished = refl

pub turn : (l : List ℕ) (at : ℕ) → whole_at l at ≡ onward (read_at l at) (whole_at l)
unfolding read_at
turn l at = unrolled (drop at l) ∙ from_place l at (read_front (drop at l))

-- the events from a place on, by what is read there: one and those behind it, or none
abbrev pub events_at : List ℕ → ℕ → List Event
events_at l at = events_in (whole_at l at)

first_in : (e : Event) (w : Whole) → events_in (in_front e w) ≡ e ∷ events_in w
first_in e (all es) = refl
first_in e (broken es r) = refl

none_in : (r : Reading) (rest : ℕ → Whole) → ((e : Event) (k : ℕ) → r ≡ Found e k → ⊥) → events_in (onward r rest) ≡ []
none_in (Found e n) rest t = absurd (t e n refl)
none_in (Bad r) rest t = refl
none_in Finished rest t = refl

pub found_at : (l : List ℕ) (at : ℕ) {e : Event} {next : ℕ} → read_at l at ≡ Found e next → events_at l at ≡ e ∷ events_at l next
found_at l at {e} {next} f = ap events_in (turn l at) ∙ rw f (first_in e (whole_at l next))

pub stops_at : (l : List ℕ) (at : ℕ) (r : Reading) → r ≡ read_at l at → ((e : Event) (k : ℕ) → r ≡ Found e k → ⊥) → events_at l at ≡ []
stops_at l at r e t = ap events_in (turn l at) ∙ rw (← e) (none_in r (whole_at l) t)

-- the count, after n events
abbrev pub after : ℕ → Whole → Result ℕ Refusal
after n (all es) = Ok (n + length es)
after n (broken es r) = Err r

pub after_none : (w : Whole) → count_in w ≡ after 0 w
after_none (all es) = ap Ok (sym (zero-add (length es)))
after_none (broken es r) = refl

-- one event more
pub after_one : (e : Event) (n : ℕ) (w : Whole) → after n (in_front e w) ≡ after (n + 1) w
after_one e n (all es) = ap Ok (omega arith)
after_one e n (broken es r) = refl

-- no event was read
pub stopped : (r : Reading) (rest : ℕ → Whole) (n : ℕ) → ((e : Event) (k : ℕ) → r ≡ Found e k → ⊥) → end_of r n ≡ after n (onward r rest)
stopped (Found e k) rest n t = absurd (t e k refl)
stopped (Bad r) rest n t = refl
stopped Finished rest n t = ap Ok (omega arith)
