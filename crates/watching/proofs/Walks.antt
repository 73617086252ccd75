-- A walk over a log, event by event. Assumes nothing.
use Rattle.std.proofs.Common.{◌≡◌, ℕ, zero, suc, ◌+◌, ◌-◌, ◌<◌, ◌≤◌, true, false, ◌||◌, eqb, ltb, List, [], ◌∷◌, length, drop, sym, refl, ap, ◌∙◌, subst, arith, drop-drop}
use native.Mathlib.Nat.{sub-zero}
use Rattle.std.proofs.lemmas.Bool.{cond_both}
use Rattle.definition.specs.declared.Event.{Event}
use Rattle.definition.specs.declared.Reading.{Reading}
use Rattle.definition.specs.declared.Reading.TheVariants.{Found, Bad, Finished}
use Rattle.definition.specs.Readings.{body_of, front_event, is_event, read_front, read_at, placed, Reads, end, next}
use Rattle.event.proofs.Fronts.{Moves, goes_on_lem, finished, front_empty}
use Rattle.watching.specs.Verdicts.{is_length, named_by, name_at}
use Rattle.watching.specs.Walks.{events_by, events_from, events_in}
use Rattle.watching.specs.declared.verdicts.Variable.{Variable}

-- the rest of a walk goes by what was read
same :
    (l : List ℕ) (at : ℕ) (f g : ℕ → List Event) (r : Reading) → Moves l at r
    → ((k : ℕ) → at < k → k ≤ length l → f k ≡ g k) → events_by r f ≡ events_by r g
same l at f g (Found e k) m h = ap (λ (es : List Event). e ∷ es) (h k m.0 m.1)
same l at f g (Bad k) m h = refl
same l at f g Finished m h = refl

-- more fuel than there are bytes left changes nothing
fuel : (i j : ℕ) (l : List ℕ) (at : ℕ) → length l ≤ at + i → length l ≤ at + j → events_from i l at ≡ events_from j l at
unfolding events_from
fuel zero zero l at h h' = refl
fuel zero (suc j) l at h h' = rw (finished l at (omega arith))
fuel (suc i) zero l at h h' = rw (finished l at (omega arith))
fuel (suc i) (suc j) l at h h' =
    same l at (λ k. events_from i l k) (λ k. events_from j l k) (read_at l at) (goes_on_lem l at)
    (λ k m o. fuel i j l k (omega arith) (omega arith))

-- the events from a place on
abbrev pub left : List ℕ → ℕ → List Event
left l at = events_from (length l - at) l at

pub whole : (l : List ℕ) → events_in l ≡ left l 0
unfolding events_in
whole l = rw (sub-zero (length l))

-- one reading more
pub unrolled : (l : List ℕ) (at : ℕ) → left l at ≡ events_by (read_at l at) (λ k. left l k)
unfolding events_from
unrolled l at =
    fuel (length l - at) (suc (length l)) l at (omega arith) (omega arith)
    ∙ same l at (λ k. events_from (length l) l k) (λ k. left l k) (read_at l at) (goes_on_lem l at)
    (λ k m o. fuel (length l) (length l - k) l k (omega arith) (omega arith))

-- no event was read
abbrev pub NoneFound : Reading → Type 0
NoneFound r = (e : Event) (k : ℕ) → r ≡ Found e k → ⊥

none_read : (r : Reading) (go : ℕ → List Event) → NoneFound r → events_by r go ≡ []
none_read (Found e k) go h = absurd (h e k refl)
none_read (Bad k) go h = refl
none_read Finished go h = refl

pub stopped : (l : List ℕ) (at : ℕ) (r : Reading) → r ≡ read_at l at → NoneFound r → left l at ≡ []
stopped l at r e h = unrolled l at ∙ rw (← e) (none_read r (λ k. left l k) h)

pub read_on : (l : List ℕ) (at : ℕ) {e : Event} {k : ℕ} → read_at l at ≡ Found e k → left l at ≡ e ∷ left l k
read_on l at r = unrolled l at ∙ rw r

-- what is read is an event that a log may hold
abbrev Good : Reading → Type 0
Good (Found e k) = is_event e ≡ true
Good (Bad k) = Unit {0}
Good Finished = Unit {0}

front_good : (l : List ℕ) → Good (read_front l)
unfolding read_front
front_good [] = tt
front_good (k ∷ l) =
    cond_both (eqb (body_of k) 0 || ltb (length l) (body_of k)) _ _ Good (λ t. tt)
    (λ t. cond_both (is_event (front_event (k ∷ l))) _ _ Good (λ u. u) (λ u. tt))

placed_good : (at : ℕ) (r : Reading) → Good r → Good (placed at r)
placed_good at (Found e k) g = g
placed_good at (Bad k) g = tt
placed_good at Finished g = tt

pub read_good : (l : List ℕ) (at : ℕ) {e : Event} {k : ℕ} → read_at l at ≡ Found e k → is_event e ≡ true
unfolding read_at
read_good l at r = subst Good r (placed_good at (read_front (drop at l)) (front_good (drop at l)))

-- a log that reads whole has the events that it reads as
reads_from : {m : List ℕ} {es : List Event} → Reads m es → (l : List ℕ) (at : ℕ) → drop at l ≡ m → left l at ≡ es
unfolding read_at
reads_from end l at e = unrolled l at ∙ rw (e, front_empty [] refl)
reads_from {es = x ∷ es} (next m r rest) l at e =
    let p : drop (at + m) l ≡ drop m (drop at l) = sym (drop-drop m at l) in
    unrolled l at ∙ rw (e, r) (ap (λ (es : List Event). x ∷ es) (reads_from rest l (at + m) (rw (p, e))))

pub reads_events : (l : List ℕ) (es : List Event) → Reads l es → events_in l ≡ es
reads_events l es r = whole l ∙ reads_from r l 0 refl

-- what is said of the event at a place goes by what is read there
pub named : (v : Variable) (l : List ℕ) (at : ℕ) (r : Reading) → is_length v.length ≡ true → read_at l at ≡ r → named_by v r ≡ name_at v l at
unfolding name_at
named v l at r h e = rw (h, e)
