-- What the front of a log holds, by the tests that code makes; an event that was found lies within the log. Assumes nothing.
use Prim.Native.Nat.{ℕ, ◌+◌, ◌-◌, ◌≤◌, ◌<◌}
use native.Mathlib.Omega.{arith}
use mathlib.Core.Path.{◌≡◌, refl, sym, ◌∙◌, subst}
use mathlib.Core.Bool.{Bool, true, cond, ◌||◌}
use mathlib.Core.Logic.{◌⊎◌, inl, inr}
use mathlib.Core.List.{List, [], ◌∷◌}
use lib.ListN.{length, get_or, drop, length-drop, drop_of_length-le}
use lib.Dec.{ltb, eqb}
use borrow.Author.Tests.{eq-eqb, eqb-false, ne_eqb, lt-ltb, le-ltb, ltb-false}
use Rattle.laws.specs.Words.{number_at}
use Rattle.laws.specs.declared.refusals.Refusal.TheVariants.{Malformed, Outside}
use Rattle.registers.specs.Banks.{reg}
use Rattle.std.proofs.lemmas.Bool.{cond_both, or_parts}
use Rattle.laws.proofs.Lending.{part, part_is}
use Rattle.definition.specs.declared.Event.{Event}
use Rattle.definition.specs.declared.Event.TheVariants.{RegisterRead, RegisterWrite, MemoryRead, MemoryWrite, UnknownRead, UnknownWrite}
use Rattle.definition.specs.declared.Reading.{Reading}
use Rattle.definition.specs.declared.Reading.TheVariants.{Found, Bad, Finished}
use Rattle.definition.specs.Readings.{body_of, front_event, is_event, read_front, read_at, placed}

-- by kind, the length of the body at the front
abbrev pub body : List ℕ → ℕ
body l = body_of (get_or l 0 0)

-- by kind, the event at the front
abbrev pub events : List ℕ → List Event
events l =
    UnknownRead 0
    ∷ RegisterRead (reg (get_or l 1 0) (get_or l 2 0)) ∷ RegisterWrite (reg (get_or l 1 0) (get_or l 2 0))
    ∷ MemoryRead (number_at l 1 8) (get_or l 9 0) ∷ MemoryWrite (number_at l 1 8) (get_or l 9 0)
    ∷ UnknownRead (get_or l 1 0) ∷ UnknownWrite (get_or l 1 0)
    ∷ []

-- the answer by the tests that code makes: nothing there; an unknown kind; cut short; whole, so that its contents decide
pub front_empty : (l : List ℕ) → length l ≡ 0 → read_front l ≡ Finished
unfolding read_front
front_empty [] h = refl
front_empty (k ∷ l) h = absurd (omega arith)

pub front_unknown : (l : List ℕ) {b : ℕ} → b ≡ body l → b ≡ 0 → 0 < length l → read_front l ≡ Bad Malformed
unfolding read_front
front_unknown [] is z h = absurd (omega arith)
front_unknown (k ∷ l) is z h = rw (eq-eqb (body_of k) 0 (sym is ∙ z))

pub front_cut : (l : List ℕ) {b : ℕ} → b ≡ body l → (b ≡ 0 → ⊥) → 0 < length l → length l - 1 < b → read_front l ≡ Bad Malformed
unfolding read_front
front_cut [] is ne h m = absurd (omega arith)
front_cut (k ∷ l) {b} is ne h m = let n : length l < b = omega arith in rw (← is, ne_eqb b 0 ne, lt-ltb (length l) b n)

pub front_whole :
    (l : List ℕ) {b : ℕ} {e : Event} {good : Bool}
    → b ≡ body l → (b ≡ 0 → ⊥) → b < length l → e ≡ front_event l → good ≡ is_event e
    → cond good (Found e (1 + b)) (Bad Outside) ≡ read_front l
unfolding read_front
front_whole [] is ne m p g = absurd (omega arith)
front_whole (k ∷ l) {b} is ne m p g =
    let n : b ≤ length l = omega arith in rw (← is, ne_eqb b 0 ne, le-ltb (length l) b n, ← p, ← g)

-- an event that was found: its kind is known, its body is whole, its contents are in order
pub record Holds (l : List ℕ) (e : Event) (n : ℕ) : Type 0 where
  pub known : body l ≡ 0 → ⊥
  pub long : n ≡ 1 + body l
  pub inside : n ≤ length l
  pub event : e ≡ front_event l
  pub good : is_event e ≡ true

-- what an answer says of the bytes: a refusal is one of two, and a log is finished where none is left
abbrev pub Within : List ℕ → Reading → Type 0
Within l (Found e n) = Holds l e n
Within l (Bad r) = (r ≡ Malformed) ⊎ (r ≡ Outside)
Within l Finished = length l ≡ 0

pub within : (l : List ℕ) → Within l (read_front l)
unfolding read_front
within [] = refl
within (k ∷ l) =
    cond_both (eqb (body_of k) 0 || ltb (length l) (body_of k)) _ _ (Within (k ∷ l)) (λ t. inl refl)
    (λ t. cond_both (is_event (front_event (k ∷ l))) _ _ (Within (k ∷ l))
    (λ u. let m : body_of k ≤ length l = ltb-false (length l) (body_of k) ((or_parts (eqb (body_of k) 0) (ltb (length l) (body_of k)) t).1) in
    record { known = eqb-false (body_of k) 0 ((or_parts (eqb (body_of k) 0) (ltb (length l) (body_of k)) t).0); long = refl; inside = omega arith; event = refl; good = u })
    (λ u. inr refl))

pub holds : (l : List ℕ) {e : Event} {n : ℕ} → read_front l ≡ Found e n → Holds l e n
holds l f = rw f at (within l)

-- and back
pub finds : (k : ℕ) (l : List ℕ) → (body_of k ≡ 0 → ⊥) → body_of k ≤ length l → is_event (front_event (k ∷ l)) ≡ true → read_front (k ∷ l) ≡ Found (front_event (k ∷ l)) (1 + body_of k)
finds k l known whole good = sym (front_whole (k ∷ l) refl known (omega arith) refl (sym good))

-- reading at a place: an event ends after it, within the log
abbrev pub Moves : List ℕ → ℕ → Reading → Type 0
Moves l at (Found e n) = (at < n) × (n ≤ length l)
Moves l at (Bad r) = Unit
Moves l at Finished = length l ≤ at

moved : (l : List ℕ) (at : ℕ) (r : Reading) → Within (drop at l) r → Moves l at (placed at r)
moved l at (Found e n) w = let s = length-drop at l in (omega (arith, w.long), omega (arith, w.long, w.inside))
moved l at (Bad r) w = tt
moved l at Finished w = let s = length-drop at l in omega arith

pub goes_on_lem : (l : List ℕ) (at : ℕ) → Moves l at (read_at l at)
unfolding read_at
goes_on_lem l at = moved l at (read_front (drop at l)) (within (drop at l))

-- the event that was read at a place ends further on, within the log
pub further : (l : List ℕ) (at : ℕ) {r : Reading} → r ≡ read_at l at → {e : Event} {n : ℕ} → r ≡ Found e n → (at < n) × (n ≤ length l)
further l at read {e} {n} found = subst (Moves l at) (sym read ∙ found) (goes_on_lem l at)

-- and is one that a log may hold
abbrev Good : Reading → Type 0
Good (Found e n) = is_event e ≡ true
Good (Bad r) = Unit
Good Finished = Unit

good : (l : List ℕ) (at : ℕ) (r : Reading) → Within l r → Good (placed at r)
good l at (Found e n) w = w.good
good l at (Bad r) w = tt
good l at Finished w = tt

pub read_good : (l : List ℕ) (at : ℕ) {e : Event} {n : ℕ} → read_at l at ≡ Found e n → is_event e ≡ true
unfolding read_at
read_good l at f = subst Good f (good (drop at l) at (read_front (drop at l)) (within (drop at l)))

-- at or past the end
pub finished : (l : List ℕ) (at : ℕ) → length l ≤ at → read_at l at ≡ Finished
unfolding read_at
finished l at h = rw (drop_of_length-le l {i = at} h, front_empty [] refl)

-- what the part from a place on has at its front
pub from_part : (l : List ℕ) (at : ℕ) {r : Reading} → r ≡ read_front (part l at) → placed at r ≡ read_at l at
unfolding read_at
from_part l at e = rw (e, part_is l at)
