-- What the answer on an event says of reading: its length leads to the place behind the event, and fits its bits. Assumes nothing.
use Prim.Native.Nat.{ℕ, ◌+◌, ◌-◌, ◌≤◌, ◌<◌}
use native.Mathlib.Omega.{arith}
use mathlib.Core.Path.{◌≡◌, refl}
use mathlib.Core.Bool.{◌||◌}
use mathlib.Core.List.{List, [], ◌∷◌}
use lib.ListN.{length, drop}
use lib.Dec.{ltb, eqb}
use Rattle.std.proofs.lemmas.Bool.{cond_both}
use Rattle.laws.proofs.Every.{every_at}
use Rattle.event.proofs.Fronts.{goes_on_lem}
use Rattle.definition.specs.Readings.{body_of, front_event, is_event, read_front, read_at, placed}
use Rattle.definition.specs.declared.Event.{Event}
use Rattle.definition.specs.declared.Reading.{Reading}
use Rattle.definition.specs.declared.Reading.TheVariants.{Found, Bad, Finished}
use Rattle.answers.specs.Answers.{length_from}

-- no event is longer
abbrev most : ℕ
most = 10

body_most : (k : ℕ) → body_of k < most
unfolding body_of
body_most k = every_at (λ n. n < most) (0 ∷ 2 ∷ 2 ∷ 9 ∷ 9 ∷ 1 ∷ 1 ∷ []) 0 (omega arith, (omega arith, (omega arith, (omega arith, (omega arith, (omega arith, (omega arith, tt))))))) (omega arith) k

front_most : (l : List ℕ) → length_from 0 (read_front l) ≤ most
unfolding read_front
front_most [] = omega arith
front_most (k ∷ l) =
    cond_both (eqb (body_of k) 0 || ltb (length l) (body_of k)) _ _ (λ r. length_from 0 r ≤ most) (λ t. omega arith)
    (λ t. cond_both (is_event (front_event (k ∷ l))) _ _ (λ r. length_from 0 r ≤ most) (λ u. omega (arith, body_most k)) (λ u. omega arith))

placed_length : (at : ℕ) (r : Reading) → length_from at (placed at r) ≡ length_from 0 r
placed_length at (Found e n) = omega arith
placed_length at (Bad k) = refl
placed_length at Finished = refl

length_most : (l : List ℕ) (at : ℕ) → length_from at (read_at l at) ≤ most
unfolding read_at
length_most l at = rw (placed_length at (read_front (drop at l))) (front_most (drop at l))

-- an event that was read is not long, and ends at its place and its length
pub leads_on :
    (l : List ℕ) (at : ℕ) {e : Event} {next : ℕ}
    → read_at l at ≡ Found e next → (at < next) × ((next - at ≤ most) × (at + length_from at (read_at l at) ≡ next))
leads_on l at {e} {next} r =
    let ends = (rw r at (goes_on_lem l at)).0 in
    let short = rw r at (length_most l at) in
    (ends, (short, rw r (omega arith)))
