-- An event at the front of a log reads alike whatever follows it, and alone. Assumes nothing.
use Prim.Native.Nat.{ℕ, zero, suc, ◌+◌, ◌*◌, ◌≤◌}
use native.Mathlib.Omega.{arith}
use mathlib.Core.Path.{◌≡◌, refl, sym, ap, ap₂, ◌∙◌}
use mathlib.Core.List.{List, [], ◌∷◌, ◌++◌}
use lib.ListN.{length, take, drop, length-append, length-take, take-append-drop, get_or-append}
use Rattle.laws.specs.Words.{number_at}
use Rattle.registers.specs.Banks.{reg}
use Rattle.definition.specs.Readings.{body_of, front_event, read_front}
use Rattle.definition.specs.declared.Event.{Event}
use Rattle.definition.specs.declared.Event.TheVariants.{RegisterRead, RegisterWrite, MemoryRead, MemoryWrite, UnknownRead, UnknownWrite}
use Rattle.definition.specs.declared.Reading.TheVariants.{Found}
use Rattle.event.proofs.Fronts.{Holds, holds, finds}

number_stable : (n i : ℕ) (a b : List ℕ) → i + n ≤ length a → number_at (a ++ b) i n ≡ number_at a i n
unfolding number_at
number_stable zero i a b h = refl
number_stable (suc n) i a b h =
    ap₂ (λ (x y : ℕ). x + 256 * y) (get_or-append a b 0 i (omega arith)) (number_stable n (i + 1) a b (omega arith))

-- by kind: a body that is whole says the same with more behind it
event_stable : (k : ℕ) (l b : List ℕ) → body_of k ≤ length l → front_event ((k ∷ l) ++ b) ≡ front_event (k ∷ l)
unfolding front_event body_of
event_stable zero l b h = refl
event_stable (suc zero) l b h = ap₂ (λ (x y : ℕ). RegisterRead (reg x y)) (get_or-append l b 0 0 (omega arith)) (get_or-append l b 0 1 (omega arith))
event_stable (suc (suc zero)) l b h = ap₂ (λ (x y : ℕ). RegisterWrite (reg x y)) (get_or-append l b 0 0 (omega arith)) (get_or-append l b 0 1 (omega arith))
event_stable (suc (suc (suc zero))) l b h = ap₂ MemoryRead (number_stable 8 1 (3 ∷ l) b (omega arith)) (get_or-append l b 0 8 (omega arith))
event_stable (suc (suc (suc (suc zero)))) l b h = ap₂ MemoryWrite (number_stable 8 1 (4 ∷ l) b (omega arith)) (get_or-append l b 0 8 (omega arith))
event_stable (suc (suc (suc (suc (suc zero))))) l b h = ap UnknownRead (get_or-append l b 0 0 (omega arith))
event_stable (suc (suc (suc (suc (suc (suc zero)))))) l b h = ap UnknownWrite (get_or-append l b 0 0 (omega arith))
event_stable (suc (suc (suc (suc (suc (suc (suc k))))))) l b h = refl

-- two logs whose events at the front are one event, whole in both
as_well :
    (k : ℕ) (l m : List ℕ) {e : Event} {n : ℕ} → Holds (k ∷ l) e n → body_of k ≤ length m → front_event (k ∷ m) ≡ front_event (k ∷ l)
    → read_front (k ∷ m) ≡ Found e n
as_well k l m c whole s =
    finds k m c.known whole (rw (s, ← c.event) c.good) ∙ ap₂ Found (s ∙ sym c.event) (sym c.long)

-- whatever follows
pub front_stable : (l b : List ℕ) {e : Event} {n : ℕ} → read_front l ≡ Found e n → read_front (l ++ b) ≡ Found e n
front_stable [] b f = let c = holds [] f in absurd (omega (arith, c.inside, c.long))
front_stable (k ∷ l) b f =
    let c = holds (k ∷ l) f in
    let whole : body_of k ≤ length l = omega (arith, c.inside, c.long) in
    as_well k l (l ++ b) c (omega (arith, length-append l b)) (event_stable k l b whole)

-- alone, or with so many bytes
pub front_shrinks : (l : List ℕ) (m : ℕ) {e : Event} {n : ℕ} → read_front l ≡ Found e n → n ≤ m → read_front (take m l) ≡ Found e n
front_shrinks [] m f h = let c = holds [] f in absurd (omega (arith, c.inside, c.long))
front_shrinks (k ∷ l) zero f h = let c = holds (k ∷ l) f in absurd (omega (arith, c.long))
front_shrinks (k ∷ l) (suc m) f h =
    let c = holds (k ∷ l) f in
    let t = length-take m l in
    let whole : body_of k ≤ length (take m l) = omega (arith, c.inside, c.long) in
    as_well k l (take m l) c whole (sym (event_stable k (take m l) (drop m l) whole) ∙ ap (λ (x : List ℕ). front_event (k ∷ x)) (take-append-drop m l))
