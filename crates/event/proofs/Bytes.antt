-- A log that reads whole is what a writer writes of its events, where its numbers are bytes. Assumes nothing.
use Prim.Native.Nat.{ℕ, zero, suc, ◌+◌, ◌*◌, ◌/◌, ◌%◌, ◌≤◌}
use native.Mathlib.Omega.{arith}
use native.Mathlib.Numerals.{add-one}
use mathlib.Core.Path.{◌≡◌, refl, sym, ap, ap₂, ◌∙◌}
use mathlib.Core.List.{List, [], ◌∷◌, ◌++◌}
use lib.ListN.{length, get_or, take, drop, take-append-drop}
use lib.Seq.{drop-cons, take-suc, get_or-drop}
use Rattle.laws.specs.Words.{number_at, little}
use Rattle.laws.specs.Lists.{each}
use Rattle.definition.specs.Logs.{event_bytes, bytes_of}
use Rattle.definition.specs.Readings.{body_of, front_event, read_front, Reads, end, next}
use Rattle.definition.specs.declared.Event.{Event}
use Rattle.definition.specs.declared.Reading.TheVariants.{Found}
use Rattle.event.specs.Held.{Bytes}
use Rattle.event.proofs.Fronts.{holds}

bytes_drop : (l : List ℕ) (n : ℕ) → Bytes l → Bytes (drop n l)
bytes_drop l n h i = rw (get_or-drop) (h (n + i))

-- the bytes of the number that bytes make
little_number : (n i : ℕ) (l : List ℕ) → Bytes l → i + n ≤ length l → little n (number_at l i n) ≡ take n (drop i l)
unfolding little number_at
little_number zero i l b h = refl
little_number (suc n) i l b h =
    let x = b i in
    let m : (get_or l i 0 + 256 * number_at l (i + 1) n) % 256 ≡ get_or l i 0 = omega arith in
    let q : (get_or l i 0 + 256 * number_at l (i + 1) n) / 256 ≡ number_at l (i + 1) n = omega arith in
    rw (drop-cons l i 0 (omega arith), m, q, ← add-one i) (ap (◌∷◌ (get_or l i 0)) (little_number n (i + 1) l b (omega arith)))

one_byte : (l : List ℕ) → 1 ≤ length l → take 1 l ≡ get_or l 0 0 ∷ []
one_byte [] h = absurd (omega arith)
one_byte (x ∷ l) h = refl

two_bytes : (l : List ℕ) → 2 ≤ length l → take 2 l ≡ get_or l 0 0 ∷ get_or l 1 0 ∷ []
two_bytes [] h = absurd (omega arith)
two_bytes (x ∷ []) h = absurd (omega arith)
two_bytes (x ∷ y ∷ l) h = refl

nine_bytes : (k : ℕ) (l : List ℕ) → Bytes (k ∷ l) → 9 ≤ length l → take 9 l ≡ little 8 (number_at (k ∷ l) 1 8) ++ (get_or l 8 0 ∷ [])
nine_bytes k l b h = take-suc l 8 0 (omega arith) ∙ ap (λ (x : List ℕ). x ++ (get_or l 8 0 ∷ [])) (sym (little_number 8 1 (k ∷ l) b (omega arith)))

front_bytes :
    (k : ℕ) (l : List ℕ) → Bytes (k ∷ l) → (body_of k ≡ 0 → ⊥) → body_of k ≤ length l
    → take (1 + body_of k) (k ∷ l) ≡ event_bytes (front_event (k ∷ l))
unfolding body_of front_event event_bytes
front_bytes zero l b z h = absurd (z refl)
front_bytes (suc zero) l b z h = ap (◌∷◌ 1) (two_bytes l h)
front_bytes (suc (suc zero)) l b z h = ap (◌∷◌ 2) (two_bytes l h)
front_bytes (suc (suc (suc zero))) l b z h = ap (◌∷◌ 3) (nine_bytes 3 l b h)
front_bytes (suc (suc (suc (suc zero)))) l b z h = ap (◌∷◌ 4) (nine_bytes 4 l b h)
front_bytes (suc (suc (suc (suc (suc zero))))) l b z h = ap (◌∷◌ 5) (one_byte l h)
front_bytes (suc (suc (suc (suc (suc (suc zero)))))) l b z h = ap (◌∷◌ 6) (one_byte l h)
front_bytes (suc (suc (suc (suc (suc (suc (suc k))))))) l b z h = absurd (z refl)

found_bytes : (l : List ℕ) (e : Event) (n : ℕ) → Bytes l → read_front l ≡ Found e n → take n l ≡ event_bytes e
found_bytes [] e n b f = let c = holds [] f in absurd (omega (arith, c.inside, c.long))
found_bytes (k ∷ l) e n b f =
    let c = holds (k ∷ l) f in
    ap (λ (m : ℕ). take m (k ∷ l)) c.long ∙ front_bytes k l b c.known (omega (arith, c.inside, c.long)) ∙ ap event_bytes (sym c.event)

pub reads_bytes : (l : List ℕ) (es : List Event) → Bytes l → Reads l es → l ≡ bytes_of es
unfolding each
reads_bytes l es b end = refl
reads_bytes l es b (next {e = e} {es = rest} n f r) =
    sym (take-append-drop n l) ∙ ap₂ ◌++◌ (found_bytes l e n b f) (reads_bytes (drop n l) rest (bytes_drop l n b) r)
