-- Reading a log whole, as a function, is `Reads`; and it is broken where a front reads and what follows is refused.
-- Assumes nothing.
use Prim.Native.Nat.{ℕ, zero, suc, ◌≤◌, ◌<◌}
use native.Mathlib.Omega.{arith}
use mathlib.Core.Path.{◌≡◌, refl, sym, ap, ◌∙◌}
use mathlib.Core.Logic.{◌↔◌}
use mathlib.Core.List.{List, [], ◌∷◌, ◌++◌, append_assoc}
use lib.ListN.{length, take, drop, length-drop, length-take, take-append-drop}
use lib.Seq.{drop-append-le, drop_at}
use Rattle.std.specs.Prelude.{Ok}
use Rattle.laws.specs.declared.refusals.Refusal.{Refusal}
use Rattle.definition.specs.declared.Event.{Event}
use Rattle.definition.specs.declared.Reading.{Reading}
use Rattle.definition.specs.declared.Reading.TheVariants.{Found, Bad, Finished}
use Rattle.definition.specs.Readings.{read_front, Reads, end, next}
use Rattle.event.specs.Wholes.{Whole, all, broken, in_front, onward, whole_of, Broken}
use Rattle.event.specs.Counts.{count_in, counted_of}
use Rattle.event.proofs.Fronts.{Within, within, holds, front_empty}
use Rattle.event.proofs.Stable.{front_stable, front_shrinks}
use Rattle.event.proofs.Walks.{unrolled}

-- from what a log reads as to the function
pub reads_whole : (l : List ℕ) (es : List Event) → Reads l es → whole_of l ≡ all es
reads_whole l es end = unrolled [] ∙ rw (front_empty [] refl)
reads_whole l es (next {e = e} {es = rest} n f r) = unrolled l ∙ rw f (ap (in_front e) (reads_whole (drop n l) rest r))

behind_reads : (a b : List ℕ) (es : List Event) (k : Refusal) → Reads a es → read_front b ≡ Bad k → whole_of (a ++ b) ≡ broken es k
behind_reads a b es k end f = unrolled b ∙ rw f
behind_reads a b es k (next {e = e} {es = rest} n g r) f =
    let c = holds a g in
    unrolled (a ++ b) ∙ rw (front_stable a b g, drop-append-le n a b c.inside) (ap (in_front e) (behind_reads (drop n a) b rest k r f))

pub broken_whole : (l : List ℕ) (es : List Event) (k : Refusal) → Broken l es k → whole_of l ≡ broken es k
broken_whole l es k h = rw h.whole (behind_reads h.front h.rest es k h.before h.refused)

-- and back: what the function says of a log
abbrev Says : List ℕ → Whole → Type 0
Says l (all es) = Reads l es
Says l (broken es k) = Broken l es k

says_event : (l : List ℕ) (e : Event) (n : ℕ) → read_front l ≡ Found e n → (w : Whole) → Says (drop n l) w → Says l (in_front e w)
says_event l e n f (all es) s = next {es = es} n f s
says_event l e n f (broken es k) s =
    let c = holds l f in
    let long : length (take n l) ≡ n = omega (arith, length-take n l, c.inside) in
    record {
      front = take n l ++ s.front;
      rest = s.rest;
      whole = sym (take-append-drop n l) ∙ ap (λ (x : List ℕ). take n l ++ x) s.whole ∙ sym (append_assoc (take n l) s.front s.rest);
      before =
          next {es = es} n (front_stable (take n l) s.front (front_shrinks l n f (omega arith)))
          (rw (drop_at (take n l) s.front n long) s.before);
      refused = s.refused;
    }

no_bytes : (l : List ℕ) → length l ≡ 0 → Reads l []
no_bytes [] h = end
no_bytes (x ∷ l) h = absurd (omega arith)

says_front :
    (l : List ℕ) (r : Reading) → read_front l ≡ r → Within l r
    → ((n : ℕ) → 0 < n → n ≤ length l → Says (drop n l) (whole_of (drop n l))) → Says l (onward r (λ n. whole_of (drop n l)))
says_front l (Found e n) f w later = says_event l e n f (whole_of (drop n l)) (later n (omega (arith, w.long)) w.inside)
says_front l (Bad k) f w later = record { front = []; rest = l; whole = refl; before = end; refused = f }
says_front l Finished f w later = no_bytes l w

says_by : (n : ℕ) (l : List ℕ) → length l ≤ n → Says l (whole_of l)
says_by zero l h = rw (unrolled l) (says_front l (read_front l) refl (within l) (λ m p q. absurd (omega arith)))
says_by (suc n) l h =
    rw (unrolled l) (says_front l (read_front l) refl (within l) (λ m p q. let s = length-drop m l in says_by n (drop m l) (omega arith)))

says : (l : List ℕ) → Says l (whole_of l)
says l = says_by (length l) l (omega arith)

pub whole_reads : (l : List ℕ) (es : List Event) → (whole_of l ≡ all es) ↔ Reads l es
whole_reads l es = ((λ h. rw h at (says l)), (λ r. reads_whole l es r))

pub whole_broken : (l : List ℕ) (es : List Event) (k : Refusal) → (whole_of l ≡ broken es k) ↔ Broken l es k
whole_broken l es k = ((λ h. rw h at (says l)), (λ b. broken_whole l es k b))

-- a log that reads whole has as many events as it reads as
pub reads_count : (l : List ℕ) (es : List Event) → Reads l es → counted_of l ≡ Ok (length es)
unfolding counted_of
reads_count l es r = ap count_in (reads_whole l es r)
