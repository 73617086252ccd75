-- A log that reads whole as some events and then others is two logs. Assumes nothing.
use Prim.Native.Nat.{ℕ, zero, suc, ◌+◌, ◌≤◌}
use native.Mathlib.Omega.{arith}
use native.Mathlib.Nat.{zero-add}
use mathlib.Core.Path.{◌≡◌, refl, sym, ap, ◌∙◌}
use mathlib.Core.List.{List, [], ◌∷◌, ◌++◌}
use lib.ListN.{length, take, drop, length-append, length-drop}
use lib.Seq.{drop-drop}
use Rattle.laws.specs.Words.{little}
use Rattle.laws.specs.Lists.{each}
use Rattle.laws.specs.Lending.{size}
use Rattle.definition.specs.Logs.{event_bytes}
use Rattle.definition.specs.Readings.{body_of, front_event, read_front, Reads, end, next}
use Rattle.definition.specs.declared.Event.{Event}
use Rattle.definition.specs.declared.Reading.TheVariants.{Found}
use Rattle.event.proofs.Fronts.{holds}
use Rattle.event.proofs.Stable.{front_shrinks}

-- an event takes as many bytes as a writer gives it
kind_long : (k : ℕ) (l : List ℕ) → (body_of k ≡ 0 → ⊥) → 1 + body_of k ≡ length (event_bytes (front_event (k ∷ l)))
unfolding body_of front_event event_bytes little
kind_long zero l h = absurd (h refl)
kind_long (suc zero) l h = refl
kind_long (suc (suc zero)) l h = refl
kind_long (suc (suc (suc zero))) l h = refl
kind_long (suc (suc (suc (suc zero)))) l h = refl
kind_long (suc (suc (suc (suc (suc zero))))) l h = refl
kind_long (suc (suc (suc (suc (suc (suc zero)))))) l h = refl
kind_long (suc (suc (suc (suc (suc (suc (suc k))))))) l h = absurd (h refl)

pub event_long : (l : List ℕ) (e : Event) (n : ℕ) → read_front l ≡ Found e n → n ≡ length (event_bytes e)
event_long [] e n f = let c = holds [] f in absurd (omega (arith, c.inside, c.long))
event_long (k ∷ l) e n f =
    let c = holds (k ∷ l) f in c.long ∙ kind_long k l c.known ∙ ap (λ (d : Event). length (event_bytes d)) (sym c.event)

pub size_cons : (e : Event) (es : List Event) → size event_bytes (e ∷ es) ≡ length (event_bytes e) + size event_bytes es
unfolding size each
size_cons e es = length-append (event_bytes e) (each event_bytes es)

pub size_nil : size event_bytes [] ≡ 0
unfolding size each
size_nil = refl

-- what the bytes before and behind a place read as
pub record Cut (l : List ℕ) (xs ys : List Event) : Type 0 where
  pub within : size event_bytes xs ≤ length l
  pub before : Reads (take (size event_bytes xs) l) xs
  pub behind : Reads (drop (size event_bytes xs) l) ys

take_none : (n : ℕ) → ◌≡◌ {A = List ℕ} (take n []) []
take_none zero = refl
take_none (suc n) = refl

drop_take : (n k : ℕ) (l : List ℕ) → drop n (take (n + k) l) ≡ take k (drop n l)
drop_take zero k l = rw (zero-add k)
drop_take (suc n) k [] = rw (take_none (suc n + k), take_none k)
drop_take (suc n) k (x ∷ l) = let e : suc n + k ≡ suc (n + k) = omega arith in rw e (drop_take n k l)

cut_cons : (l : List ℕ) (e : Event) (xs ys : List Event) (n : ℕ) → read_front l ≡ Found e n → Cut (drop n l) xs ys → Cut l (e ∷ xs) ys
cut_cons l e xs ys n f c =
    let h = holds l f in
    let s : size event_bytes (e ∷ xs) ≡ n + size event_bytes xs = size_cons e xs ∙ ap (λ (k : ℕ). k + size event_bytes xs) (sym (event_long l e n f)) in
    let d = length-drop n l in
    record {
      within = rw s (omega (arith, c.within, h.inside));
      before = rw s (next {es = xs} n (front_shrinks l (n + size event_bytes xs) f (omega arith)) (rw (drop_take n (size event_bytes xs) l) c.before));
      behind = rw (s, ← drop-drop (size event_bytes xs) n l) c.behind;
    }

pub reads_cut : (xs ys : List Event) (l : List ℕ) → Reads l (xs ++ ys) → Cut l xs ys
reads_cut [] ys l r = record { within = rw size_nil (omega arith); before = rw size_nil end; behind = rw size_nil r }
reads_cut (x ∷ xs) ys l (next n f r) = cut_cons l x xs ys n f (reads_cut xs ys (drop n l) r)
