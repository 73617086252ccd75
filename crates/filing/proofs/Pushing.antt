-- One byte more: the laws that the code's proofs ask for. Assumes nothing.
use Prim.Native.Nat.{ℕ, ◌+◌, ◌≤◌, ◌<◌}
use native.Mathlib.Numerals.{add-one}
use native.Mathlib.Omega.{arith}
use mathlib.Core.Path.{◌≡◌, refl, ap, ◌∙◌}
use mathlib.Core.Bool.{Bool, true, false, cond}
use mathlib.Core.List.{List, [], ◌∷◌, ◌++◌}
use lib.ListN.{length, get_or, take, drop, set, drop_of_length-le}
use lib.Seq.{take-suc-set, drop-cons}
use lib.Dec.{eqb, ltb}
use borrow.Author.Tests.{eqb-false, lt-ltb, le-ltb, ltb-false}
use Rattle.laws.specs.Words.{number_at}
use Rattle.totals.specs.Sheets.{most_log_bytes}
use Rattle.filing.specs.declared.feed.Part.{Part}
use Rattle.filing.specs.declared.feed.Part.TheVariants.{Header, Length, Log}
use Rattle.filing.specs.declared.feed.Feed.{Feed}
use Rattle.filing.specs.declared.feed.Feed.TheVariants.{Reading, Refused}
use Rattle.filing.specs.Feeds.{part_size, waiting_feed, headed, logged, sized, completed, have_of, State, state_of, is_full, pushed, fed, IsOpen}

-- one byte more at the end of what is pending
pub pending_grown : (carry : List ℕ) (i b : ℕ) → i < length carry → take (i + 1) (set carry i b) ≡ take i carry ++ (b ∷ [])
pending_grown carry i b h = rw add-one (take-suc-set carry i b h)

-- a part that begins: it has none of its bytes yet, and room for them
pub record Begun (f : Feed) : Type 0 where
  pub none : have_of f ≡ 0
  pub within : IsOpen f

begun_waiting : (k : ℕ) → Begun (waiting_feed k)
begun_waiting k = go (eqb k 0)
  where
    go : (t : Bool) → Begun (cond t (Reading Length 0) (Refused k))
    go true = record { none = refl; within = (omega arith, omega arith) }
    go false = record { none = refl; within = tt }

begun_sized : (w : List ℕ) (n : ℕ) → Begun (sized w n).0
unfolding sized logged
begun_sized w n = go (ltb most_log_bytes n) refl (eqb n 0) refl
  where
    go : (s : Bool) → ltb most_log_bytes n ≡ s → (t : Bool) → eqb n 0 ≡ t → Begun (cond s (Refused 2, w) (cond t (logged w []) (Reading (Log n) 0, w))).0
    go true e t d = record { none = refl; within = tt }
    go false e true d = begun_waiting _
    go false e false d = record { none = refl; within = (omega (arith, eqb-false n 0 d), ltb-false most_log_bytes n e) }

pub begun : (part : Part) (w item : List ℕ) → Begun (completed part w item).0
unfolding completed headed logged
begun Header w item = begun_waiting _
begun Length w item = begun_sized w (number_at item 0 4)
begun (Log n) w item = begun_waiting _

module _ (part : Part) (have : ℕ) (w carry : List ℕ) (b : ℕ) where
  pub full : is_full part have w ≡ true → state_of (Refused 10) w carry ≡ pushed (state_of (Reading part have) w carry) b
  unfolding pushed
  full e = rw e

  pub growing :
      is_full part have w ≡ false → have + 1 < part_size part → have < length carry
      → state_of (Reading part (have + 1)) w (set carry have b) ≡ pushed (state_of (Reading part have) w carry) b
  unfolding pushed
  growing e l m =
      rw (e, lt-ltb (have + 1) (part_size part) l)
      (ap (λ (p : List ℕ). record { feed = Reading part (have + 1); words = w; pending = p }) (pending_grown carry have b m))

  pub ending :
      is_full part have w ≡ false → part_size part ≤ have + 1 → have < length carry
      → (r : Feed) (u : List ℕ) → (r, u) ≡ completed part w (take (have + 1) (set carry have b))
      → state_of r u (set carry have b) ≡ pushed (state_of (Reading part have) w carry) b
  unfolding pushed
  ending e l m r u q =
      let p : (r, u) ≡ completed part w (take have carry ++ (b ∷ [])) = q ∙ ap (completed part w) (pending_grown carry have b m) in
      let z : have_of r ≡ 0 = ap (λ (x : Feed × List ℕ). have_of x.0) p ∙ (begun part w (take have carry ++ (b ∷ []))).none in
      rw (e, le-ltb (have + 1) (part_size part) l, ← p)
      (ap (λ (n : ℕ). record { feed = r; words = u; pending = take n (set carry have b) }) z)

pub refused : (k : ℕ) (w carry : List ℕ) (b : ℕ) → state_of (Refused k) w carry ≡ pushed (state_of (Refused k) w carry) b
unfolding pushed
refused k w carry b = refl

-- blocks one after the other are one
pub fed_append : (s : State) (xs ys : List ℕ) → fed s (xs ++ ys) ≡ fed (fed s xs) ys
unfolding fed
fed_append s [] ys = refl
fed_append s (x ∷ xs) ys = fed_append (pushed s x) xs ys

pub step : (s : State) (block : List ℕ) (i : ℕ) → i < length block → fed s (drop i block) ≡ fed (pushed s (get_or block i 0)) (drop (i + 1) block)
unfolding fed
step s block i h = rw (add-one, drop-cons block i 0)

pub over : (s : State) (block : List ℕ) (i : ℕ) → length block ≤ i → fed s (drop i block) ≡ s
unfolding fed
over s block i h = let e : drop i block ≡ [] = drop_of_length-le block h in ap (fed s) e
