-- First is the least number with a part verdict, last the greatest with a whole one. Assumes nothing.
use Prim.Native.Nat.{ℕ, zero, suc, ◌+◌, ◌<◌}
use native.Mathlib.Omega.{arith}
use mathlib.Core.Path.{◌≡◌, refl, ◌∙◌}
use mathlib.Core.List.{List, [], ◌∷◌}
use mathlib.Core.Bool.{Bool, true, false}
use lib.ListN.{length}
use lib.Dec.{ltb}
use borrow.Author.Tests.{ltb-true, ltb-false}
use Rattle.std.specs.Prelude.{Option, None, Some}
use Rattle.std.specs.Bool.{then_some}
use Rattle.watching.specs.Tallies.{tally_of}
use Rattle.watching.specs.Traces.{Pair, verdicts_of, earlier, later, fresh}
use Rattle.watching.specs.declared.verdicts.Variable.{Variable}
use Rattle.trusting.specs.Merges.{shifted, merged}
use Rattle.trusting.specs.Promises.{parts_at, wholes_at, IsFirst, IsLast, FirstIsLeast, LastIsGreatest}
use Rattle.trusting.proofs.Merging.{pair_watch, whole_watch, watch_merged}

one_more : (i : ℕ) → 1 + i ≡ suc i
one_more i = omega arith

none_there : (n : ℕ) → ltb 0 n ≡ false → n ≡ 0
none_there n e = omega (arith, ltb-false 0 n e)

-- a place in front of n others: g is what f is further on
module _ (f g : ℕ → ℕ) (n : ℕ) (next : (j : ℕ) → f (suc j) ≡ g j) where
  front_none : ltb 0 (f 0) ≡ false → ((j : ℕ) → j < n → g j ≡ 0) → (j : ℕ) → j < suc n → f j ≡ 0
  front_none e h zero l = none_there (f 0) e
  front_none e h (suc j) l = next j ∙ h j (omega arith)

  first_front : (t : Bool) → ltb 0 (f 0) ≡ t → (x : Option ℕ) → IsFirst g n x → IsFirst f (suc n) (earlier (then_some t 0) (shifted 1 x))
  first_front true e x h = (omega arith, ltb-true 0 (f 0) e, λ j l. absurd (omega (arith, l)))
  first_front false e (Some i) h = rw (one_more i) (omega (arith, h.0), rw (next i) h.1, before)
    where
      before : (j : ℕ) → j < suc i → f j ≡ 0
      before zero l = none_there (f 0) e
      before (suc j) l = next j ∙ h.2 j (omega arith)
  first_front false e None h = front_none e h

  last_front : (t : Bool) → ltb 0 (f 0) ≡ t → (x : Option ℕ) → IsLast g n x → IsLast f (suc n) (later (then_some t 0) (shifted 1 x))
  last_front t e (Some i) h = rw (one_more i) (omega (arith, h.0), rw (next i) h.1, after)
    where
      after : (j : ℕ) → suc i < j → j < suc n → f j ≡ 0
      after zero l m = absurd (omega (arith, l))
      after (suc j) l m = next j ∙ h.2 j (omega (arith, l)) (omega (arith, m))
  last_front true e None h = (omega arith, ltb-true 0 (f 0) e, after)
    where
      after : (j : ℕ) → 0 < j → j < suc n → f j ≡ 0
      after zero l m = absurd (omega (arith, l))
      after (suc j) l m = next j ∙ h j (omega (arith, m))
  last_front false e None h = front_none e h

whole_first : (v : Variable) (ps : List Pair) → IsFirst (parts_at v ps) (length ps) (whole_watch v ps).first
unfolding whole_watch pair_watch merged fresh
whole_first v [] = λ j l. absurd (omega (arith, l))
whole_first v (p ∷ ps) =
    first_front (parts_at v (p ∷ ps)) (parts_at v ps) (length ps) (λ j. refl)
    (ltb 0 (tally_of (verdicts_of v p)).part) refl (whole_watch v ps).first (whole_first v ps)

whole_last : (v : Variable) (ps : List Pair) → IsLast (wholes_at v ps) (length ps) (whole_watch v ps).last
unfolding whole_watch pair_watch merged fresh
whole_last v [] = λ j l. absurd (omega (arith, l))
whole_last v (p ∷ ps) =
    last_front (wholes_at v (p ∷ ps)) (wholes_at v ps) (length ps) (λ j. refl)
    (ltb 0 (tally_of (verdicts_of v p)).whole) refl (whole_watch v ps).last (whole_last v ps)

pub first_is_least : FirstIsLeast
first_is_least v ps w h = rw (watch_merged v w ps h) (whole_first v ps)

pub last_is_greatest : LastIsGreatest
last_is_greatest v ps w h = rw (watch_merged v w ps h) (whole_last v ps)
