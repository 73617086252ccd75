-- The last arm of a match whose keys stand one after the other: what they leave, all ruled out. Assumes nothing.
use Prim.Native.Nat.{ℕ, zero, suc, ◌+◌, ◌<◌, ◌≤◌, zero-le}
use native.Mathlib.Nat.{add-zero, add-suc, zero-add, eq-zero-or-pos}
use native.Mathlib.Omega.{arith}
use mathlib.Core.Path.{◌≡◌}
use mathlib.Core.Logic.{⊎_elim}
use mathlib.Core.List.{List, ◌∷◌}
use lib.ListN.{length, get_or, get_or-eq_default}
use Rattle.laws.proofs.Span.{past}

-- o is none of the n numbers from lo on, in the order in which a match rules them out; X is what was ruled out before them
abbrev pub Ruled : Type 0 → ℕ → ℕ → ℕ → Type 0
Ruled X o lo zero = X
Ruled X o lo (suc n) = Ruled X o lo n × (o ≡ lo + n → ⊥)

-- so it lies past them, where it is not before them
pub past_keys : (X : Type 0) {o : ℕ} (lo n : ℕ) → Ruled X o lo n → lo ≤ o → lo + n ≤ o
past_keys X lo zero r h = rw (add-zero lo) h
past_keys X lo (suc n) r h = rw (add-suc lo n) (past (lo + n) (past_keys X lo n r.0 h) r.1)

-- the keys are 0, 1, .. below n
pub past_all : (n o : ℕ) → Ruled (Unit {0}) o 0 n → n ≤ o
past_all n o r = rw zero-add at (past_keys (Unit {0}) 0 n r zero-le)

-- the keys are 1, 2, .. for the places of a table after the first, which has d
pub otherwise : {A : Type 0} (d : A) (xs : List A) (o : ℕ) → Ruled (Unit {0}) o 1 (length xs) → get_or (d ∷ xs) o d ≡ d
otherwise d xs o r = ⊎_elim (λ (e : o ≡ 0). rw e) (λ (h : 0 < o). beyond (omega (arith, past_keys (Unit {0}) 1 (length xs) r h))) (eq-zero-or-pos o)
  where
    beyond : length xs < o → get_or (d ∷ xs) o d ≡ d
    beyond h = get_or-eq_default (d ∷ xs) d {n = o} h
