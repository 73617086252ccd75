-- Things that are written one at a time: a writer of one alone, and a run that takes one after the other from those that are left.
-- Assumes nothing.
use Prim.Native.Nat.{ℕ, ◌^◌, ◌≤◌, ◌<◌}
use mathlib.Core.Path.{◌≡◌, ap}
use mathlib.Core.List.{List, [], ◌∷◌, ◌++◌, append-nil}
use lib.ListN.{length, drop}
use Rattle.laws.specs.Lists.{each, flat}
use Rattle.laws.specs.Lending.{size, Logged}
use Rattle.laws.proofs.Lending.{Going, silent, whole}

-- one thing's bytes at the front
module _ {A : Type 0} (enc : A → List ℕ) (e : A) where
  one_bytes : each enc (e ∷ []) ≡ enc e
  unfolding each
  one_bytes = append-nil (enc e)

  pub one_size : size enc (e ∷ []) ≡ length (enc e)
  unfolding size
  one_size = ap length one_bytes

  pub logged :
      {old new : List ℕ} {n : ℕ}
      → (n ≡ length (enc e)) × (new ≡ enc e ++ drop (length (enc e)) old) → Logged enc (e ∷ []) old new n
  logged w = record { count = rw one_bytes w.0; bytes = rw one_bytes w.1 }

  pub unlogged :
      {old new : List ℕ} {n : ℕ}
      → Logged enc (e ∷ []) old new n → (n ≡ length (enc e)) × (new ≡ enc e ++ drop (length (enc e)) old)
  unlogged l = (rw one_bytes at l.count, rw one_bytes at l.bytes)

module _ {A : Type 0} {enc : A → List ℕ} where
  -- all are left
  pub begins : {all es : List A} {old : List ℕ} → es ≡ all → size enc all ≤ length old → length old < 2 ^ 64 → Going enc all (es ∷ []) old old 0
  unfolding flat
  begins {es = es} {old} e h k = record { done = []; rest = rw (append-nil es) e; logged = silent enc old; left = h; small = k }

  -- the first of those that are left, and then the others
  pub one_more :
      {all es : List A} {old mid : List ℕ} {m : ℕ} (x : A) (xs : List A)
      → es ≡ x ∷ xs → Going enc all (es ∷ []) old mid m → Going enc all ((x ∷ []) ∷ xs ∷ []) old mid m
  unfolding flat
  one_more x xs e g = let h = rw e at g in record { done = h.done; rest = h.rest; logged = h.logged; left = h.left; small = h.small }

  -- none is left
  pub no_more : {all es : List A} {old mid : List ℕ} {m : ℕ} → es ≡ [] → Going enc all (es ∷ []) old mid m → Logged enc all old mid m
  unfolding flat
  no_more e g = let h = rw e at g in whole (record { done = h.done; rest = h.rest; logged = h.logged; left = h.left; small = h.small })
