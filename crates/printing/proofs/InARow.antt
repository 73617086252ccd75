-- Two and three texts written one after the other, each to the part behind those before it. Assumes nothing.
use Prim.Native.Nat.{ℕ, ◌+◌, ◌^◌, ◌≤◌, ◌<◌}
use mathlib.Core.List.{List, [], ◌∷◌}
use lib.ListN.{length}
use Rattle.laws.specs.Lists.{flat}
use Rattle.laws.specs.Lending.{size, Logged}
use Rattle.laws.proofs.Lending.{part, back, first, next, fits, whole}
use Rattle.decimal.specs.Words.{Word, word_bytes}

module _ {xs : List Word} {old mid : List ℕ} {m : ℕ} (a : Logged word_bytes xs old mid m) where
  pub second_fits :
      (ys : List Word) (todo : List (List Word)) → size word_bytes (flat (xs ∷ ys ∷ todo)) ≤ length old → length old < 2 ^ 64
      → size word_bytes ys ≤ length (part mid m)
  second_fits ys todo h k = fits (first (ys ∷ todo) a h k)

  module _ {ys : List Word} {new : List ℕ} {n : ℕ} (b : Logged word_bytes ys (part mid m) new n) where
    pub two :
        size word_bytes (flat (xs ∷ ys ∷ [])) ≤ length old → length old < 2 ^ 64
        → Logged word_bytes (flat (xs ∷ ys ∷ [])) old (back mid m new) (m + n)
    two h k = whole (next (first (ys ∷ []) a h k) b)

    module _ (zs : List Word) (h : size word_bytes (flat (xs ∷ ys ∷ zs ∷ [])) ≤ length old) (k : length old < 2 ^ 64) where
      pub third_fits : size word_bytes zs ≤ length (part (back mid m new) (m + n))
      third_fits = fits (next (first (ys ∷ zs ∷ []) a h k) b)

      pub three :
          {last : List ℕ} {l : ℕ} → Logged word_bytes zs (part (back mid m new) (m + n)) last l
          → Logged word_bytes (flat (xs ∷ ys ∷ zs ∷ [])) old (back (back mid m new) (m + n) last) (m + n + l)
      three c = whole (next (next (first (ys ∷ zs ∷ []) a h k) b) c)
