-- Words that have the same bytes. Assumes nothing.
use Prim.Native.Nat.{ℕ, ◌≤◌}
use mathlib.Core.Path.{◌≡◌}
use mathlib.Core.List.{List, [], ◌∷◌}
use Rattle.laws.specs.Lists.{each}
use Rattle.laws.specs.Lending.{size, Logged}
use Rattle.laws.proofs.OneByOne.{logged, unlogged}
use Rattle.decimal.specs.Words.{Word, word_bytes}

module _ (v w : Word) (same : word_bytes v ≡ word_bytes w) where
  pub respelt : {old new : List ℕ} {n : ℕ} → Logged word_bytes (v ∷ []) old new n → Logged word_bytes (w ∷ []) old new n
  respelt l = logged word_bytes w (rw (← same) (unlogged word_bytes v l))

  pub room_respelt : {k : ℕ} → size word_bytes (w ∷ []) ≤ k → size word_bytes (v ∷ []) ≤ k
  unfolding size each
  room_respelt h = rw same h
