-- What the stores of a writer leave is the event's bytes. Assumes nothing.
use Prim.Native.Nat.{ℕ, ◌≤◌}
use native.Mathlib.Omega.{arith}
use mathlib.Core.Path.{◌≡◌, refl}
use mathlib.Core.List.{List, [], ◌∷◌, ◌++◌}
use lib.ListN.{length, drop, set, length-append, length-drop}
use Rattle.laws.specs.Words.{little}
use Rattle.laws.proofs.Lending.{part, back, laid, stored}
use Rattle.laws.proofs.Numbers.{little_length}
use Rattle.definition.specs.Logs.{memory_bytes}

-- a kind, an address through the part that is lent on, and a size
module _ (kind a : ℕ) (old : List ℕ) {new : List ℕ} (room : 10 ≤ length old) (lent : new ≡ little 8 a ++ drop 8 (part (set old 0 kind) 1)) where
  addressed : back (set old 0 kind) 1 new ≡ (kind ∷ little 8 a) ++ drop 9 old
  addressed = laid (kind ∷ []) (little 8 a) old 8 refl (stored [] old kind refl (omega arith)) lent

  pub address_kept : length (back (set old 0 kind) 1 new) ≡ length old
  address_kept = rw addressed (simp (length-append, length-drop, little_length) (omega arith))

  pub known_bytes : (n : ℕ) → set (back (set old 0 kind) 1 new) 9 n ≡ memory_bytes kind a n ++ drop 10 old
  unfolding little
  known_bytes n = rw addressed (stored (kind ∷ little 8 a) old n (little_length 9 a) (omega arith))
