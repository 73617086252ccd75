-- Room in a buffer from a start on. Assumes nothing.
use Prim.Native.Nat.{ℕ, ◌+◌, ◌-◌, ◌≤◌, ◌<◌}
use native.Mathlib.Omega.{arith}
use borrow.Author.Tests.{ltb-false, le-ltb, lt-ltb}
use mathlib.Core.Path.{◌≡◌, refl}
use mathlib.Core.Bool.{Bool, true, false, ◌||◌}
use lib.Dec.{ltb}
use Rattle.laws.specs.Lending.{lacks_room}
use Rattle.std.proofs.lemmas.Bool.{or_parts}

module _ (n start end : ℕ) where
  -- where there is room, the start is inside and so many bytes are left behind it; and the other way round
  pub starts_inside : lacks_room n start end ≡ false → start ≤ end
  starts_inside h = ltb-false end start ((or_parts (ltb end start) (ltb (end - start) n) h).0)

  pub has_left : lacks_room n start end ≡ false → n ≤ end - start
  has_left h = ltb-false (end - start) n ((or_parts (ltb end start) (ltb (end - start) n) h).1)

  pub has_room : start ≤ end → n ≤ end - start → lacks_room n start end ≡ false
  has_room s h = simp (le-ltb end start s, le-ltb (end - start) n h)

  -- fewer bytes than that from the start on, or a start past the end
  pub lacks_room_lem : end < start + n → lacks_room n start end ≡ true
  lacks_room_lem h = go (ltb end start) refl
    where
      go : (t : Bool) → ltb end start ≡ t → (t || ltb (end - start) n) ≡ true
      go true e = refl
      go false e = lt-ltb (end - start) n (omega (arith, ltb-false end start e))

-- room for more is room for less
pub room_for_less : (m n start end : ℕ) → n ≤ m → lacks_room m start end ≡ false → lacks_room n start end ≡ false
room_for_less m n start end l h =
    has_room n start end (starts_inside m start end h) (omega (arith, has_left m start end h))
