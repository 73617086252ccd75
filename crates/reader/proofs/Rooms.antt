-- The room of a place: the bytes that are kept, and zeros behind them. Assumes nothing.
use Prim.Native.Nat.{ℕ, ◌+◌, ◌-◌, ◌≤◌}
use native.Mathlib.Omega.{arith}
use mathlib.Core.Path.{◌≡◌, sym, ap, ◌∙◌}
use mathlib.Core.List.{List}
use lib.ListN.{length, take, drop, replicate, length-drop}
use borrow.Rule.Slice.PartMut.{put_mid, same_len_mid}
use Rattle.std.proofs.lemmas.List.{drop-drop, length-take-le}
use Rattle.std.proofs.lemmas.Slice.{drop-put_mid}

-- behind bytes that are added stand zeros
pub zeros_left :
    (a k : ℕ) (room new : List ℕ) → length room ≡ 160 → length new ≡ k → a + k ≤ 160 → drop a room ≡ drop a (replicate 160 0)
    → drop (a + k) (put_mid a k room new) ≡ drop (a + k) (replicate 160 0)
zeros_left a k room new long e h z =
    drop-put_mid a k room new (a + k) (omega arith) (omega (arith, long, h)) e
    ∙ sym (drop-drop k a room)
    ∙ ap (drop k) z
    ∙ drop-drop k a (replicate 160 0)

-- so the room stays one of a place
module _ (a : ℕ) (room kept more new : List ℕ) where
  inside : take a room ≡ kept → length kept + length more ≤ 160 → a ≤ 160 → length room ≡ 160 → a + length more ≤ 160
  inside v fits h long = omega (arith, fits, ap length v, length-take-le a room (omega (arith, h, long)))

  same_size : a + length more - a ≡ length more
  same_size = omega arith

  pub added_long :
      take a room ≡ kept → length kept + length more ≤ 160 → a ≤ 160 → length room ≡ 160 → new ≡ more
      → length (put_mid a (a + length more - a) room new) ≡ 160
  added_long v fits h long e =
      let there : length more ≤ length (drop a room) = omega (arith, inside v fits h long, long, length-drop a room) in
      rw same_size (same_len_mid a (length more) room new (ap length e ∙ sym (length-take-le (length more) (drop a room) there)) ∙ long)

  pub added_zeros :
      take a room ≡ kept → length kept + length more ≤ 160 → a ≤ 160 → length room ≡ 160 → drop a room ≡ drop a (replicate 160 0) → new ≡ more
      → drop (a + length more) (put_mid a (a + length more - a) room new) ≡ drop (a + length more) (replicate 160 0)
  added_zeros v fits h long z e = rw same_size (zeros_left a (length more) room new long (ap length e) (inside v fits h long) z)
