-- Bytes that agree in their fields are the same record, whatever their kinds. Assumes nothing.
use Prim.Native.Nat.{ℕ, zero, suc, ◌+◌, ◌<◌, ◌≤◌}
use native.Mathlib.Omega.{arith}
use mathlib.Core.Path.{◌≡◌, refl}
use mathlib.Core.List.{List}
use lib.ListN.{get_or}
use lib.Dec.{lit≤}
use Rattle.laws.specs.Words.{number_at}
use Rattle.digest.specs.Digests.{digest_in}
use Rattle.record.specs.Records.{everyday_bytes, record_bytes, brought_digest, record_digest, record_of}

-- bytes that agree from place 1 up to an end make the same numbers there
module _ (b c : List ℕ) (end : ℕ) (agree : (i : ℕ) → 1 ≤ i → i < end → get_or b i 0 ≡ get_or c i 0) where
  pub same_number : (i n : ℕ) → 1 ≤ i → i + n ≤ end → number_at b i n ≡ number_at c i n
  unfolding number_at
  same_number i zero h k = refl
  same_number i (suc n) h k = rw (agree i h (omega arith), same_number (i + 1) n (omega arith) (omega arith))

  -- the digest that they bring
  pub same_brought : record_bytes ≤ end → brought_digest b ≡ brought_digest c
  same_brought e = rw (agree 36 (lit≤ tt) (omega (arith, e)), agree 37 (lit≤ tt) (omega (arith, e)), same_number 38 2 (lit≤ tt) (omega (arith, e)))

  -- and the record, for a digest and a segment
  pub same_record :
      everyday_bytes ≤ end → digest_in (record_digest b) ≡ digest_in (record_digest c) → get_or b record_bytes 0 ≡ get_or c record_bytes 0
      → record_of b ≡ record_of c
  unfolding record_of
  same_record e d s =
      rw (
        byte 3 (lit≤ tt) (lit≤ tt),
        byte 4 (lit≤ tt) (lit≤ tt),
        byte 5 (lit≤ tt) (lit≤ tt),
        byte 6 (lit≤ tt) (lit≤ tt),
        byte 7 (lit≤ tt) (lit≤ tt),
        byte 8 (lit≤ tt) (lit≤ tt),
        byte 9 (lit≤ tt) (lit≤ tt),
        byte 10 (lit≤ tt) (lit≤ tt),
        byte 11 (lit≤ tt) (lit≤ tt),
        byte 12 (lit≤ tt) (lit≤ tt),
        byte 13 (lit≤ tt) (lit≤ tt),
        byte 14 (lit≤ tt) (lit≤ tt),
        byte 15 (lit≤ tt) (lit≤ tt),
        byte 16 (lit≤ tt) (lit≤ tt),
        byte 17 (lit≤ tt) (lit≤ tt),
        byte 34 (lit≤ tt) (lit≤ tt),
        byte 35 (lit≤ tt) (lit≤ tt),
        same_number 1 2 (lit≤ tt) (omega (arith, e)),
        same_number 18 8 (lit≤ tt) (omega (arith, e)),
        same_number 26 8 (lit≤ tt) (omega (arith, e)),
        d,
        s,
      )
    where
      byte : (i : ℕ) → 1 ≤ i → i < everyday_bytes → get_or b i 0 ≡ get_or c i 0
      byte i h k = agree i h (omega (arith, e))
