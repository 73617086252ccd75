-- The bytes of a number as the library's integers give and take them: those of `little` and of `number_at`. Assumes nothing.
use Prim.Native.Nat.{ℕ, zero, suc, ◌+◌, ◌^◌, ◌/◌, ◌%◌}
use native.Mathlib.Omega.{arith}
use native.Mathlib.Nat.{add_assoc, pow-suc, div-div-eq-div-mul, div-one}
use mathlib.Core.Path.{◌≡◌, refl, ap, ◌∙◌}
use mathlib.Core.List.{List, [], ◌∷◌, ◌++◌}
use Rattle.std.specs.Prelude.{slice_index}
use Rattle.std.specs.Int.{Width, w16, w32, w64, byte_len, byte_at, bytes_low_first, to_le_bytes, from_le_bytes}
use Rattle.laws.specs.Words.{number_at, little}

byte_is : (k v : ℕ) → byte_at k v ≡ v / 256 ^ k % 256
byte_is zero v = rw (div-one v) refl
byte_is (suc k) v = refl

-- the n bytes of a number from byte k on
low_first : (k n v : ℕ) → bytes_low_first k n v ≡ little n (v / 256 ^ k)
unfolding little
low_first k zero v = refl
low_first k (suc n) v = rw (byte_is k v, low_first (suc k) n v, pow-suc 256 k, div-div-eq-div-mul v (256 ^ k) 256) refl

-- what a width gives, laid at the front of others
pub given : (w : Width) (v : ℕ) → to_le_bytes w v ≡ little (byte_len w) v
given w v = low_first 0 (byte_len w) v ∙ ap (little (byte_len w)) (div-one v)

module _ (v : ℕ) (rest : List ℕ) {xs ys : List ℕ} (a : xs ≡ ys) where
  pub given_4 : ys ≡ to_le_bytes w32 v → xs ++ rest ≡ little 4 v ++ rest
  given_4 e = ap (λ (l : List ℕ). l ++ rest) (a ∙ e ∙ given w32 v)

  pub given_8 : ys ≡ to_le_bytes w64 v → xs ++ rest ≡ little 8 v ++ rest
  given_8 e = ap (λ (l : List ℕ). l ++ rest) (a ∙ e ∙ given w64 v)

-- what is taken from the bytes of a place
module _ (b : List ℕ) (i : ℕ) {n : ℕ} where
  pub taken_2 : n ≡ from_le_bytes w16 (slice_index b i ∷ slice_index b (i + 1) ∷ []) → n ≡ number_at b i 2
  unfolding number_at
  taken_2 e = omega arith

  pub taken_4 :
      n ≡ from_le_bytes w32 (slice_index b i ∷ slice_index b (i + 1) ∷ slice_index b (i + 2) ∷ slice_index b (i + 3) ∷ [])
      → n ≡ number_at b i 4
  unfolding number_at
  taken_4 e = simp add_assoc (omega arith)

  pub taken_8 :
      n
      ≡ from_le_bytes
      w64
      (slice_index b i ∷ slice_index b (i + 1) ∷ slice_index b (i + 2) ∷ slice_index b (i + 3)
      ∷ slice_index b (i + 4) ∷ slice_index b (i + 5) ∷ slice_index b (i + 6) ∷ slice_index b (i + 7) ∷ [])
      → n ≡ number_at b i 8
  unfolding number_at
  taken_8 e = simp add_assoc (omega arith)
