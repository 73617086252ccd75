-- Numbers in bytes: laws over the width. Assumes nothing.
use Prim.Native.Nat.{ℕ, zero, suc, ◌+◌, ◌*◌, ◌^◌, ◌/◌, ◌%◌, ◌<◌}
use native.Mathlib.Omega.{arith}
use native.Mathlib.Nat.{add-zero, zero-add, suc-add, add_assoc, mul_assoc, pow-suc, pow-succ', one-le-pow, div-div-eq-div-mul, div-one, mod-one, mod-eq_of_lt}
use mathlib.Core.Path.{◌≡◌, refl, ap}
use mathlib.Core.List.{List, [], ◌∷◌, ◌++◌}
use lib.Arith.{mod-mul, digits_div, digits_mod}
use lib.ListN.{length, get_or}
use lib.Seq.{get_or-append-add}
use Rattle.laws.specs.Words.{number_at, little}

-- the m bytes from a place on, and the n bytes behind them
pub number_split : (b : List ℕ) (i m n : ℕ) → number_at b i (m + n) ≡ number_at b i m + 256 ^ m * number_at b (i + m) n
unfolding number_at
number_split b i zero n = simp (zero-add, add-zero) (omega arith)
number_split b i (suc m) n =
    let p : i + 1 + m ≡ i + suc m = omega arith in
    rw (suc-add m n, number_split b (i + 1) m n, p, pow-succ' 256 m, mul_assoc 256 (256 ^ m) (number_at b (i + suc m) n)) (omega arith)

-- a low and a high number of one width make one of twice the width
pub number_pair : (b : List ℕ) (i m : ℕ) {low high : ℕ} → low ≡ number_at b i m → high ≡ number_at b (i + m) m → low + 256 ^ m * high ≡ number_at b i (m + m)
number_pair b i m l h = rw (l, h, number_split b i m m)

-- bytes make a number of their width
pub number_below : (b : List ℕ) → ((k : ℕ) → get_or b k 0 < 256) → (i n : ℕ) → number_at b i n < 256 ^ n
unfolding number_at
number_below b h i zero = omega arith
number_below b h i (suc n) = rw (pow-succ' 256 n) (omega (arith, h i, number_below b h (i + 1) n))

-- a number behind other bytes
pub number_behind : (pre b : List ℕ) (i n : ℕ) → number_at (pre ++ b) (length pre + i) n ≡ number_at b i n
unfolding number_at
number_behind pre b i zero = refl
number_behind pre b i (suc n) = rw (get_or-append-add pre b i 0, add_assoc (length pre) i 1, number_behind pre b (i + 1) n)

-- the number below 256 ^ (n + 1): its lowest byte, and the n bytes above it
low_bytes : (n v : ℕ) → v % 256 ^ suc n ≡ (v / 256 % 256 ^ n) * 256 + v % 256
low_bytes n v = rw (pow-suc 256 n) (mod-mul v (one-le-pow n 256 (omega arith)) (omega arith))

-- there are as many bytes as asked for
pub little_length : (n v : ℕ) → length (little n v) ≡ n
unfolding little
little_length zero v = refl
little_length (suc n) v = ap suc (little_length n (v / 256))

-- the m lowest bytes, and the n bytes above them
pub little_split : (m n v : ℕ) → little (m + n) v ≡ little m v ++ little n (v / 256 ^ m)
unfolding little
little_split zero n v = rw (zero-add, div-one)
little_split (suc m) n v =
    rw (suc-add m n, pow-succ' 256 m, ← div-div-eq-div-mul v 256 (256 ^ m)) (ap (λ (l : List ℕ). v % 256 ∷ l) (little_split m n (v / 256)))

-- the n lowest bytes are those of the number below 256 ^ n
pub little_low : (n v : ℕ) → little n (v % 256 ^ n) ≡ little n v
unfolding little
little_low zero v = refl
little_low (suc n) v =
    let small : v % 256 < 256 = omega arith in
    rw (low_bytes n v, digits_mod (v / 256 % 256 ^ n) small, digits_div (v / 256 % 256 ^ n) small, little_low n (v / 256))

-- what is written is read back, as far as the width holds it
pub number_little : (n v : ℕ) (rest : List ℕ) → number_at (little n v ++ rest) 0 n ≡ v % 256 ^ n
unfolding number_at little
number_little zero v rest = rw (mod-one v)
number_little (suc n) v rest =
    let shift = number_behind (v % 256 ∷ []) (little n (v / 256) ++ rest) 0 n in
    rw (low_bytes n v, shift, number_little n (v / 256) rest) (omega arith)

-- the same behind other bytes, of a number of that width
pub number_round : (pre : List ℕ) (n v : ℕ) (rest : List ℕ) → v < 256 ^ n → number_at (pre ++ (little n v ++ rest)) (length pre) n ≡ v
number_round pre n v rest h =
    let shift = number_behind pre (little n v ++ rest) 0 n in
    rw (← add-zero (length pre), shift, number_little n v rest, mod-eq_of_lt h)

-- the low and the high half of a number's bytes are its bytes
pub little_pair : (m v : ℕ) → little m (v % 256 ^ m) ++ little m (v / 256 ^ m) ≡ little (m + m) v
little_pair m v = rw (little_low m v, little_split m m v)
