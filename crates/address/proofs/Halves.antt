-- A product by halves. Assumes nothing.
use Rattle.std.proofs.Common.{◌≡◌, ℕ, ◌+◌, ◌*◌, ◌/◌, ◌%◌, ◌^◌, ◌<◌, sym, ap, ◌∙◌, lt_of_le_of_lt, le_of_lt, mul_assoc, mul_comm, add-mul, mul-le-mul_left, div-add-mod', arith}

-- a half times a byte is a word
pub half_times : (x b : ℕ) → x < 2 ^ 32 → b < 256 → x * b < 2 ^ 64
half_times x b h k = lt_of_le_of_lt (mul-le-mul_left x (le_of_lt k)) (omega arith)

-- a product by the halves of its first factor
pub halves : (a b : ℕ) → a * b ≡ a / 4294967296 * b * 4294967296 + a % 4294967296 * b
halves a b =
    ap (λ (x : ℕ). x * b) (sym (div-add-mod' a 4294967296)) ∙ add-mul (a / 4294967296 * 4294967296) (a % 4294967296) b
    ∙ ap (λ (x : ℕ). x + a % 4294967296 * b)
    (mul_assoc (a / 4294967296) 4294967296 b ∙ ap (λ (x : ℕ). a / 4294967296 * x) (mul_comm 4294967296 b) ∙ sym (mul_assoc (a / 4294967296) b 4294967296))

-- as the code computes it, whose sum wraps
pub times_halves :
    (a k : ℕ) → (a % 4294967296 * k + a / 4294967296 * k % 4294967296 * 4294967296) % 18446744073709551616 ≡ a * k % 18446744073709551616
times_halves a k = omega (arith, halves a k)
