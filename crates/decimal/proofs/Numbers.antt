-- A number has one count of fewest digits. Assumes nothing.
use Prim.Native.Nat.{ℕ, zero, suc, ◌-◌, ◌/◌, ◌^◌, ◌≤◌, ◌<◌}
use native.Mathlib.Nat.{le_refl, pow-le-pow_right, pow-succ'}
use native.Mathlib.Omega.{arith}
use mathlib.Core.Path.{◌≡◌, refl, ◌∙◌}
use mathlib.Core.Bool.{Bool, true, false, cond}
use lib.ListN.{length, length-append}
use lib.Dec.{ltb}
use borrow.Author.Tests.{ltb-true, ltb-false}
use Rattle.io.specs.Digits.{last_digits, IsDigitCount}
use Rattle.decimal.specs.Words.{places, spelt}

pub long : (k n : ℕ) → length (spelt k n) ≡ k
unfolding spelt
long zero n = refl
long (suc k) n = length-append (last_digits 10 k (n / 10)) _ ∙ rw (long k (n / 10)) (omega arith)

no_fewer : (b least n j k : ℕ) → 0 < b → IsDigitCount b least n j → IsDigitCount b least n k → j < k → ⊥
no_fewer b least n j k pos f g h =
    let power : b ^ j ≤ b ^ (k - 1) = pow-le-pow_right pos {i = j} {j = k - 1} (omega arith) in
    let low : b ^ (k - 1) ≤ n = g.2 (omega (arith, f.0)) in
    omega (arith, f.1)

pub unique : (b least n j k : ℕ) → 0 < b → IsDigitCount b least n j → IsDigitCount b least n k → j ≡ k
unique b least n j k pos f g = omega (arith, no_fewer b least n j k pos f g, no_fewer b least n k j pos g f)

-- one more digit
more : (n k : ℕ) → 10 ≤ n → IsDigitCount 10 1 (n / 10) k → IsDigitCount 10 1 n (suc k)
more n zero big f = absurd (omega (arith, f.0))
more n (suc zero) big f = (omega arith, omega (arith, f.1), λ l. big)
more n (suc (suc j)) big f =
    let e : suc (suc j) - 1 ≡ suc j = omega arith in
    let g : suc (suc (suc j)) - 1 ≡ suc (suc j) = omega arith in
    let low : 10 ^ suc j ≤ n / 10 = rw e at (f.2 (omega arith)) in
    (omega arith, omega (arith, f.1, pow-succ' 10 (suc (suc j))), λ l. rw g (omega (arith, pow-succ' 10 (suc j))))

fewest_by : (limit n : ℕ) (t : Bool) → ltb n 10 ≡ t → n < 10 ^ suc (suc limit) → IsDigitCount 10 1 (n / 10) (places limit (n / 10)) → IsDigitCount 10 1 n (cond t 1 (suc (places limit (n / 10))))
fewest_by limit n true e h f = (le_refl 1, ltb-true n 10 e, λ l. absurd (omega arith))
fewest_by limit n false e h f = more n _ (ltb-false n 10 e) f

pub fewest : (limit n : ℕ) → n < 10 ^ suc limit → IsDigitCount 10 1 n (places limit n)
unfolding places
fewest zero n h = (le_refl 1, h, λ l. absurd (omega arith))
fewest (suc limit) n h = fewest_by limit n (ltb n 10) refl h (fewest limit (n / 10) (omega (arith, pow-succ' 10 (suc limit))))
