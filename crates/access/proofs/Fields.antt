-- What setting a field of a number leaves: the field holds what was set, and every other field what it held. Assumes nothing.
use Prim.Native.Nat.{ℕ, suc, ◌+◌, ◌-◌, ◌*◌, ◌^◌, ◌/◌, ◌%◌, ◌<◌}
use native.Mathlib.Nat.{add_assoc, add-mul, mul_assoc, mul_comm, mod-lt, div-add-mod', div-div-eq-div-mul, div-lt_iff_lt-mul, one-le-pow, pow-succ', eq-zero-or-pos}
use native.Mathlib.Omega.{arith}
use mathlib.Core.Path.{◌≡◌, sym, ap, subst, ◌∙◌}
use mathlib.Core.Logic.{⊎_elim}
use lib.Arith.{digits_lt, digits_div, digits_mod, mod-mul}
use lib.Pow.{pow-add}
use Rattle.access.specs.Fields.{field_at, with_field}

-- a number is itself with what its field holds
pub with_own : (x place width : ℕ) → 0 < place → 0 < width → with_field x place width (field_at x place width) ≡ x
with_own x place width p w =
    add_assoc (x / (width * place) * (width * place)) (x / place % width * place) (x % place)
    ∙ ap (λ (n : ℕ). x / (width * place) * (width * place) + n) (sym (mod-mul x w p)) ∙ div-add-mod' x (width * place)

-- a number by what stands above a field, in it and below it
module _ (a v r : ℕ) {place width : ℕ} (l : r < place) (h : v < width) where
  digits : a * (width * place) + v * place + r ≡ (a * width + v) * place + r
  digits = ap (λ (n : ℕ). n + r) (sym (add-mul (a * width) v place ∙ ap (λ (n : ℕ). n + v * place) (mul_assoc a width place)))

  in_field : (a * (width * place) + v * place + r) / place % width ≡ v
  in_field = ap (λ (n : ℕ). n / place % width) digits ∙ ap (λ (n : ℕ). n % width) (digits_div (a * width + v) l) ∙ digits_mod a h

  below : (a * (width * place) + v * place + r) % place ≡ r
  below = ap (λ (n : ℕ). n % place) digits ∙ digits_mod (a * width + v) l

  above : (a * (width * place) + v * place + r) / (width * place) ≡ a
  above = ap (λ (n : ℕ). n / (width * place)) (add_assoc (a * (width * place)) (v * place) r) ∙ digits_div a (digits_lt h l)

-- a field is decided by the bits below any place above it
low_field : (x k : ℕ) {place width : ℕ} → 0 < place → 0 < width → 0 < k → field_at (x % (k * (width * place))) place width ≡ field_at x place width
low_field x k {place} {width} p w n =
    ap (λ (n : ℕ). n / place % width)
    (mod-mul x n (omega (arith, digits_lt w p)) ∙ ap (λ (n : ℕ). x / (width * place) % k * (width * place) + n) (mod-mul x w p) ∙ sym (add_assoc (x / (width * place) % k * (width * place)) (x / place % width * place) (x % place)))
    ∙ in_field (x / (width * place) % k) (x / place % width) (x % place) (mod-lt x p) (mod-lt (x / place) w)

module _ (x place width v : ℕ) (p : 0 < place) (h : v < width) where
  -- the field holds what was set
  pub field_same : field_at (with_field x place width v) place width ≡ v
  field_same = in_field (x / (width * place)) v (x % place) (mod-lt x p) h

  -- a field above it holds what it held
  pub field_above : (k u : ℕ) → field_at (with_field x place width v) (width * place * k) u ≡ field_at x (width * place * k) u
  field_above k u =
      ap (λ (n : ℕ). n % u)
      (sym (div-div-eq-div-mul (with_field x place width v) (width * place) k)
      ∙ ap (λ (n : ℕ). n / k) (above (x / (width * place)) v (x % place) (mod-lt x p) h)
      ∙ div-div-eq-div-mul x (width * place) k)

  -- a number of so many bits stays one
  pub field_bound : (n : ℕ) → x < n * (width * place) → with_field x place width v < n * (width * place)
  field_bound n b =
      let l : v * place + x % place < width * place = digits_lt h (mod-lt x p) in
      rw (add_assoc (x / (width * place) * (width * place)) (v * place) (x % place)) (digits_lt ((div-lt_iff_lt-mul (omega arith)).1 b) l)

-- a field below it holds what it held
pub field_below :
    (x place width v k u : ℕ)
    → 0 < place → 0 < u → 0 < k → v < width → field_at (with_field x (k * (u * place)) width v) place u ≡ field_at x place u
field_below x place width v k u p w n h =
    let q : 0 < k * (u * place) = omega (arith, digits_lt n (digits_lt w p)) in
    sym (low_field (with_field x (k * (u * place)) width v) k p w n)
    ∙ ap (λ (n : ℕ). field_at n place u) (below (x / (width * (k * (u * place)))) v (x % (k * (u * place))) (mod-lt x q) h) ∙ low_field x k p w n

-- Fields of one width side by side, field i at the place width ^ i: setting one leaves every other.
module _ (width : ℕ) (w : 0 < width) where
  power : (k : ℕ) → 0 < width ^ k
  power k = one-le-pow k width w

  -- a later place is a multiple of the place after this one
  later : (i j : ℕ) → i < j → width * width ^ i * width ^ (j - suc i) ≡ width ^ j
  later i j l =
      let e : suc i + (j - suc i) ≡ j = omega arith in
      ap (λ (n : ℕ). n * width ^ (j - suc i)) (sym (pow-succ' width i)) ∙ sym (pow-add width (suc i) (j - suc i)) ∙ ap (λ (n : ℕ). width ^ n) e

  earlier : (i j : ℕ) → i < j → width ^ (j - suc i) * (width * width ^ i) ≡ width ^ j
  earlier i j l = mul_comm (width ^ (j - suc i)) (width * width ^ i) ∙ later i j l

module _ (x width v : ℕ) (h : v < width) where
  some : 0 < width
  some = omega arith

  pub side_same : (i : ℕ) → field_at (with_field x (width ^ i) width v) (width ^ i) width ≡ v
  side_same i = field_same x (width ^ i) width v (power width some i) h

  pub side_other : (i j : ℕ) → (i ≡ j → ⊥) → field_at (with_field x (width ^ i) width v) (width ^ j) width ≡ field_at x (width ^ j) width
  side_other i j ne = ⊎_elim (λ (e : j - i ≡ 0). down (omega arith)) (λ (l : 0 < j - i). up (omega arith)) (eq-zero-or-pos (j - i))
    where
      up : i < j → field_at (with_field x (width ^ i) width v) (width ^ j) width ≡ field_at x (width ^ j) width
      up l = rw (← later width some i j l) (field_above x (width ^ i) width v (power width some i) h (width ^ (j - suc i)) width)

      down : j < i → field_at (with_field x (width ^ i) width v) (width ^ j) width ≡ field_at x (width ^ j) width
      down l =
          rw (← earlier width some j i l)
          (field_below x (width ^ j) width v (width ^ (i - suc j)) width (power width some j) some (power width some (i - suc j)) h)

  -- n fields stay n fields
  pub side_bound : (i n : ℕ) → i < n → x < width ^ n → with_field x (width ^ i) width v < width ^ n
  side_bound i n l b =
      subst (λ (m : ℕ). with_field x (width ^ i) width v < m) (earlier width some i n l)
      (field_bound x (width ^ i) width v (power width some i) h (width ^ (n - suc i)) (rw (earlier width some i n l) b))
