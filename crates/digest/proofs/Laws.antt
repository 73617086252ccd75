-- What a setter leaves of each reader, and which answers are refusals. Assumes nothing.
use Prim.Native.Nat.{ℕ, ◌+◌, ◌*◌, ◌/◌, ◌%◌, ◌^◌, ◌≤◌, ◌<◌, zero-le}
use native.Mathlib.Nat.{div-eq_of_lt, lt_of_lt_of_le, pow-le-pow_right}
use native.Mathlib.Omega.{arith}
use mathlib.Core.Path.{◌≡◌, refl, sym, ap, ◌∙◌}
use lib.Dec.{lit≤}
use borrow.Author.Tests.{lt-ltb, le-ltb}
use Rattle.access.specs.Accesses.{access_number, access_of}
use Rattle.laws.proofs.Span.{span}
use Rattle.access.specs.declared.Access.{Access}
use Rattle.access.proofs.Laws.{access_number_lem}
use Rattle.access.specs.Fields.{field_at, with_field}
use Rattle.access.proofs.Fields.{field_same, field_above, field_below, side_same, side_other, side_bound}
use Rattle.digest.specs.declared.BehaviorDigest.{BehaviorDigest}
use Rattle.std.specs.Prelude.{Ok, Err}
use Rattle.laws.specs.declared.refusals.Refusal.TheVariants.{Outside}
use Rattle.digest.specs.Digests.{flags_access, access_at, with_behavior, with_access, with_list, operand_answer, list_answer}

-- an operand's access, once it is set, and any other operand's
module _ (d : BehaviorDigest) (a : ℕ) (h : a < 4) where
  pub access_same : (i : ℕ) → access_at (with_access i a d) i ≡ a
  unfolding with_access
  access_same i = side_same d.operands 4 a h i

  pub access_other : (i j : ℕ) → (i ≡ j → ⊥) → access_at (with_access i a d) j ≡ access_at d j
  unfolding with_access
  access_other i j ne = side_other d.operands 4 a h i j ne

  -- the accesses stay a byte
  pub access_bound : (i : ℕ) → i ≤ 3 → d.operands < 256 → (with_access i a d).operands < 256
  unfolding with_access
  access_bound i l b = side_bound d.operands 4 a h i 4 (omega arith) b

-- an access that a digest gives, as its number
module _ {a : Access} (d : BehaviorDigest) where
  pub flags_number : a ≡ access_of (flags_access d) → access_number a ≡ flags_access d
  flags_number e = ap access_number e ∙ access_number_lem (d.behavior / 4)

  pub operand_number : (i : ℕ) → a ≡ access_of (access_at d i) → access_number a ≡ access_at d i
  operand_number i e = ap access_number e ∙ access_number_lem (d.operands / 4 ^ i)

-- there are four operands in a byte
pub access_none : (d : BehaviorDigest) (i : ℕ) → d.operands < 256 → 3 < i → access_at d i ≡ 0
access_none d i b h =
    ap (λ (n : ℕ). n % 4) (div-eq_of_lt (lt_of_lt_of_le b (pow-le-pow_right {n = 4} (lit≤ tt) h)))

pub no_access : (d : BehaviorDigest) (i : ℕ) → d.operands < 256 → 3 < i → Access.None ≡ access_of (access_at d i)
no_access d i b h = sym (ap access_of (access_none d i b h))

-- a shift by twice the operand
pub access_shifted : (d : BehaviorDigest) (i : ℕ) {a : Access} → i ≤ 3 → a ≡ access_of (d.operands / 2 ^ (i * 2) % 4) → a ≡ access_of (access_at d i)
access_shifted d i h e = e ∙ ap (λ (n : ℕ). access_of (d.operands / n % 4)) (span (λ (k : ℕ). 2 ^ (k * 2) ≡ 4 ^ k) 0 4 (refl, (refl, (refl, (refl, tt)))) i zero-le (omega arith))

-- the lowest field, and the highest of a byte
pub lowest : (x v : ℕ) → x / 4 * 4 + v ≡ with_field x 1 4 v
lowest x v = omega arith

pub highest : (x v : ℕ) → x < 256 → v * 64 + x % 64 ≡ with_field x 64 4 v
highest x v h = omega arith

-- the fields of `behavior`: the one that was set, those above it and those below it
module _ (d : BehaviorDigest) (place width v : ℕ) (p : 0 < place) (h : v < width) where
  pub behavior_same : field_at (with_behavior place width v d).behavior place width ≡ v
  unfolding with_behavior
  behavior_same = field_same d.behavior place width v p h

  pub behavior_above : (k u : ℕ) → field_at (with_behavior place width v d).behavior (width * place * k) u ≡ field_at d.behavior (width * place * k) u
  unfolding with_behavior
  behavior_above k u = field_above d.behavior place width v p h k u

pub behavior_below :
    (d : BehaviorDigest) (place width v k u : ℕ) → 0 < place → 0 < u → 0 < k → v < width
    → field_at (with_behavior (k * (u * place)) width v d).behavior place u ≡ field_at d.behavior place u
unfolding with_behavior
behavior_below d place width v k u p w n h = field_below d.behavior place width v k u p w n h

-- each setter leaves the other two parts of the digest
module _ (d : BehaviorDigest) where
  pub access_behavior : (i a : ℕ) → (with_access i a d).behavior ≡ d.behavior
  unfolding with_access
  access_behavior i a = refl

  pub access_extra : (i a : ℕ) → (with_access i a d).extra ≡ d.extra
  unfolding with_access
  access_extra i a = refl

  pub list_behavior : (l : ℕ) → (with_list l d).behavior ≡ d.behavior
  unfolding with_list
  list_behavior l = refl

  pub list_operands : (l : ℕ) → (with_list l d).operands ≡ d.operands
  unfolding with_list
  list_operands l = refl

  pub list_extra : (l : ℕ) → (with_list l d).extra ≡ l
  unfolding with_list
  list_extra l = refl

  pub operand_taken : (i a : ℕ) → i ≤ 3 → operand_answer i a d ≡ Ok (with_access i a d)
  unfolding operand_answer
  operand_taken i a h = rw (le-ltb 3 i h)

  pub operand_refused : (i a : ℕ) → 3 < i → operand_answer i a d ≡ Err Outside
  unfolding operand_answer
  operand_refused i a h = rw (lt-ltb 3 i h)

  pub list_taken : (l : ℕ) → l ≤ 28 → list_answer l d ≡ Ok (with_list l d)
  unfolding list_answer
  list_taken l h = rw (le-ltb 28 l h)

  pub list_refused : (l : ℕ) → 28 < l → list_answer l d ≡ Err Outside
  unfolding list_answer
  list_refused l h = rw (lt-ltb 28 l h)
