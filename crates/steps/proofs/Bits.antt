-- The parts of the set bits of a number, lowest first: how the code goes through the accesses. Assumes nothing.
use Prim.Native.Nat.{ℕ, zero, suc, ◌+◌, ◌-◌, ◌*◌, ◌/◌, ◌%◌, ◌^◌, ◌<◌, ◌≤◌}
use native.Mathlib.Nat.{zero-add, lt_of_lt_of_le, mod-lt, one-le-pow, pow-suc, pow-succ', div-one, div-div-eq-div-mul}
use native.Mathlib.Numerals.{add-one}
use native.Mathlib.Omega.{arith}
use mathlib.Core.Path.{◌≡◌, refl, sym, ap, ◌∙◌}
use mathlib.Core.Bool.{Bool, true, false, cond}
use mathlib.Core.List.{List, [], ◌∷◌, ◌++◌}
use lib.Dec.{eqb, ltb, lit≤}
use borrow.Author.Tests.{ltb-false}
use lib.ListN.{length}
use lib.Count.{count_trailing_zeros, under}
use lib.Pow.{field, mod-mod-pow, pow_mono}
use Rattle.laws.specs.Words.{bit}
use Rattle.laws.specs.Lists.{flat}
use Rattle.laws.specs.Lending.{size}
use Rattle.laws.proofs.Lending.{Going, start}
use Rattle.record.specs.Records.{spec_at}
use Rattle.record.specs.declared.Record.{Record}
use Rattle.definition.specs.Logs.{event_bytes}
use Rattle.definition.specs.declared.Event.{Event}
use Rattle.address.specs.declared.places.Sources.{Sources}
use Rattle.steps.specs.Parts.{based_events, way_of, part_at, parts_from, part_count, part_bits, explicit_events}

-- a power of two that a shift makes
pub shifted : (t : ℕ) → t ≤ 8 → 1 * 2 ^ t % 2 ^ 32 ≡ 2 ^ t
shifted zero h = refl
shifted (suc zero) h = refl
shifted (suc (suc zero)) h = refl
shifted (suc (suc (suc zero))) h = refl
shifted (suc (suc (suc (suc zero)))) h = refl
shifted (suc (suc (suc (suc (suc zero))))) h = refl
shifted (suc (suc (suc (suc (suc (suc zero)))))) h = refl
shifted (suc (suc (suc (suc (suc (suc (suc zero))))))) h = refl
shifted (suc (suc (suc (suc (suc (suc (suc (suc zero)))))))) h = refl
shifted (suc (suc (suc (suc (suc (suc (suc (suc (suc t))))))))) h = absurd (omega arith)

-- the lowest bits of a byte, and a shift that is not 0
pub bits_below : (v c : ℕ) → c ≤ 8 → v % 2 ^ c < 256
bits_below v c h = lt_of_lt_of_le (mod-lt v (one-le-pow c 2 (lit≤ tt))) (pow_mono h)

pub some_shift : (c : ℕ) → 0 < 2 ^ c
some_shift c = one-le-pow c 2 (lit≤ tt)

-- the lowest set bit is below the k bits, and no more than the number
pub lowest_in : (k w r : ℕ) → k ≤ w → 0 < r → r < 2 ^ k → (count_trailing_zeros w r < k) × (2 ^ count_trailing_zeros w r ≤ r)
unfolding count_trailing_zeros
lowest_in zero w r h p l = absurd (omega arith)
lowest_in (suc k) zero r h p l = absurd (omega arith)
lowest_in (suc k) (suc w) r h p l = go (r % 2) refl (λ (e : r % 2 ≡ 0). lowest_in k w (r / 2) (omega arith) (omega arith) (omega (arith, pow-succ' 2 k)))
  where
    go :
        (d : ℕ) → r % 2 ≡ d → (r % 2 ≡ 0 → (count_trailing_zeros w (r / 2) < k) × (2 ^ count_trailing_zeros w (r / 2) ≤ r / 2))
        → (under d (count_trailing_zeros w (r / 2)) < suc k) × (2 ^ under d (count_trailing_zeros w (r / 2)) ≤ r)
    go zero e i =
        let t = count_trailing_zeros w (r / 2) in
        (omega (arith, (i e).0), rw (pow-succ' 2 t) (omega (arith, (i e).1)))
    go (suc d) e i = (omega arith, omega arith)

module _ {A : Type 0} (seg : ℕ → List A) where
  -- of the k lowest bits of r, counted from p on
  unfoldable pub set_parts : ℕ → ℕ → ℕ → List (List A)
  set_parts zero r p = []
  set_parts (suc k) r p = cond (eqb (r % 2) 1) (seg p ∷ set_parts k (r / 2) (p + 1)) (set_parts k (r / 2) (p + 1))

  clear : (k r p : ℕ) → r % 2 ≡ 0 → set_parts (suc k) r p ≡ set_parts k (r / 2) (p + 1)
  unfolding set_parts
  clear k r p e = rw e

  set : (k r p : ℕ) → r % 2 ≡ 1 → set_parts (suc k) r p ≡ seg p ∷ set_parts k (r / 2) (p + 1)
  unfolding set_parts
  set k r p e = rw e

  -- the lowest set bit comes off
  pub lowest : (k w r p : ℕ) → k ≤ w → 0 < r → r < 2 ^ k → set_parts k r p ≡ seg (p + count_trailing_zeros w r) ∷ set_parts k (r - 2 ^ count_trailing_zeros w r) p
  unfolding count_trailing_zeros
  lowest zero w r p h q l = absurd (omega arith)
  lowest (suc k) zero r p h q l = absurd (omega arith)
  lowest (suc k) (suc w) r p h q l =
      go (r % 2) refl (λ (e : r % 2 ≡ 0). lowest k w (r / 2) (p + 1) (omega arith) (omega arith) (omega (arith, pow-succ' 2 k)))
    where
      go :
          (d : ℕ) → r % 2 ≡ d
          → (r % 2 ≡ 0 → set_parts k (r / 2) (p + 1) ≡ seg (p + 1 + count_trailing_zeros w (r / 2)) ∷ set_parts k (r / 2 - 2 ^ count_trailing_zeros w (r / 2)) (p + 1))
          → set_parts (suc k) r p ≡ seg (p + under d (count_trailing_zeros w (r / 2))) ∷ set_parts (suc k) (r - 2 ^ under d (count_trailing_zeros w (r / 2))) p
      go zero e i =
          let t = count_trailing_zeros w (r / 2) in
          let even : (r - 2 ^ suc t) % 2 ≡ 0 = rw (pow-succ' 2 t) (omega arith) in
          let half : (r - 2 ^ suc t) / 2 ≡ r / 2 - 2 ^ t = rw (pow-succ' 2 t) (omega arith) in
          let place : p + 1 + t ≡ p + suc t = omega arith in
          clear k r p e ∙ i e ∙ rw (place, clear k (r - 2 ^ suc t) p even, half)
      go (suc d) e i =
          let even : (r - 1) % 2 ≡ 0 = omega arith in
          let half : (r - 1) / 2 ≡ r / 2 = omega arith in
          let place : p + 0 ≡ p = omega arith in
          set k r p (omega arith) ∙ rw (place, clear k (r - 1) p even, half)

  -- 0 has none
  pub no_bits : (k p : ℕ) → set_parts k 0 p ≡ []
  unfolding set_parts
  no_bits zero p = refl
  no_bits (suc k) p = no_bits k (p + 1)

  -- below the k bits
  pub low_bits : (k w v p : ℕ) → k ≤ w → set_parts w (v % 2 ^ k) p ≡ set_parts k v p
  unfolding set_parts
  low_bits zero w v p h = let e : v % 2 ^ 0 ≡ 0 = omega arith in rw e (no_bits w p)
  low_bits (suc k) zero v p h = absurd (omega arith)
  low_bits (suc k) (suc w) v p h =
      let half : v % 2 ^ suc k / 2 ≡ v / 2 % 2 ^ k = rw (← add-one k) (field v k 1) in
      let bottom : v % 2 ^ suc k % 2 ≡ v % 2 = rw (← add-one k) (mod-mod-pow v k 1) in
      rw (half, bottom, low_bits k w (v / 2) (p + 1) (omega arith))

-- a part that is there, or not
by_bit : (c : Bool) (es : List Event) (ss : List (List Event)) → cond c es [] ++ flat ss ≡ flat (cond c (es ∷ ss) ss)
unfolding flat
by_bit true es ss = refl
by_bit false es ss = refl

module _ (x : Record) (at : Sources) where
  abbrev pub part_of : ℕ → List Event
  part_of p = based_events x (way_of p) at (spec_at x (p / 2))

  abbrev v : ℕ
  v = x.digest.operands

  joined : (k p : ℕ) → part_at x at p ++ flat (set_parts part_of k (v / 2 ^ p / 2) (p + 1)) ≡ flat (set_parts part_of (suc k) (v / 2 ^ p) p)
  unfolding part_at bit set_parts
  joined k p = by_bit (eqb (v / 2 ^ p % 2) 1) (part_of p) (set_parts part_of k (v / 2 ^ p / 2) (p + 1))

  from_bits : (k p : ℕ) → flat (parts_from x at p k) ≡ flat (set_parts part_of k (v / 2 ^ p) p)
  unfolding parts_from set_parts flat
  from_bits zero p = refl
  from_bits (suc k) p =
      let half : v / 2 ^ (p + 1) ≡ v / 2 ^ p / 2 = rw (add-one p, pow-suc 2 p) (sym (div-div-eq-div-mul v (2 ^ p) 2)) in
      ap (λ (es : List Event). part_at x at p ++ es) (from_bits k (p + 1) ∙ ap (λ (r : ℕ). flat (set_parts part_of k r (p + 1))) half) ∙ joined k p

  count_in_lem : part_count x ≤ 8
  unfolding part_count
  count_in_lem = by (ltb 4 x.count) refl
    where
      by : (c : Bool) → ltb 4 x.count ≡ c → cond c 8 (2 * x.count) ≤ 8
      by true e = lit≤ tt
      by false e = omega (arith, ltb-false 4 x.count e)

  whole_log : {r : ℕ} → r ≡ part_bits x → flat (set_parts part_of 8 r 0) ≡ explicit_events x at
  unfolding explicit_events part_bits
  whole_log e =
      rw (e, low_bits part_of (part_count x) 8 v 0 count_in_lem)
      (sym (from_bits (part_count x) 0 ∙ ap (λ (r : ℕ). flat (set_parts part_of (part_count x) r 0)) (div-one v)))

  pub begun :
      {r : ℕ} (old : List ℕ) → r ≡ part_bits x → size event_bytes (explicit_events x at) ≤ length old → length old < 2 ^ 64
      → Going event_bytes (explicit_events x at) (set_parts part_of 8 r 0) old old 0
  begun {r} old e h k = rw (← whole_log e) (start (set_parts part_of 8 r 0) old (rw (whole_log e) h) k)

  -- the next part, and those after it
  pub next_bit :
      (r : ℕ) → (r ≡ 0 → ⊥) → r < 256
      → set_parts part_of 8 r 0 ≡ part_of (count_trailing_zeros 32 r) ∷ set_parts part_of 8 (r - 2 ^ count_trailing_zeros 32 r) 0
  next_bit r ne h = rw (zero-add (count_trailing_zeros 32 r)) at (lowest part_of 8 32 r 0 (lit≤ tt) (omega (arith, ne)) h)
