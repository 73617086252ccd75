-- The code's two distances and three comparisons say what the count over sets of bytes says. Assumes nothing.
use Rattle.std.proofs.Common.{◌≡◌, ℕ, zero, suc, ◌+◌, ◌-◌, ◌%◌, ◌^◌, ◌<◌, ◌≤◌, Bool, true, false, cond, eqb, ltb, leb, List, sym, refl, ◌∙◌, arith, ltb-false, ltb-true, le-ltb, lt-ltb, eq-eqb, ne_eqb, eqb-true, leb-true}
use borrow.Author.Tests.{eqb-false}
use Rattle.laws.specs.Tests.{any, is_in}
use Rattle.std.proofs.lemmas.Bool.{and_parts}
use Rattle.definition.specs.Addresses.{word}
use Rattle.definition.specs.Readings.{is_size}
use Rattle.watching.specs.Verdicts.{is_length, bytes_from, among, judged, store_verdict}
use Rattle.watching.specs.declared.verdicts.Variable.{Variable}
use Rattle.watching.specs.declared.verdicts.Verdict.TheVariants.{NoneTouched, PartTouched, WholeTouched}

-- how far a lies behind b on the circle of addresses: a wrapping difference
abbrev pub behind : ℕ → ℕ → ℕ
behind a b = (a + (word - b)) % word

-- a byte is n behind a, or it is not
at_distance : (x a n : ℕ) → x < 2 ^ 64 → a < 2 ^ 64 → n < 2 ^ 64 → behind x a ≡ n → x ≡ (a + n) % word
at_distance x a n hx ha hn e = omega arith

distance_of : (x a n : ℕ) → x < 2 ^ 64 → a < 2 ^ 64 → n < 2 ^ 64 → x ≡ (a + n) % word → behind x a ≡ n
distance_of x a n hx ha hn e = omega arith

-- the modulus is handled here, once: a byte is among the n bytes from a on exactly where it lies less than n behind a
is_among : (x a n : ℕ) → x < 2 ^ 64 → a < 2 ^ 64 → n ≤ 2 ^ 64 → is_in x (bytes_from a n) ≡ ltb (behind x a) n
unfolding is_in any bytes_from
is_among x a zero hx ha hn = sym (le-ltb (behind x a) 0 (omega arith))
is_among x a (suc n) hx ha hn = go (is_among x a n hx ha (omega arith)) (eqb x ((a + n) % word)) refl
  where
    by_rest :
        is_in x (bytes_from a n) ≡ ltb (behind x a) n → (behind x a ≡ n → ⊥)
        → (t : Bool) → ltb (behind x a) n ≡ t → is_in x (bytes_from a n) ≡ ltb (behind x a) (suc n)
    by_rest rest ne true e = rest ∙ e ∙ sym (lt-ltb (behind x a) (suc n) (omega (arith, ltb-true (behind x a) n e)))
    by_rest rest ne false e = rest ∙ e ∙ sym (le-ltb (behind x a) (suc n) (omega (arith, ltb-false (behind x a) n e)))

    go :
        is_in x (bytes_from a n) ≡ ltb (behind x a) n
        → (t : Bool) → eqb x ((a + n) % word) ≡ t → is_in x (bytes_from a (suc n)) ≡ ltb (behind x a) (suc n)
    go rest true e =
        rw (e, lt-ltb (behind x a) (suc n) (omega (arith, distance_of x a n hx ha (omega arith) (eqb-true x ((a + n) % word) e))))
    go rest false e =
        rw e (by_rest rest (λ h. eqb-false x ((a + n) % word) e (at_distance x a n hx ha (omega arith) h)) (ltb (behind x a) n) refl)

-- so a byte of the variable is among a store's where its distance says so
pub touching : (v i a n : ℕ) → a < 2 ^ 64 → n < 2 ^ 8 → ltb (behind ((v + i) % word) a) n ≡ is_in ((v + i) % word) (bytes_from a n)
touching v i a n ha hn = sym (is_among ((v + i) % word) a n (omega arith) ha (omega arith))

-- how many of the n bytes from an address on are among these: at most n; less where one is not, more than 0 where one is
module _ (address : ℕ) (those : List ℕ) where
  abbrev hits : ℕ → ℕ
  hits n = among (bytes_from address n) those

  one_most : (t : Bool) → cond {A = ℕ} t 1 0 ≤ 1
  one_most true = omega arith
  one_most false = omega arith

  at_most : (n : ℕ) → hits n ≤ n
  unfolding among bytes_from
  at_most zero = omega arith
  at_most (suc n) = omega (arith, one_most (is_in ((address + n) % word) those), at_most n)

  none_hit : (n : ℕ) → ((i : ℕ) → i < n → is_in ((address + i) % word) those ≡ false) → hits n ≡ 0
  unfolding among bytes_from
  none_hit zero h = refl
  none_hit (suc n) h = rw (h n (omega arith)) (omega (arith, none_hit n (λ i l. h i (omega (arith, l)))))

  all_hit : (n : ℕ) → ((i : ℕ) → i < n → is_in ((address + i) % word) those ≡ true) → hits n ≡ n
  unfolding among bytes_from
  all_hit zero h = refl
  all_hit (suc n) h = rw (h n (omega arith)) (omega (arith, all_hit n (λ i l. h i (omega (arith, l)))))

  some_hit : (n i : ℕ) → i < n → is_in ((address + i) % word) those ≡ true → 0 < hits n
  unfolding among bytes_from
  some_hit zero i l h = absurd (omega (arith, l))
  some_hit (suc n) i l h = go (λ m. some_hit n i m h) (eqb i n) refl
    where
      go : (i < n → 0 < hits n) → (t : Bool) → eqb i n ≡ t → 0 < hits (suc n)
      go f true e = let z : is_in ((address + n) % word) those ≡ true = rw (← (eqb-true i n e)) h in rw z (omega arith)
      go f false e = let g : i ≡ n → ⊥ = eqb-false i n e in omega (arith, f (omega (arith, g)))

  some_miss : (n i : ℕ) → i < n → is_in ((address + i) % word) those ≡ false → hits n < n
  unfolding among bytes_from
  some_miss zero i l h = absurd (omega (arith, l))
  some_miss (suc n) i l h = go (λ m. some_miss n i m h) (eqb i n) refl
    where
      go : (i < n → hits n < n) → (t : Bool) → eqb i n ≡ t → hits (suc n) < suc n
      go f true e = let z : is_in ((address + n) % word) those ≡ false = rw (← (eqb-true i n e)) h in rw z (omega (arith, at_most n))
      go f false e =
          let g : i ≡ n → ⊥ = eqb-false i n e in
          omega (arith, one_most (is_in ((address + n) % word) those), f (omega (arith, g)))

-- the three verdicts by what is counted
judged_none : (t n : ℕ) → t ≡ 0 → judged t n ≡ NoneTouched
unfolding judged
judged_none t n e = rw (eq-eqb t 0 e)

judged_whole : (t n : ℕ) → 1 ≤ n → t ≡ n → judged t n ≡ WholeTouched
unfolding judged
judged_whole t n h e = rw (ne_eqb t 0 (λ z. omega (arith, z)), eq-eqb t n e)

judged_part : (t n : ℕ) → 0 < t → t < n → judged t n ≡ PartTouched
unfolding judged
judged_part t n h l = rw (ne_eqb t 0 (λ z. omega (arith, z)), ne_eqb t n (λ z. omega (arith, z)))

-- the variable's byte i, e and i behind the store's start
module _ (v a : ℕ) (hv : v < 2 ^ 64) (ha : a < 2 ^ 64) where
  forward : (i : ℕ) → behind v a + i < 2 ^ 64 → behind ((v + i) % word) a ≡ behind v a + i
  forward i h = omega arith

  -- round the circle: the store starts d behind the variable, and d and e make a whole turn, or both are 0
  turn : behind v a + behind a v ≤ 2 ^ 64
  turn = omega arith

  meets : behind ((v + behind a v) % word) a ≡ 0
  meets = omega arith

  around : (i : ℕ) → i < behind a v → behind ((v + i) % word) a ≡ behind v a + i
  around i h = forward i (omega (arith, turn))

module _ (v a length n : ℕ) (hv : v < 2 ^ 64) (ha : a < 2 ^ 64) (l1 : 1 ≤ length) (n1 : 1 ≤ n) (room : length + n ≤ 2 ^ 64) where
  abbrev touched : ℕ
  touched = among (bytes_from v length) (bytes_from a n)

  hit_is : (i : ℕ) → is_in ((v + i) % word) (bytes_from a n) ≡ ltb (behind ((v + i) % word) a) n
  hit_is i = is_among ((v + i) % word) a n (omega arith) ha (omega arith)

  hit : (i : ℕ) → behind ((v + i) % word) a < n → is_in ((v + i) % word) (bytes_from a n) ≡ true
  hit i h = hit_is i ∙ lt-ltb (behind ((v + i) % word) a) n h

  miss : (i : ℕ) → n ≤ behind ((v + i) % word) a → is_in ((v + i) % word) (bytes_from a n) ≡ false
  miss i h = hit_is i ∙ le-ltb (behind ((v + i) % word) a) n h

  whole_is : behind v a + length ≤ n → judged touched length ≡ WholeTouched
  whole_is h = judged_whole touched length l1 (all_hit v (bytes_from a n) length (λ i l. hit i (at i l)))
    where
      at : (i : ℕ) → i < length → behind ((v + i) % word) a < n
      at i l = rw (forward v a hv ha i (omega arith)) (omega arith)

  none_is : n ≤ behind v a → length ≤ behind a v → judged touched length ≡ NoneTouched
  none_is h k = judged_none touched length (none_hit v (bytes_from a n) length (λ i l. miss i (at i l)))
    where
      at : (i : ℕ) → i < length → n ≤ behind ((v + i) % word) a
      at i l = rw (around v a hv ha i (omega arith)) (omega arith)

  -- the first byte of the variable is hit, and the last one is not
  front_is : behind v a < n → n < behind v a + length → judged touched length ≡ PartTouched
  front_is h k =
      judged_part touched length
      (some_hit v (bytes_from a n) length 0 (omega arith) (hit 0 (rw (forward v a hv ha 0 (omega arith)) (omega arith))))
      (some_miss v (bytes_from a n) length (length - 1) (omega arith) (miss (length - 1) (rw (forward v a hv ha (length - 1) (omega arith)) (omega arith))))

  -- the first byte is not hit, and the byte where the store starts is
  back_is : n ≤ behind v a → behind a v < length → judged touched length ≡ PartTouched
  back_is h k =
      judged_part touched length
      (some_hit v (bytes_from a n) length (behind a v) k (hit (behind a v) (rw (meets v a hv ha) n1)))
      (some_miss v (bytes_from a n) length 0 (omega arith) (miss 0 (rw (forward v a hv ha 0 below) (omega arith))))
    where
      below : behind v a + 0 < 2 ^ 64
      below = omega arith

-- what length and size are, from the tests that a watch and a log passed
module _ (v : Variable) (a n : ℕ) (hv : v.address < 2 ^ 64) (ha : a < 2 ^ 64) (hl : is_length v.length ≡ true) (hn : is_size n ≡ true) where
  long : 1 ≤ v.length
  long = leb-true 1 v.length ((and_parts (leb 1 v.length) (leb v.length 8) hl).0)

  some : 1 ≤ n
  some = leb-true 1 n ((and_parts (leb 1 n) (leb n 64) hn).0)

  room : v.length + n ≤ 2 ^ 64
  room =
      let l = leb-true v.length 8 ((and_parts (leb 1 v.length) (leb v.length 8) hl).1) in
      let m = leb-true n 64 ((and_parts (leb 1 n) (leb n 64) hn).1) in omega arith

  -- the variable starts so far behind the store's start, or the store behind the variable's
  pub store_whole : behind v.address a < n → v.length ≤ n - behind v.address a → WholeTouched ≡ store_verdict v a n
  unfolding store_verdict
  store_whole h k = sym (whole_is v.address a v.length n hv ha long some room (omega arith))

  pub store_front : behind v.address a < n → n - behind v.address a < v.length → PartTouched ≡ store_verdict v a n
  unfolding store_verdict
  store_front h k = sym (front_is v.address a v.length n hv ha long some room h (omega arith))

  pub store_back : n ≤ behind v.address a → behind a v.address < v.length → PartTouched ≡ store_verdict v a n
  unfolding store_verdict
  store_back h k = sym (back_is v.address a v.length n hv ha long some room h k)

  pub store_none : n ≤ behind v.address a → v.length ≤ behind a v.address → NoneTouched ≡ store_verdict v a n
  unfolding store_verdict
  store_none h k = sym (none_is v.address a v.length n hv ha long some room h k)

-- the four of them
pub ruleset stores = (store_whole, store_front, store_back, store_none)
