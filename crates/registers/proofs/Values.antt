-- What a file answers of a register: no more than its width holds, and of a narrower register the remainder of the wider one.
-- Assumes nothing.
use Rattle.std.specs.Prelude.{Some, None}
use Prim.Native.Nat.{ℕ, zero, suc, ◌+◌, ◌-◌, ◌*◌, ◌^◌, ◌/◌, ◌%◌, ◌<◌, ◌≤◌}
use native.Mathlib.Nat.{mod-lt}
use native.Mathlib.Omega.{arith}
use mathlib.Core.Path.{◌≡◌, refl}
use mathlib.Core.List.{List}
use mathlib.Core.Bool.{Bool, true, false, cond, ◌&&◌, ◌||◌, or-true}
use lib.Dec.{eqb, ltb, lit≤}
use borrow.Author.Rules.{rules}
use lib.ListN.{get_or}
use lib.Pow.{pow_pos, pow_mono}
use borrow.Author.Tests.{eqb-true}
use Rattle.laws.specs.Words.{bit}
use Rattle.laws.proofs.Every.{Every, every_at, at}
use Rattle.laws.proofs.Numbers.{number_below}
use Rattle.registers.specs.Banks.{bank_widths, width_of, is_logged}
use Rattle.registers.specs.Files.{file_slots, Part, nowhere, bank_parts, part_of, slot_of, after, part_value, value_of, numbers_from, file_of}
use Rattle.registers.proofs.Parts.{inner}
use Rattle.registers.specs.declared.RegSpec.{RegSpec}
use Rattle.registers.specs.declared.RegisterFile.{RegisterFile}
use Rattle.registers.specs.Values.{Value}

-- what is known is below a bound
abbrev pub Below : ℕ → Value → Type 0
Below n (Some v) = v < n
Below n None = Unit {0}

pub below_le : {m n : ℕ} → m ≤ n → (x : Value) → Below m x → Below n x
below_le h (Some v) b = omega arith
below_le h None b = tt

-- Every value of a file that is read is one of its values
pub slot_below : (f : RegisterFile) (n : ℕ) → 0 < n → Every (λ (v : ℕ). v < n) f.values → (k : ℕ) → Below n (slot_of f k)
unfolding slot_of
slot_below f n pos h k = by (ltb k file_slots && bit f.known k)
  where
    by : (t : Bool) → Below n (cond t (Some (get_or f.values k 0)) None)
    by true = every_at (λ (v : ℕ). v < n) f.values 0 h pos k
    by false = tt

numbers_below : (b : List ℕ) → ((k : ℕ) → get_or b k 0 < 256) → (i n : ℕ) → Every (λ (v : ℕ). v < 2 ^ 64) (numbers_from b i n)
unfolding numbers_from
numbers_below b h i zero = tt
numbers_below b h i (suc n) = (number_below b h i 8, numbers_below b h (i + 8) n)

-- a file from bytes holds words
pub file_words : (b : List ℕ) → ((k : ℕ) → get_or b k 0 < 256) → Every (λ (v : ℕ). v < 2 ^ 64) (file_of b).values
unfolding file_of
file_words b h = numbers_below b h 5 file_slots

-- a part has no more than its bits
pub part_below : (f : RegisterFile) (p : Part) → Below (2 ^ p.bits) (part_value f p)
unfolding part_value
part_below f p = by (slot_of f p.slot)
  where
    by : (x : Value) → Below (2 ^ p.bits) (after x (λ v. Some (v / 2 ^ p.below % 2 ^ p.bits)))
    by (Some v) = mod-lt (v / 2 ^ p.below) (pow_pos p.bits)
    by None = tt

-- a part of a bank's table has as many bits as the bank is wide, or lies nowhere
fits : ℕ → Part → Bool
fits bank p = eqb p.bits (8 * get_or bank_widths bank 0) || eqb p.slot file_slots

fitting : (f : RegisterFile) (bank : ℕ) (p : Part) → fits bank p ≡ true → Below (2 ^ (8 * get_or bank_widths bank 0)) (part_value f p)
unfolding fits part_value slot_of
fitting f bank p h = by (eqb p.bits (8 * get_or bank_widths bank 0)) refl h
  where
    by : (t : Bool) → eqb p.bits (8 * get_or bank_widths bank 0) ≡ t → (t || eqb p.slot file_slots) ≡ true → Below (2 ^ (8 * get_or bank_widths bank 0)) (part_value f p)
    by true e h = rw (← eqb-true p.bits (8 * get_or bank_widths bank 0) e) (part_below f p)
    by false e h = rw (eqb-true p.slot file_slots h) tt

-- a value has no more bytes than its register
pub value_below : (f : RegisterFile) (x : RegSpec) → Below (2 ^ (8 * width_of x)) (value_of f x)
unfolding value_of part_of width_of fits
value_below f x = by (is_logged x.bank x.number)
  where
    p : Part
    p = get_or (bank_parts x.number) x.bank nowhere

    by : (t : Bool) → Below (2 ^ (8 * get_or bank_widths x.bank 0)) (part_value f (cond t p nowhere))
    by true = fitting f x.bank p (at fits (bank_parts x.number) nowhere refl (λ (k : ℕ). or-true (eqb 0 (8 * get_or bank_widths k 0))) x.bank)
    by false = fitting f x.bank nowhere (or-true (eqb 0 (8 * get_or bank_widths x.bank 0)))

-- what is known of a register is a word
pub value_word : (f : RegisterFile) (x : RegSpec) → Below (2 ^ 64) (value_of f x)
unfolding value_of part_of
value_word f x = by (is_logged x.bank x.number)
  where
    p : Part
    p = get_or (bank_parts x.number) x.bank nowhere

    small : p.bits ≤ 64
    small = every_at (λ (q : Part). q.bits ≤ 64) (bank_parts x.number) nowhere (search rules) (lit≤ tt) x.bank

    by : (t : Bool) → Below (2 ^ 64) (part_value f (cond t p nowhere))
    by true = below_le (pow_mono small) (part_value f p) (part_below f p)
    by false = below_le (pow_mono {i = 0} {j = 64} (lit≤ tt)) (part_value f nowhere) (part_below f nowhere)

-- a register inside another, `up` bits above its lowest, is that part of its value: of ax, al is the remainder and ah is what is above
pub inside :
    (f : RegisterFile) (x y : RegSpec) (up : ℕ) → (part_of x).slot ≡ (part_of y).slot → (part_of x).below ≡ (part_of y).below + up → (part_of x).bits + up ≤ (part_of y).bits
    → value_of f x ≡ after (value_of f y) (λ v. Some (v / 2 ^ up % 2 ^ (part_of x).bits))
unfolding value_of part_value
inside f x y up s b h =
    let p = part_of x in
    let q = part_of y in
    let more = q.bits - (p.bits + up) in
    let e : q.bits ≡ more + p.bits + up = omega arith in
    let i = inner f q.slot q.below up p.bits more in
    rw (s, b) (rw (← e) at i)
