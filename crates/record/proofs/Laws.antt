-- What a record that is not refused keeps to, for those who call. Assumes nothing.
use Rattle.std.specs.Prelude.{Ok, Err, Result}
use Prim.Native.Nat.{ℕ, zero, suc, ◌+◌, ◌*◌, ◌%◌, ◌<◌, ◌≤◌}
use native.Mathlib.Omega.{arith}
use mathlib.Core.Path.{◌≡◌, refl, sym, ap, ◌∙◌}
use mathlib.Core.List.{List, [], ◌∷◌}
use mathlib.Core.Bool.{Bool, true, false, not, cond, ◌||◌, or_assoc, or-false}
use lib.ListN.{length, get_or, get_or-eq_default}
use lib.Dec.{eqb, ltb, lit≤}
use borrow.Author.Tests.{eqb-true, ltb-true, ltb-false, not-false, eq-eqb, ne_eqb, lt-ltb, le-ltb}
use Rattle.laws.specs.Words.{number_at}
use Rattle.laws.specs.Tests.{first_of}
use Rattle.std.proofs.lemmas.Bool.{and_parts}
use Rattle.laws.proofs.Every.{Every, every_at, every_weaken, any_false, first_zero}
use Rattle.registers.specs.Banks.{reg, is_register}
use Rattle.registers.specs.declared.RegSpec.{RegSpec}
use Rattle.digest.specs.Digests.{digest_in}
use Rattle.digest.specs.declared.BehaviorDigest.{BehaviorDigest}
use Rattle.everyday.specs.Rows.{unlisted, everyday_digest, is_everyday}
use Rattle.everyday.proofs.Laws.{held}
use Rattle.record.specs.Records.{record_kind, segment_kind, everyday_kind, everyday_bytes, record_bytes, segment_bytes, record_length, is_record, RecordLong, brought_digest, record_digest, record_of, outside, lacks_digest, record_tests, record_refusal, record_answer, spec_at, reg_at}
use Rattle.record.specs.declared.Record.{Record}
use Rattle.record.specs.Halves.{plain_record, completed_record}
use Rattle.laws.specs.Refusals.{answered_by, refused_by, refusal_number}
use Rattle.laws.specs.declared.refusals.Refusal.{Refusal}
use Rattle.laws.proofs.Answered.{not_refused}
use Rattle.laws.specs.declared.refusals.Refusal.TheVariants.{Malformed, Outside, Unlisted}

-- four tests, joined as code joins them
pub some_of_four : (a b c d : Bool) → (a || b || c || d) ≡ (a || (b || (c || (d || false))))
some_of_four a b c d = simp (or_assoc, or-false)

-- four numbers, each taken out of its place
pub four_of_lem : (l : List ℕ) → length l ≡ 4 → (i : ℕ) → get_or (get_or l 0 0 ∷ get_or l 1 0 ∷ get_or l 2 0 ∷ get_or l 3 0 ∷ []) i 0 ≡ get_or l i 0
four_of_lem [] e i = absurd (omega arith)
four_of_lem (a ∷ []) e i = absurd (omega arith)
four_of_lem (a ∷ b ∷ []) e i = absurd (omega arith)
four_of_lem (a ∷ b ∷ c ∷ []) e i = absurd (omega arith)
four_of_lem (a ∷ b ∷ c ∷ d ∷ []) e i = refl
four_of_lem (a ∷ b ∷ c ∷ d ∷ x ∷ l) e i = absurd (omega arith)

-- every number is inside its table
pub record Inside (x : Record) : Type 0 where
  pub count : x.count ≤ 4
  pub specs : Every (λ (s : ℕ). s ≤ 35) x.specs
  pub regs : Every (λ (y : RegSpec). is_register y.bank y.number ≡ true) x.regs
  pub size : x.size ≤ 64
  pub prefixes : x.prefixes ≤ 15
  pub mask : x.mask ≤ 7
  pub extra : x.digest.extra ≤ 28
  pub segment : x.segment ≤ 2

pub inside : (x : Record) → outside x ≡ false → Inside x
unfolding outside
inside x e =
    let t = any_false (λ (t : Bool). t) _ e in
    record {
      count = ltb-false 4 x.count t.0;
      specs = every_weaken (λ (s : ℕ). ltb 35 s ≡ false) (λ (s : ℕ). s ≤ 35) (λ (s : ℕ). ltb-false 35 s) x.specs (any_false (λ (s : ℕ). ltb 35 s) x.specs t.1.0);
      regs =
          every_weaken
          (λ (y : RegSpec). not (is_register y.bank y.number) ≡ false)
          (λ (y : RegSpec). is_register y.bank y.number ≡ true)
          (λ (y : RegSpec). not-false (is_register y.bank y.number))
          x.regs
          (any_false (λ (y : RegSpec). not (is_register y.bank y.number)) x.regs t.1.1.0);
      size = ltb-false 64 x.size t.1.1.1.0;
      prefixes = ltb-false 15 x.prefixes t.1.1.1.1.0;
      mask = ltb-false 7 x.mask t.1.1.1.1.1.0;
      extra = ltb-false 28 x.digest.extra t.1.1.1.1.1.1.0;
      segment = ltb-false 2 x.segment t.1.1.1.1.1.1.1.0;
    }

-- the same of operand i, past the fourth too
pub spec_inside : {x : Record} → Inside x → (i : ℕ) → spec_at x i ≤ 35
spec_inside {x} h i = every_at (λ (s : ℕ). s ≤ 35) x.specs 0 h.specs (lit≤ tt) i

pub reg_inside : {x : Record} → Inside x → (i : ℕ) → is_register (reg_at x i).bank (reg_at x i).number ≡ true
unfolding is_register
reg_inside {x} h i = every_at (λ (y : RegSpec). is_register y.bank y.number ≡ true) x.regs (reg 0 0) h.regs refl i

-- a kind's length is no less than that of the kind without a digest, and the others have one
kind_long : (k n : ℕ) → 0 < n → n ≡ record_length k → (everyday_bytes ≤ n) × ((k ≡ everyday_kind → ⊥) → record_bytes ≤ n)
unfolding record_length
kind_long k n h e = by (eqb k record_kind) (eqb k segment_kind) (eqb k everyday_kind) refl e
  where
    by :
        (s t u : Bool) → eqb k everyday_kind ≡ u → n ≡ cond s record_bytes (cond t segment_bytes (cond u everyday_bytes 0))
        → (everyday_bytes ≤ n) × ((k ≡ everyday_kind → ⊥) → record_bytes ≤ n)
    by true t u q e = (omega arith, (λ ne. omega arith))
    by false true u q e = (omega arith, (λ ne. omega arith))
    by false false true q e = (omega arith, (λ ne. absurd (ne (eqb-true k everyday_kind q))))
    by false false false q e = absurd (omega (arith, h, e))

pub record_long : (b : List ℕ) → is_record b ≡ true → RecordLong b
unfolding is_record
record_long b e =
    let some = ltb 0 (length b) in
    let long = eqb (length b) (record_length (get_or b 0 0)) in
    kind_long (get_or b 0 0) (length b) (ltb-true 0 (length b) ((and_parts some long e).0)) (eqb-true (length b) (record_length (get_or b 0 0)) ((and_parts some long e).1))

-- The digest, by kind
module _ (b : List ℕ) where
  pub listed_digest : get_or b 0 0 ≡ everyday_kind → record_digest b ≡ everyday_digest (number_at b 1 2)
  unfolding record_digest
  listed_digest e = rw (eq-eqb (get_or b 0 0) everyday_kind e)

  pub own_digest : (get_or b 0 0 ≡ everyday_kind → ⊥) → record_digest b ≡ Ok (brought_digest b)
  unfolding record_digest
  own_digest ne = rw (ne_eqb (get_or b 0 0) everyday_kind ne)

  pub listed_inside : get_or b 0 0 ≡ everyday_kind → false ≡ ltb 28 (record_of b).digest.extra
  unfolding record_of
  listed_inside e = rw (listed_digest e, le-ltb 28 (digest_in (everyday_digest (number_at b 1 2))).extra (held (number_at b 1 2)).list)

  pub own_list : (get_or b 0 0 ≡ everyday_kind → ⊥) → (record_of b).digest.extra ≡ number_at b 38 2
  unfolding record_of
  own_list ne = rw (own_digest ne)

  pub listed_lacks : get_or b 0 0 ≡ everyday_kind → not (is_everyday (number_at b 1 2)) ≡ lacks_digest b
  unfolding lacks_digest is_everyday
  listed_lacks e = rw (listed_digest e)

  pub own_lacks : (get_or b 0 0 ≡ everyday_kind → ⊥) → false ≡ lacks_digest b
  unfolding lacks_digest
  own_lacks ne = rw (own_digest ne)

-- the same as the code reads it
module _ (b : List ℕ) where
  pub digest_listed :
      {n : ℕ} {d : BehaviorDigest}
      → d ≡ digest_in (everyday_digest n) → n ≡ number_at b 1 2 → get_or b 0 0 ≡ everyday_kind → d ≡ digest_in (record_digest b)
  digest_listed p q e = rw (listed_digest b e, ← q) p

  pub digest_own :
      {n : ℕ}
      → n ≡ number_at b 38 2 → (get_or b 0 0 ≡ everyday_kind → ⊥)
      → ◌≡◌ {A = BehaviorDigest} (record { behavior = get_or b 36 0; operands = get_or b 37 0; extra = n }) (digest_in (record_digest b))
  digest_own q ne = rw (own_digest b ne, q)

  pub own_outside : {n : ℕ} → n ≡ number_at b 38 2 → (get_or b 0 0 ≡ everyday_kind → ⊥) → ltb 28 n ≡ ltb 28 (record_of b).digest.extra
  own_outside q ne = rw (own_list b ne, q)

  pub listed_within : get_or b 0 0 ≡ everyday_kind → not (eqb (get_or b 0 0) everyday_kind) ≡ ltb 28 (record_of b).digest.extra
  listed_within e = rw (eq-eqb _ _ e) (listed_inside b e)

-- The refusal, test by test
module _ (b : List ℕ) where
  -- what is answered by its number
  pub malformed : 1 ≡ record_refusal b → Err Malformed ≡ answered_by (record_refusal b) (tt {0})
  malformed e = rw (← e)

  pub beyond : 2 ≡ record_refusal b → Err Outside ≡ answered_by (record_refusal b) (tt {0})
  beyond e = rw (← e)

  pub undigested : unlisted ≡ record_refusal b → Err Unlisted ≡ answered_by (record_refusal b) (tt {0})
  undigested e = rw (← e)

  pub whole : 0 ≡ record_refusal b → Ok tt ≡ answered_by (record_refusal b) (tt {0})
  whole e = rw (← e)

  pub refused_empty : length b ≡ 0 → 1 ≡ record_refusal b
  unfolding record_refusal first_of is_record
  refused_empty e = rw (le-ltb 0 (length b) (omega arith))

  module _ (some : length b ≡ 0 → ⊥) {n : ℕ} (e : n ≡ record_length (get_or b 0 0)) where
    pub refused_length : (length b ≡ n → ⊥) → 1 ≡ record_refusal b
    unfolding record_refusal first_of is_record
    refused_length ne = rw (lt-ltb 0 (length b) (omega (arith, some)), ne_eqb (length b) (record_length (get_or b 0 0)) (λ (q : length b ≡ record_length (get_or b 0 0)). ne (q ∙ sym e)))

    module _ (long : length b ≡ n) where
      pub has_fields : RecordLong b
      has_fields = kind_long (get_or b 0 0) (length b) (omega (arith, some)) (long ∙ e)

      pub by_fields : {t u : Bool} → t ≡ outside (record_of b) → u ≡ lacks_digest b → cond t 2 (cond u unlisted 0) ≡ record_refusal b
      unfolding record_refusal first_of is_record
      by_fields p q = rw (p, q, lt-ltb 0 (length b) (omega (arith, some)), eq-eqb (length b) (record_length (get_or b 0 0)) (long ∙ e))

      pub by_digest : {u : Bool} → false ≡ outside (record_of b) → u ≡ lacks_digest b → cond u unlisted 0 ≡ record_refusal b
      by_digest p q = by_fields p q

      pub refused_fields : true ≡ outside (record_of b) → 2 ≡ record_refusal b
      refused_fields p = by_fields p refl

-- the segment, in a kind that has its byte and in one that has none
module _ (b : List ℕ) where
  pub segment_there : record_bytes < length b → get_or b record_bytes 0 ≡ (record_of b).segment
  unfolding record_of
  segment_there h = refl

  pub no_segment : length b ≤ record_bytes → 0 ≡ (record_of b).segment
  unfolding record_of
  no_segment h = sym (get_or-eq_default b 0 {n = record_bytes} h)

-- what it is that is not refused
pub record Passed (b : List ℕ) : Type 0 where
  pub is : is_record b ≡ true
  pub in_tables : outside (record_of b) ≡ false
  pub digested : lacks_digest b ≡ false

pub passed : (b : List ℕ) → record_refusal b ≡ 0 → Passed b
unfolding record_refusal
passed b e =
    let t = first_zero (record_tests b) (lit≤ tt, (lit≤ tt, (lit≤ tt, tt))) e in
    record { is = not-false (is_record b) t.0; in_tables = t.1.0; digested = t.1.1.0 }

-- the number of what is answered by the refusal is the refusal
pub refused_number : {A : Type 0} (b : List ℕ) (x : A) → refused_by (answered_by (record_refusal b) x) ≡ record_refusal b
unfolding record_refusal first_of
refused_number b x = by (not (is_record b)) (outside (record_of b)) (lacks_digest b)
  where
    by : (t u v : Bool) → refused_by (answered_by (cond t 1 (cond u 2 (cond v unlisted 0))) x) ≡ cond t 1 (cond u 2 (cond v unlisted 0))
    by true u v = refl
    by false true v = refl
    by false false true = refl
    by false false false = refl

pub number_read : {A : Type 0} (b : List ℕ) (x : A) {e : Refusal} {r : Result A Refusal} → r ≡ answered_by (record_refusal b) x → r ≡ Err e → refusal_number e ≡ record_refusal b
number_read b x {e} {r} p q = ap refused_by (sym q ∙ p) ∙ refused_number b x

pub answer_number : (b : List ℕ) → refused_by (record_answer b) ≡ record_refusal b
answer_number b = refused_number b (record_of b)

-- and where it is 0 the record is answered
pub answer_read : (b : List ℕ) → record_refusal b ≡ 0 → record_answer b ≡ Ok (record_of b)
answer_read b e = not_refused (record_refusal b) (record_of b) e

-- a record in its two halves
pub halves : (b : List ℕ) → completed_record (plain_record b) b ≡ record_of b
unfolding record_of plain_record completed_record
halves b = refl

-- spec i and register i, where they stand
module _ (b : List ℕ) where
  pub spec_there : (i : ℕ) → i ≤ 3 → get_or b (4 + i) 0 ≡ spec_at (record_of b) i
  unfolding record_of
  spec_there zero h = refl
  spec_there (suc zero) h = refl
  spec_there (suc (suc zero)) h = refl
  spec_there (suc (suc (suc zero))) h = refl
  spec_there (suc (suc (suc (suc i)))) h = absurd (omega arith)

  pub reg_there : (i : ℕ) → i ≤ 3 → reg (get_or b (8 + 2 * i) 0) (get_or b (9 + 2 * i) 0) ≡ reg_at (record_of b) i
  unfolding record_of
  reg_there zero h = refl
  reg_there (suc zero) h = refl
  reg_there (suc (suc zero)) h = refl
  reg_there (suc (suc (suc zero))) h = refl
  reg_there (suc (suc (suc (suc i)))) h = absurd (omega arith)

-- the low byte of imm
pub low_there : (b : List ℕ) → get_or b 26 0 < 256 → get_or b 26 0 ≡ (record_of b).imm % 256
unfolding record_of number_at
low_there b h = let n = number_at b 27 7 in let e : get_or b 26 0 ≡ (get_or b 26 0 + 256 * n) % 256 = omega (arith, h) in e
