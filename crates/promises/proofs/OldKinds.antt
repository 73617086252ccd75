-- The kinds that were there before T-10 answer as they did: a record that names no segment, and a file that knows no base, are the same
-- record and the same file without those bytes. Assumes nothing.
use Rattle.std.specs.Prelude.{Some, None}
use Prim.Native.Nat.{ℕ, zero, suc, ◌+◌, ◌-◌, ◌/◌, ◌%◌, ◌^◌, ◌<◌, ◌≤◌, zero-le}
use native.Mathlib.Nat.{not-suc-le-zero}
use native.Mathlib.Omega.{arith}
use mathlib.Core.Path.{◌≡◌, refl}
use mathlib.Core.Bool.{Bool, true, false, cond, ◌&&◌}
use mathlib.Core.List.{List, [], ◌∷◌, ◌++◌}
use lib.ListN.{length, length-append, get_or, get_or-append}
use lib.Dec.{eqb, ltb, lit≤}
use borrow.Author.Tests.{eqb-true, ltb-true, eq-eqb, lt-ltb}
use Rattle.laws.specs.Words.{number_at, bit}
use Rattle.std.proofs.lemmas.Bool.{and_parts}
use Rattle.laws.proofs.Span.{span}
use Rattle.registers.specs.Files.{file_kind, based_kind, file_bytes, based_bytes, plain_slots, file_slots, file_values, file_length, numbers_from, file_of, is_file, part_of, slot_of, part_value, value_of}
use Rattle.registers.specs.declared.RegSpec.{RegSpec}
use Rattle.registers.specs.declared.RegisterFile.{RegisterFile}
use Rattle.record.specs.Records.{record_kind, segment_kind, record_bytes, record_length, is_record, record_digest, record_of, lacks_digest, record_refusal}
use Rattle.definition.specs.Behaviors.{digest_call, privilege_call, exceptions_call}
use Rattle.definition.specs.Visits.{log_of, refusal_of, visit_by}
use Rattle.definition.specs.Listings.{listing_refusal, listing_call}
use Rattle.promises.proofs.Fields.{same_number, same_brought, same_record}

-- a last byte of 0 says nothing more
zero_behind : (t : List ℕ) (i : ℕ) → get_or (t ++ (0 ∷ [])) i 0 ≡ get_or t i 0
zero_behind [] zero = refl
zero_behind [] (suc i) = refl
zero_behind (x ∷ t) zero = refl
zero_behind (x ∷ t) (suc i) = zero_behind t i

-- Records
module _ (t : List ℕ) (long : length t + 1 ≡ record_bytes) where
  abbrev old : List ℕ
  old = record_kind ∷ t

  abbrev new : List ℕ
  new = segment_kind ∷ (t ++ (0 ∷ []))

  alike : (i : ℕ) → 1 ≤ i → i < 41 → get_or new i 0 ≡ get_or old i 0
  alike zero h k = absurd (not-suc-le-zero h)
  alike (suc i) h k = zero_behind t i

  read_alike : record_of new ≡ record_of old
  unfolding record_digest
  read_alike = same_record new old 41 alike (lit≤ tt) (same_brought new old 41 alike (lit≤ tt)) (zero_behind t (record_bytes - 1))

  old_has : lacks_digest old ≡ false
  unfolding lacks_digest record_digest
  old_has = refl

  new_has : lacks_digest new ≡ false
  unfolding lacks_digest record_digest
  new_has = refl

  old_is : is_record old ≡ true
  unfolding is_record record_length
  old_is = let e : length old ≡ record_bytes = omega arith in rw (lt-ltb 0 (length old) (omega (arith, e)), eq-eqb (length old) record_bytes e)

  new_is : is_record new ≡ true
  unfolding is_record record_length
  new_is = let e : length new ≡ 41 = omega (arith, length-append t (0 ∷ [])) in rw (lt-ltb 0 (length new) (omega (arith, e)), eq-eqb (length new) 41 e)

  pub old_visit : (bad : Bool) (f : RegisterFile) (p : List ℕ) (s : ℕ) → visit_by bad new f p s ≡ visit_by bad old f p s
  unfolding visit_by refusal_of log_of
  old_visit bad f p s = rw (new_is, old_is, new_has, old_has, read_alike)

  pub old_listing : (p : List ℕ) (s : ℕ) → listing_call new p s ≡ listing_call old p s
  unfolding listing_call listing_refusal
  old_listing p s = rw (new_is, old_is, new_has, old_has, read_alike)

  pub old_calls : (digest_call new ≡ digest_call old) × (privilege_call new ≡ privilege_call old) × (exceptions_call new ≡ exceptions_call old)
  unfolding digest_call privilege_call exceptions_call record_refusal
  old_calls = (rw (new_is, old_is, new_has, old_has, read_alike), rw (new_is, old_is, new_has, old_has, read_alike), rw (new_is, old_is, new_has, old_has, read_alike))

-- Files
module _ (t u : List ℕ) (good : is_file (file_kind ∷ t) ≡ true) (more : length u + file_bytes ≡ based_bytes) where
  abbrev plain : List ℕ
  plain = file_kind ∷ t

  abbrev based : List ℕ
  based = based_kind ∷ (t ++ u)

  long : length plain ≡ file_bytes
  unfolding is_file file_length
  long =
      let some = ltb 0 (length plain) in
      let fits = eqb (length plain) file_bytes in
      eqb-true (length plain) file_bytes ((and_parts some fits ((and_parts (some && fits) (ltb (number_at plain 1 4) (2 ^ file_values file_kind)) good).0)).1)

  few : number_at plain 1 4 < 2 ^ plain_slots
  unfolding is_file file_length file_values
  few =
      let fits = ltb 0 (length plain) && eqb (length plain) file_bytes in
      ltb-true (number_at plain 1 4) (2 ^ plain_slots) ((and_parts fits (ltb (number_at plain 1 4) (2 ^ plain_slots)) good).1)

  alike_file : (i : ℕ) → 1 ≤ i → i < file_bytes → get_or based i 0 ≡ get_or plain i 0
  alike_file zero h k = absurd (not-suc-le-zero h)
  alike_file (suc i) h k = get_or-append t u 0 i (omega (arith, long))

  number : (i n : ℕ) → 1 ≤ i → i + n ≤ file_bytes → number_at based i n ≡ number_at plain i n
  number i n h k = same_number based plain file_bytes alike_file i n h k

  known : number_at based 1 4 ≡ number_at plain 1 4
  known = number 1 4 (lit≤ tt) (lit≤ tt)

  pub based_is : is_file based ≡ true
  unfolding is_file file_length file_values
  based_is =
      let e : length based ≡ based_bytes = omega (arith, length-append t u, long, more) in
      let h : number_at plain 1 4 < 2 ^ file_slots = omega (arith, few) in
      rw (lt-ltb 0 (length based) (omega (arith, e)), eq-eqb (length based) based_bytes e, known, lt-ltb (number_at plain 1 4) (2 ^ file_slots) h)

  abbrev Slot : ℕ → Type 0
  Slot k = slot_of (file_of based) k ≡ slot_of (file_of plain) k

  clear_17 : bit (number_at plain 1 4) 17 ≡ false
  unfolding bit
  clear_17 = let e : number_at plain 1 4 / 2 ^ 17 % 2 ≡ 0 = omega (arith, few) in rw e

  clear_18 : bit (number_at plain 1 4) 18 ≡ false
  unfolding bit
  clear_18 = let e : number_at plain 1 4 / 2 ^ 18 % 2 ≡ 0 = omega (arith, few) in rw e

  below : (k : ℕ) → k < file_slots → Slot k
  unfolding slot_of file_of numbers_from
  below k h =
      span Slot 0 19 (
        v 0 5 (lit≤ tt) (lit≤ tt),
        (
          v 1 13 (lit≤ tt) (lit≤ tt),
          (
            v 2 21 (lit≤ tt) (lit≤ tt),
            (
              v 3 29 (lit≤ tt) (lit≤ tt),
              (
                v 4 37 (lit≤ tt) (lit≤ tt),
                (
                  v 5 45 (lit≤ tt) (lit≤ tt),
                  (
                    v 6 53 (lit≤ tt) (lit≤ tt),
                    (
                      v 7 61 (lit≤ tt) (lit≤ tt),
                      (
                        v 8 69 (lit≤ tt) (lit≤ tt),
                        (
                          v 9 77 (lit≤ tt) (lit≤ tt),
                          (
                            v 10 85 (lit≤ tt) (lit≤ tt),
                            (
                              v 11 93 (lit≤ tt) (lit≤ tt),
                              (
                                v 12 101 (lit≤ tt) (lit≤ tt),
                                (
                                  v 13 109 (lit≤ tt) (lit≤ tt),
                                  (
                                    v 14 117 (lit≤ tt) (lit≤ tt),
                                    (v 15 125 (lit≤ tt) (lit≤ tt), (v 16 133 (lit≤ tt) (lit≤ tt), (rw (known, clear_17), (rw (known, clear_18), tt)))),
                                  ),
                                ),
                              ),
                            ),
                          ),
                        ),
                      ),
                    ),
                  ),
                ),
              ),
            ),
          ),
        ),
      )
      k zero-le h
    where
      v : (n i : ℕ) → 1 ≤ i → i + 8 ≤ file_bytes → cond (bit (number_at based 1 4) n) (Some (number_at based i 8)) None ≡ cond (bit (number_at plain 1 4) n) (Some (number_at plain i 8)) None
      v n i h k = rw (known, number i 8 h k)

  slots : (k : ℕ) → Slot k
  unfolding slot_of
  slots k = by (ltb k file_slots) refl
    where
      by : (s : Bool) → ltb k file_slots ≡ s → Slot k
      by true e = below k (ltb-true k file_slots e)
      by false e = rw e

  pub values : (y : RegSpec) → value_of (file_of based) y ≡ value_of (file_of plain) y
  unfolding value_of part_value
  values y = rw (slots (part_of y).slot)
