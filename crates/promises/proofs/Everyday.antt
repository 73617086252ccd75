-- A record that has no digest answers as kind 0x10 with the digest of its opcode filled in, and 9 where its opcode has none. Assumes
-- nothing.
use Prim.Native.Nat.{ℕ, zero, suc, ◌+◌, ◌*◌, ◌/◌, ◌%◌, ◌<◌, ◌≤◌}
use native.Mathlib.Nat.{not-suc-le-zero}
use native.Mathlib.Omega.{arith}
use mathlib.Core.Path.{◌≡◌, refl, sym, ◌∙◌}
use mathlib.Core.Logic.{◌↔◌}
use mathlib.Core.Bool.{Bool, true, false, not, cond, true≢false}
use mathlib.Core.List.{List, [], ◌∷◌, ◌++◌}
use lib.ListN.{length, length-append, get_or, get_or-append, get_or-eq_default}
use lib.Seq.{get_or-append-add}
use lib.Dec.{eqb, lit≤}
use borrow.Author.Tests.{eqb-true, eqb-false, eq-eqb, lt-ltb, not-true}
use Rattle.laws.specs.Words.{number_at, little}
use Rattle.laws.specs.Tests.{first_of}
use Rattle.laws.proofs.Every.{Every}
use Rattle.access.specs.Exceptions.{info_number}
use Rattle.registers.specs.declared.RegisterFile.{RegisterFile}
use Rattle.digest.specs.Digests.{digest_in, digest_number}
use Rattle.digest.specs.declared.BehaviorDigest.{BehaviorDigest}
use Rattle.everyday.specs.Rows.{unlisted, everyday_digest, is_everyday}
use Rattle.everyday.proofs.Laws.{held}
use Rattle.record.specs.Records.{record_kind, everyday_kind, everyday_bytes, record_bytes, record_length, is_record, brought_digest, record_digest, record_of, outside, lacks_digest, record_tests, record_refusal}
use Rattle.record.proofs.Laws.{listed_lacks, own_lacks}
use Rattle.definition.specs.Behaviors.{complex, digest_call, privilege_call, exceptions_call, privilege_number}
use Rattle.definition.specs.Logs.{bytes_of}
use Rattle.definition.specs.Refusals.{nameless, sizeless, no_room}
use Rattle.definition.specs.Visits.{fixed_record, log_of, refusal_of, visit_by}
use Rattle.definition.specs.Listings.{listing_of, listing_refusal, listing_call}
use Rattle.promises.specs.Everyday.{opcode_in, digest_bytes, filled_in, Unlisted}
use Rattle.promises.proofs.Fields.{same_record}
use Rattle.record.proofs.Laws.{refused_number}

module _ (t : List ℕ) (long : length t + 1 ≡ everyday_bytes) where
  abbrev bare : List ℕ
  bare = everyday_kind ∷ t

  abbrev digest : BehaviorDigest
  digest = digest_in (everyday_digest (opcode_in t))

  abbrev filled : List ℕ
  filled = filled_in t

  alike : (i : ℕ) → 1 ≤ i → i < everyday_bytes → get_or filled i 0 ≡ get_or bare i 0
  alike zero h k = absurd (not-suc-le-zero h)
  alike (suc i) h k = get_or-append t (digest_bytes digest) 0 i (omega (arith, long))

  -- the digest's bytes stand behind
  behind : (k : ℕ) → get_or filled (everyday_bytes + k) 0 ≡ get_or (digest_bytes digest) k 0
  behind k =
      let e : everyday_bytes + k ≡ suc (length t + k) = omega (arith, long) in
      rw e (get_or-append-add t (digest_bytes digest) k 0)

  brought_is : brought_digest filled ≡ digest
  unfolding number_at little
  brought_is =
      let small = (held (opcode_in t)).list in
      let extra : digest.extra % 256 + 256 * (digest.extra / 256 % 256 + 256 * 0) ≡ digest.extra = omega (arith, small) in
      rw (behind 0, behind 1, behind 2, behind 3, extra)

  same_digest : digest_in (record_digest filled) ≡ digest_in (record_digest bare)
  unfolding record_digest
  same_digest = brought_is

  bare_long : length bare ≡ everyday_bytes
  bare_long = omega (arith, long)

  filled_long : length filled ≡ record_bytes
  unfolding little
  filled_long = omega (arith, long, length-append t (digest_bytes digest))

  read_alike : record_of filled ≡ record_of bare
  read_alike = same_record filled bare everyday_bytes alike (lit≤ tt) same_digest (none filled (omega (arith, filled_long)) ∙ sym (none bare (omega (arith, bare_long))))
    where
      none : (b : List ℕ) → length b ≤ record_bytes → get_or b record_bytes 0 ≡ 0
      none b h = get_or-eq_default b 0 {n = record_bytes} h

  bare_is : is_record bare ≡ true
  unfolding is_record record_length
  bare_is = rw (lt-ltb 0 (length bare) (omega (arith, bare_long)), eq-eqb (length bare) everyday_bytes bare_long)

  filled_is : is_record filled ≡ true
  unfolding is_record record_length
  filled_is = rw (lt-ltb 0 (length filled) (omega (arith, filled_long)), eq-eqb (length filled) record_bytes filled_long)

  filled_has : lacks_digest filled ≡ false
  filled_has = sym (own_lacks filled (λ (e : record_kind ≡ everyday_kind). omega (arith, e)))

  module _ (listed : is_everyday (opcode_in t) ≡ true) where
    bare_has : lacks_digest bare ≡ false
    bare_has = sym (listed_lacks bare refl) ∙ rw listed

    pub filled_visit : (bad : Bool) (f : RegisterFile) (p : List ℕ) (s : ℕ) → visit_by bad bare f p s ≡ visit_by bad filled f p s
    unfolding visit_by refusal_of log_of
    filled_visit bad f p s = rw (bare_is, filled_is, bare_has, filled_has, read_alike)

    pub filled_listing : (p : List ℕ) (s : ℕ) → listing_call bare p s ≡ listing_call filled p s
    unfolding listing_call listing_refusal
    filled_listing p s = rw (bare_is, filled_is, bare_has, filled_has, read_alike)

    pub filled_calls : (digest_call bare ≡ digest_call filled) × (privilege_call bare ≡ privilege_call filled) × (exceptions_call bare ≡ exceptions_call filled)
    unfolding digest_call privilege_call exceptions_call record_refusal
    filled_calls =
        (rw (bare_is, filled_is, bare_has, filled_has, read_alike), rw (bare_is, filled_is, bare_has, filled_has, read_alike), rw (bare_is, filled_is, bare_has, filled_has, read_alike))

-- 9 is a record's refusal exactly where its opcode is not in the table
module _ (b : List ℕ) where
  pub unlisted_is : record_refusal b ≡ unlisted → Unlisted b
  unfolding record_refusal first_of
  unlisted_is e = by (is_record b) (outside (record_of b)) (lacks_digest b) refl refl refl e
    where
      lacking : lacks_digest b ≡ true → (get_or b 0 0 ≡ everyday_kind) × (is_everyday (number_at b 1 2) ≡ false)
      lacking l = kind (eqb (get_or b 0 0) everyday_kind) refl
        where
          kind : (s : Bool) → eqb (get_or b 0 0) everyday_kind ≡ s → (get_or b 0 0 ≡ everyday_kind) × (is_everyday (number_at b 1 2) ≡ false)
          kind true q = (eqb-true (get_or b 0 0) everyday_kind q, not-true (is_everyday (number_at b 1 2)) (listed_lacks b (eqb-true (get_or b 0 0) everyday_kind q) ∙ l))
          kind false q = absurd (true≢false (sym l ∙ sym (own_lacks b (eqb-false (get_or b 0 0) everyday_kind q))))

      by :
          (i o l : Bool) → is_record b ≡ i → outside (record_of b) ≡ o → lacks_digest b ≡ l → cond {A = ℕ} (not i) 1 (cond o 2 (cond l unlisted 0)) ≡ unlisted
          → Unlisted b
      by false o l p q r e = absurd (omega (arith, e))
      by true true l p q r e = absurd (omega (arith, e))
      by true false false p q r e = absurd (omega (arith, e))
      by true false true p q r e = record { is = p; in_tables = q; kind = (lacking r).0; absent = (lacking r).1 }

  pub is_unlisted : Unlisted b → record_refusal b ≡ unlisted
  unfolding record_refusal first_of
  is_unlisted u = rw (u.is, u.in_tables, sym (listed_lacks b u.kind), u.absent)

  -- and of the calls on a record alone it is the number
  pub nine_calls :
      (digest_number (digest_call b) ≡ record_refusal b) × (privilege_number (privilege_call b) ≡ record_refusal b) × (info_number (exceptions_call b) ≡ record_refusal b)
  unfolding digest_call privilege_call exceptions_call
  nine_calls = (refused_number b _, refused_number b _, refused_number b _)

-- tests behind that give no 9 leave it to the tests in front
never_nine : (us : List (Bool × ℕ)) → Every (λ u. u.1 ≡ unlisted → ⊥) us → first_of us ≡ unlisted → ⊥
unfolding first_of
never_nine [] h e = omega arith
never_nine ((true, n) ∷ us) h e = h.0 e
never_nine ((false, n) ∷ us) h e = never_nine us h.1 e

front_nine : (ts us : List (Bool × ℕ)) → Every (λ u. u.1 ≡ unlisted → ⊥) us → (first_of (ts ++ us) ≡ unlisted) ↔ (first_of ts ≡ unlisted)
unfolding first_of
front_nine [] us h = ((λ e. absurd (never_nine us h e)), (λ e. omega (arith, e)))
front_nine ((true, n) ∷ ts) us h = ((λ e. e), (λ e. e))
front_nine ((false, n) ∷ ts) us h = front_nine ts us h

pub nine_visit : (bad : Bool) (b : List ℕ) (f : RegisterFile) (p : List ℕ) (s : ℕ) → (refusal_of bad b f p s ≡ unlisted) ↔ (record_refusal b ≡ unlisted)
unfolding refusal_of record_refusal
nine_visit bad b f p s =
    front_nine (record_tests b)
    ((bad, 3)
    ∷ (complex (fixed_record b), 4)
    ∷ (nameless (fixed_record b), 5)
    ∷ (sizeless (fixed_record b), 6)
    ∷ (no_room (length (bytes_of (log_of b f))) p s, 7)
    ∷ [])
    ((λ e. omega arith), ((λ e. omega arith), ((λ e. omega arith), ((λ e. omega arith), ((λ e. omega arith), tt)))))

pub nine_listing : (b p : List ℕ) (s : ℕ) → (listing_refusal b p s ≡ unlisted) ↔ (record_refusal b ≡ unlisted)
unfolding listing_refusal record_refusal
nine_listing b p s =
    front_nine (record_tests b)
    ((complex (fixed_record b), 4) ∷ (no_room (length (listing_of (fixed_record b))) p s, 7) ∷ [])
    ((λ e. omega arith), ((λ e. omega arith), tt))
