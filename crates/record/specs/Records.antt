-- A record, from its bytes.
use Rattle.std.specs.Prelude.{ℕ, ◌+◌, ◌≤◌, ◌≡◌, List, [], ◌∷◌, Bool, not, cond, ◌&&◌, length, get_or, replicate, ltb, eqb, Result, Ok}
use Rattle.laws.specs.Words.{number_at, bit}
use Rattle.laws.specs.Tests.{any, some_of, first_of}
use Rattle.registers.specs.Banks.{reg, is_register}
use Rattle.registers.specs.declared.RegSpec.{RegSpec}
use Rattle.digest.specs.Digests.{empty_digest, digest_number, digest_in}
use Rattle.digest.specs.declared.BehaviorDigest.{BehaviorDigest}
use Rattle.everyday.specs.Rows.{unlisted, everyday_digest}
use Rattle.record.specs.declared.Record.{Record}
use Rattle.laws.specs.declared.refusals.Refusal.{Refusal}
use Rattle.laws.specs.Refusals.{answered_by}

-- the kinds of records, and their lengths: the second has one byte more, which names a segment; the third has no digest
abbrev pub record_kind : ℕ
record_kind = 0x10

abbrev pub segment_kind : ℕ
segment_kind = 0x11

abbrev pub everyday_kind : ℕ
everyday_kind = 0x12

abbrev pub everyday_bytes : ℕ
everyday_bytes = 36

abbrev pub record_bytes : ℕ
record_bytes = everyday_bytes + 4

abbrev pub segment_bytes : ℕ
segment_bytes = record_bytes + 1

-- by kind, 0 for no kind
unfoldable pub record_length : ℕ → ℕ
record_length k =
    cond (eqb k record_kind) record_bytes (cond (eqb k segment_kind) segment_bytes (cond (eqb k everyday_kind) everyday_bytes 0))

-- refusal 1 where this fails: a kind, and its length
unfoldable pub is_record : List ℕ → Bool
is_record b = ltb 0 (length b) && eqb (length b) (record_length (get_or b 0 0))

-- where a record is read, it has the digest's bytes unless its kind has none
abbrev pub RecordLong : List ℕ → Type 0
RecordLong b = (everyday_bytes ≤ length b) × ((get_or b 0 0 ≡ everyday_kind → ⊥) → record_bytes ≤ length b)

-- the digest that the bytes bring
abbrev pub brought_digest : List ℕ → BehaviorDigest
brought_digest b = record { behavior = get_or b 36 0; operands = get_or b 37 0; extra = number_at b 38 2 }

-- the digest of a record: of its opcode where the kind has none, or refusal 9
unfoldable pub record_digest : List ℕ → Result BehaviorDigest Refusal
record_digest b = cond (eqb (get_or b 0 0) everyday_kind) (everyday_digest (number_at b 1 2)) (Ok (brought_digest b))

abbrev pub reg_from : List ℕ → ℕ → RegSpec
reg_from b i = reg (get_or b i 0) (get_or b (i + 1) 0)

-- the segment is 0 for none, 1 for fs, 2 for gs; a record without its byte names none
unfoldable pub record_of : List ℕ → Record
record_of b =
    record {
      opcode = number_at b 1 2;
      count = get_or b 3 0;
      specs = get_or b 4 0 ∷ get_or b 5 0 ∷ get_or b 6 0 ∷ get_or b 7 0 ∷ [];
      regs = reg_from b 8 ∷ reg_from b 10 ∷ reg_from b 12 ∷ reg_from b 14 ∷ [];
      size = get_or b 16 0;
      scale = get_or b 17 0;
      disp = number_at b 18 8;
      imm = number_at b 26 8;
      prefixes = get_or b 34 0;
      mask = get_or b 35 0;
      digest = digest_in (record_digest b);
      segment = get_or b record_bytes 0;
    }

-- refusal 2
unfoldable pub outside : Record → Bool
outside x =
    some_of
    (ltb 4 x.count
    ∷ any (λ (s : ℕ). ltb 35 s) x.specs
    ∷ any (λ (y : RegSpec). not (is_register y.bank y.number)) x.regs
    ∷ ltb 64 x.size
    ∷ ltb 15 x.prefixes
    ∷ ltb 7 x.mask
    ∷ ltb 28 x.digest.extra
    ∷ ltb 2 x.segment
    ∷ [])

-- refusal 9: no digest
unfoldable pub lacks_digest : List ℕ → Bool
lacks_digest b = not (eqb (digest_number (record_digest b)) 0)

-- the tests that every call makes first, of the bytes of a record alone
abbrev pub record_tests : List ℕ → List (Bool × ℕ)
record_tests b = (not (is_record b), 1) ∷ (outside (record_of b), 2) ∷ (lacks_digest b, unlisted) ∷ []

-- the refusal that they give, 0 for none
unfoldable pub record_refusal : List ℕ → ℕ
record_refusal b = first_of (record_tests b)

-- the record, or the refusal
abbrev pub record_answer : List ℕ → Result Record Refusal
record_answer b = answered_by (record_refusal b) (record_of b)

-- a record, but for its digest
abbrev pub with_digest : Record → BehaviorDigest → Record
with_digest x d =
    record {
      opcode = x.opcode;
      count = x.count;
      specs = x.specs;
      regs = x.regs;
      size = x.size;
      scale = x.scale;
      disp = x.disp;
      imm = x.imm;
      prefixes = x.prefixes;
      mask = x.mask;
      digest = d;
      segment = x.segment;
    }

-- The parts of a record that the rules ask for
abbrev pub spec_at : Record → ℕ → ℕ
spec_at x i = get_or x.specs i 0

abbrev pub reg_at : Record → ℕ → RegSpec
reg_at x i = get_or x.regs i (reg 0 0)

abbrev pub vex_w : Record → Bool
vex_w x = bit x.prefixes 0

abbrev pub address_size : Record → Bool
address_size x = bit x.prefixes 3
