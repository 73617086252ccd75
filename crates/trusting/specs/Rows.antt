-- Tables: stores against a variable, and short traces.
use Rattle.std.specs.Prelude.{ℕ, ◌-◌, ◌^◌, List, [], ◌∷◌, Option, None, Some}
use Rattle.promises.specs.Rows.{record_with, opcode, specs, regs, size, behavior, access, file_knowing, knows, Q, RegRRR, Deref, Deref_rdi, Table}
use Rattle.watching.specs.Verdicts.{variable, store_verdict, store_touched}
use Rattle.watching.specs.Traces.{Pair, verdicts_of, watch_of}
use Rattle.watching.specs.declared.verdicts.Variable.{Variable}
use Rattle.watching.specs.declared.verdicts.Verdict.{Verdict}
use Rattle.watching.specs.declared.verdicts.Verdict.TheVariants.{NoWrite, AddressUnknown, NoneTouched, PartTouched, WholeTouched}
use Rattle.watching.specs.declared.watch.Watch.{Watch}

-- a variable, and a store of n bytes at an address
pub record Store : Type 0 where
  pub to : Variable
  pub bytes : ℕ
  pub at : ℕ

abbrev pub store : Variable → ℕ → ℕ → Store
store v n a = record { to = v; bytes = n; at = a }

abbrev pub verdict_and_bytes : Store → Verdict × ℕ
verdict_and_bytes s = (store_verdict s.to s.at s.bytes, store_touched s.to s.at s.bytes)

unfoldable pub stores : List (Store × (Verdict × ℕ))
stores =
    (store (variable 0x1000 8) 8 0xFFC, (PartTouched, 0x0F))
    ∷ (store (variable 0x1000 8) 64 0xFC8, (WholeTouched, 0xFF))
    ∷ (store (variable 0x1000 8) 64 0xFC7, (PartTouched, 0x7F))
    ∷ (store (variable 0x1000 8) 8 0x1008, (NoneTouched, 0))
    ∷ (store (variable 0x1000 8) 8 0xFF8, (NoneTouched, 0))
    ∷ (store (variable 0x1000 8) 4 0x1004, (PartTouched, 0xF0))
    ∷ (store (variable 0x1000 8) 1 0x1007, (PartTouched, 0x80))
    ∷ (store (variable 0x1000 1) 1 0x1000, (WholeTouched, 0x01))
    ∷ (store (variable (2 ^ 64 - 4) 8) 4 0, (PartTouched, 0xF0))
    ∷ (store (variable (2 ^ 64 - 4) 8) 8 (2 ^ 64 - 4), (WholeTouched, 0xFF))
    ∷ (store (variable (2 ^ 64 - 4) 8) 4 4, (NoneTouched, 0))
    ∷ (store (variable 0 4) 64 (2 ^ 64 - 60), (WholeTouched, 0x0F))
    ∷ (store (variable 0 4) 60 (2 ^ 64 - 60), (NoneTouched, 0))
    ∷ []

-- eight bytes at 0x1000
abbrev pub position : Variable
position = variable 0x1000 8

-- 8 bytes stored at rbx, then rax read, under files that know rbx or nothing
abbrev pub storing : List ℕ
storing = record_with (specs (Deref ∷ RegRRR ∷ []) ∷ access 0x06 ∷ regs 1 Q 3 ∷ regs 0 Q 0 ∷ size 8 ∷ [])

abbrev pub blind : Pair
blind = (storing, file_knowing [])

abbrev pub stores_at : ℕ → Pair
stores_at a = (storing, file_knowing (knows 3 a ∷ []))

-- 8 bytes read at rbx: no write, wherever it is
abbrev pub reads : Pair
reads = (record_with (specs (RegRRR ∷ Deref ∷ []) ∷ access 0x06 ∷ regs 1 Q 3 ∷ regs 0 Q 0 ∷ size 8 ∷ []), file_knowing (knows 3 0xFFC ∷ []))

-- 8 bytes stored at rbx and 8 at rdi, by one record: part of the variable and then the whole
abbrev pub both : Pair
both =
    (record_with (specs (Deref ∷ Deref_rdi ∷ []) ∷ access 0x0A ∷ regs 1 Q 3 ∷ size 8 ∷ []), file_knowing (knows 3 0xFFC ∷ knows 7 0x1000 ∷ []))

-- visiting refuses these: no record at all (1), no file (3), a complex instruction (4)
abbrev pub no_record : Pair
no_record = ([], file_knowing [])

abbrev pub no_file : Pair
no_file = (storing, [])

abbrev pub complex_one : Pair
complex_one = (record_with (opcode 24 ∷ behavior 0x20 ∷ specs (Deref ∷ []) ∷ access 0x02 ∷ regs 1 Q 3 ∷ []), file_knowing (knows 3 0x1000 ∷ []))

-- the verdicts of pairs, one for each event: an unknown address; none, part and whole at known ones; a refused pair has none
unfoldable pub verdicts : List (Pair × List Verdict)
verdicts =
    (blind, NoWrite ∷ AddressUnknown ∷ NoWrite ∷ [])
    ∷ (stores_at 0x2000, NoWrite ∷ NoneTouched ∷ NoWrite ∷ [])
    ∷ (stores_at 0xFFC, NoWrite ∷ PartTouched ∷ NoWrite ∷ [])
    ∷ (stores_at 0x1000, NoWrite ∷ WholeTouched ∷ NoWrite ∷ [])
    ∷ (reads, NoWrite ∷ NoWrite ∷ NoWrite ∷ [])
    ∷ (both, NoWrite ∷ PartTouched ∷ NoWrite ∷ WholeTouched ∷ [])
    ∷ (complex_one, [])
    ∷ []

-- pairs, unknown, none, part, whole, refused, first, last
abbrev pub told : ℕ → ℕ → ℕ → ℕ → ℕ → ℕ → Option ℕ → Option ℕ → Watch
told p u n a w r f l =
    record {
      variable = position;
      pairs = p;
      tally = record { unknown = u; none = n; part = a; whole = w };
      refused = r;
      first = f;
      last = l;
    }

-- refused pairs keep their numbers; the first part write stays and the last whole one moves; one record may be both
unfoldable pub traces : List (List Pair × Watch)
traces =
    ([], told 0 0 0 0 0 0 None None)
    ∷ (blind ∷ stores_at 0xFFC ∷ stores_at 0x1000 ∷ blind ∷ [], told 4 2 0 1 1 0 (Some 1) (Some 2))
    ∷ (stores_at 0x1000 ∷ stores_at 0x1004 ∷ stores_at 0x1000 ∷ stores_at 0xFFC ∷ [], told 4 0 0 2 2 0 (Some 1) (Some 2))
    ∷ (no_record ∷ stores_at 0xFFC ∷ no_file ∷ complex_one ∷ stores_at 0x2000 ∷ [], told 5 0 1 1 0 3 (Some 1) None)
    ∷ (reads ∷ both ∷ reads ∷ [], told 3 0 0 1 1 0 (Some 1) (Some 1))
    ∷ []

abbrev pub RowsHold : Type 0
RowsHold = Table verdict_and_bytes stores × Table (verdicts_of position) verdicts × Table (watch_of position) traces
