-- What T-11 says of records that have no digest: what they answer like, when they are refused, and row by row.
use Rattle.std.specs.Prelude.{ℕ, ◌≡◌, List, [], ◌∷◌, ◌++◌, true, false, get_or, Result, Ok, Err}
use Rattle.laws.specs.Words.{number_at, little}
use Rattle.access.specs.declared.PrivilegeLevel.TheVariants.{Any}
use Rattle.digest.specs.Digests.{digest_in}
use Rattle.digest.specs.declared.BehaviorDigest.{BehaviorDigest}
use Rattle.everyday.specs.Rows.{everyday_digest, is_everyday}
use Rattle.record.specs.Records.{record_kind, everyday_kind, is_record, record_of, outside}
use Rattle.definition.specs.Behaviors.{digest_call}
use Rattle.definition.specs.declared.Answer.TheVariants.{Done, Refused, Short}
use Rattle.promises.specs.Rows.{Patch, record_with, put, long, segment, everyday, opcode, count, specs, regs, size, prefixes, knows, Q, D, RFLAGS, Nothing, RegRRR, RegMMM, Deref, log, reads, writes, loads, stores, Row, row_in, row}
use Rattle.promises.specs.Answers.{fixed, raises}
use Rattle.laws.specs.declared.refusals.Refusal.{Refusal}
use Rattle.laws.specs.declared.refusals.Refusal.TheVariants as refusals
use Rattle.access.specs.declared.ExceptionInfo.{ExceptionInfo}
use Rattle.access.specs.declared.PrivilegeLevel.{PrivilegeLevel}

-- the opcode in the bytes behind the kind
abbrev pub opcode_in : List ℕ → ℕ
opcode_in t = number_at (everyday_kind ∷ t) 1 2

abbrev pub digest_bytes : BehaviorDigest → List ℕ
digest_bytes d = d.behavior ∷ d.operands ∷ little 2 d.extra

-- the same bytes in kind 0x10, with the digest of the table filled in behind them
abbrev pub filled_in : List ℕ → List ℕ
filled_in t = record_kind ∷ (t ++ digest_bytes (digest_in (everyday_digest (opcode_in t))))

-- a record that has no digest and an opcode that has none, and that is refused neither 1 nor 2
pub record Unlisted (b : List ℕ) : Type 0 where
  pub is : is_record b ≡ true
  pub in_tables : outside (record_of b) ≡ false
  pub kind : get_or b 0 0 ≡ everyday_kind
  pub absent : is_everyday (number_at b 1 2) ≡ false

-- Every opcode of the table, after fix-ups, and those beside them
abbrev pub digest_at : ℕ → Result BehaviorDigest Refusal
digest_at o = digest_call (record_with (opcode o ∷ everyday ∷ []))

abbrev refused : Result BehaviorDigest Refusal
refused = Err refusals.Unlisted

unfoldable pub every_digest : List (ℕ × Result BehaviorDigest Refusal)
every_digest =
    (0, refused)
    -- MUL: nontrivial, so the list comes from the width
    ∷ (1, fixed 0x18 0x01 4)
    ∷ (2, refused)
    ∷ (27, refused)
    -- LEA
    ∷ (28, fixed 0x00 0x06 0)
    ∷ (29, refused)
    ∷ (40, refused)
    ∷ (99, refused)
    -- MOV, MOVZX, MOVSX
    ∷ (100, fixed 0x00 0x06 0)
    ∷ (101, fixed 0x00 0x06 0)
    ∷ (102, fixed 0x00 0x06 0)
    -- ADD, SUB, AND, OR, XOR
    ∷ (103, fixed 0x08 0x07 0)
    ∷ (104, fixed 0x08 0x07 0)
    ∷ (105, fixed 0x08 0x07 0)
    ∷ (106, fixed 0x08 0x07 0)
    ∷ (107, fixed 0x08 0x07 0)
    -- ADC, SBB
    ∷ (108, fixed 0x0C 0x07 0)
    ∷ (109, fixed 0x0C 0x07 0)
    -- CMP, TEST
    ∷ (110, fixed 0x08 0x05 0)
    ∷ (111, fixed 0x08 0x05 0)
    -- INC, DEC, NEG
    ∷ (112, fixed 0x08 0x03 0)
    ∷ (113, fixed 0x08 0x03 0)
    ∷ (114, fixed 0x08 0x03 0)
    -- NOT
    ∷ (115, fixed 0x00 0x03 0)
    -- XCHG
    ∷ (116, fixed 0x00 0x0F 0)
    -- PUSH
    ∷ (117, fixed 0x00 0x01 26)
    -- POP
    ∷ (118, fixed 0x00 0x02 27)
    ∷ (119, refused)
    -- both bytes of the opcode count
    ∷ (256, refused)
    ∷ (257, refused)
    ∷ (0x6400, refused)
    ∷ (0xFFFF, refused)
    ∷ []

-- rbx is 0x1000 and rsp 0x4000
abbrev file : List Patch
file = knows 3 0x1000 ∷ knows 4 0x4000 ∷ []

-- rcx, and a second operand in rbx or behind it
abbrev two : ℕ → ℕ → List Patch
two o s = opcode o ∷ specs (RegRRR ∷ s ∷ []) ∷ regs 0 Q 1 ∷ regs 1 Q 3 ∷ everyday ∷ []

unfoldable pub everyday_logs : List Row
everyday_logs =
    -- MOV [rbx], rcx and MOV rcx, [rbx]; MOVZX ecx writes rcx
    row (opcode 100 ∷ specs (Deref ∷ RegRRR ∷ []) ∷ regs 0 Q 1 ∷ regs 1 Q 3 ∷ everyday ∷ []) file (Done 16) (log (reads Q 3 ∷ stores 0x1000 8 ∷ reads Q 1 ∷ []))
    ∷ row (two 100 Deref) file (Done 16) (log (writes Q 1 ∷ reads Q 3 ∷ loads 0x1000 8 ∷ []))
    ∷ row (opcode 101 ∷ specs (RegRRR ∷ RegMMM ∷ []) ∷ regs 0 D 1 ∷ regs 1 D 3 ∷ everyday ∷ []) file (Done 6) (log (writes Q 1 ∷ reads D 3 ∷ []))
    -- ADD writes the flags, ADC reads them too
    ∷ row (two 103 Deref) file (Done 22) (log (writes RFLAGS 0 ∷ reads Q 1 ∷ writes Q 1 ∷ reads Q 3 ∷ loads 0x1000 8 ∷ []))
    ∷ row (two 108 RegMMM) file (Done 15) (log (reads RFLAGS 0 ∷ writes RFLAGS 0 ∷ reads Q 1 ∷ writes Q 1 ∷ reads Q 3 ∷ []))
    -- CMP writes no operand
    ∷ row (two 110 RegMMM) file (Done 9) (log (writes RFLAGS 0 ∷ reads Q 1 ∷ reads Q 3 ∷ []))
    -- INC and NOT: one operand, the flags by INC alone
    ∷ row (opcode 112 ∷ specs (Deref ∷ []) ∷ regs 1 Q 3 ∷ everyday ∷ []) file (Done 29) (log (writes RFLAGS 0 ∷ reads Q 3 ∷ loads 0x1000 8 ∷ reads Q 3 ∷ stores 0x1000 8 ∷ []))
    ∷ row (opcode 115 ∷ specs (RegRRR ∷ []) ∷ regs 0 Q 1 ∷ everyday ∷ []) file (Done 6) (log (reads Q 1 ∷ writes Q 1 ∷ []))
    -- XCHG reads and writes both
    ∷ row (two 116 Deref) file (Done 32) (log (reads Q 1 ∷ writes Q 1 ∷ reads Q 3 ∷ loads 0x1000 8 ∷ reads Q 3 ∷ stores 0x1000 8 ∷ []))
    -- PUSH stores below rsp, POP loads at rsp
    ∷ row (opcode 117 ∷ specs (RegRRR ∷ []) ∷ regs 0 Q 1 ∷ everyday ∷ []) file (Done 22) (log (reads Q 4 ∷ writes Q 4 ∷ reads Q 4 ∷ stores 0x3FF8 8 ∷ reads Q 1 ∷ []))
    ∷ row (opcode 118 ∷ specs (RegRRR ∷ []) ∷ regs 0 Q 1 ∷ everyday ∷ []) file (Done 22) (log (reads Q 4 ∷ writes Q 4 ∷ reads Q 4 ∷ loads 0x4000 8 ∷ writes Q 1 ∷ []))
    -- MUL by the width of its operand; LEA touches no memory
    ∷ row (opcode 1 ∷ specs (RegMMM ∷ []) ∷ regs 1 Q 1 ∷ everyday ∷ []) file (Done 15) (log (reads Q 0 ∷ writes Q 0 ∷ writes Q 2 ∷ writes RFLAGS 0 ∷ reads Q 1 ∷ []))
    ∷ row (two 28 Deref) file (Done 6) (log (writes Q 1 ∷ reads Q 3 ∷ []))
    -- the count is not tested against the opcode
    ∷ row (opcode 100 ∷ everyday ∷ []) file (Done 0) []
    ∷ row (opcode 115 ∷ specs (RegRRR ∷ RegMMM ∷ []) ∷ regs 0 Q 1 ∷ everyday ∷ []) file (Done 6) (log (reads Q 1 ∷ writes Q 1 ∷ []))
    -- a kind that brings a digest keeps it: access 0x01 here, also for an opcode without one
    ∷ row (opcode 103 ∷ specs (RegRRR ∷ []) ∷ regs 0 Q 1 ∷ []) file (Done 3) (log (reads Q 1 ∷ []))
    ∷ row (opcode 103 ∷ specs (RegRRR ∷ []) ∷ regs 0 Q 1 ∷ segment 0 ∷ []) file (Done 3) (log (reads Q 1 ∷ []))
    ∷ row (opcode 119 ∷ specs (RegRRR ∷ []) ∷ regs 0 Q 1 ∷ []) file (Done 3) (log (reads Q 1 ∷ []))
    ∷ row (opcode 119 ∷ specs (RegRRR ∷ []) ∷ regs 0 Q 1 ∷ segment 0 ∷ []) file (Done 3) (log (reads Q 1 ∷ []))
    ∷ []

-- Visiting: 1, 2, 9, 3, 5, 6, 7 in this order
unfoldable pub everyday_refusals : List Row
everyday_refusals =
    -- the length is the kind's; it has no segment
    row (opcode 100 ∷ everyday ∷ long 35 ∷ []) [] (Refused 1) []
    ∷ row (opcode 100 ∷ everyday ∷ long 37 ∷ []) [] (Refused 1) []
    ∷ row (opcode 100 ∷ everyday ∷ long 40 ∷ []) [] (Refused 1) []
    ∷ row (opcode 100 ∷ everyday ∷ long 41 ∷ []) [] (Refused 1) []
    ∷ row (opcode 100 ∷ everyday ∷ put 0 (0x10 ∷ []) ∷ []) [] (Refused 1) []
    ∷ row (opcode 100 ∷ everyday ∷ put 0 (0x13 ∷ []) ∷ []) [] (Refused 1) []
    -- 1 before 9, 2 before 9
    ∷ row (opcode 119 ∷ everyday ∷ long 35 ∷ []) [] (Refused 1) []
    ∷ row (opcode 119 ∷ count 5 ∷ everyday ∷ []) [] (Refused 2) []
    ∷ row (opcode 119 ∷ regs 3 13 0 ∷ everyday ∷ []) [] (Refused 2) []
    ∷ row (opcode 100 ∷ prefixes 16 ∷ everyday ∷ []) [] (Refused 2) []
    -- 9 before 3, 5, 6 and 7
    ∷ row (opcode 119 ∷ everyday ∷ []) (long 0 ∷ []) (Refused 9) []
    ∷ row (opcode 119 ∷ specs (Nothing ∷ []) ∷ everyday ∷ []) [] (Refused 9) []
    ∷ row (opcode 119 ∷ specs (Deref ∷ []) ∷ size 0 ∷ everyday ∷ []) [] (Refused 9) []
    ∷ row_in 0 1 (opcode 119 ∷ everyday ∷ []) [] (Refused 9) []
    -- and then as ever
    ∷ row (opcode 100 ∷ everyday ∷ []) (long 0 ∷ []) (Refused 3) []
    ∷ row (opcode 100 ∷ specs (Nothing ∷ []) ∷ everyday ∷ []) [] (Refused 5) []
    -- memory with size 0: by the list of PUSH and POP too, and LEA's
    ∷ row (opcode 100 ∷ specs (Deref ∷ []) ∷ size 0 ∷ everyday ∷ []) [] (Refused 6) []
    ∷ row (opcode 117 ∷ specs (RegRRR ∷ []) ∷ size 0 ∷ everyday ∷ []) [] (Refused 6) []
    ∷ row (opcode 118 ∷ specs (RegRRR ∷ []) ∷ size 0 ∷ everyday ∷ []) [] (Refused 6) []
    ∷ row (opcode 28 ∷ specs (RegRRR ∷ Deref ∷ []) ∷ size 0 ∷ everyday ∷ []) [] (Refused 6) []
    ∷ row (opcode 100 ∷ specs (RegRRR ∷ []) ∷ size 0 ∷ everyday ∷ []) [] (Done 3) (log (writes Q 0 ∷ []))
    ∷ row_in 2 0 (opcode 100 ∷ specs (RegRRR ∷ []) ∷ everyday ∷ []) [] (Short 3) []
    ∷ []

-- Listing: 1, 2, 9, 7
unfoldable pub everyday_listings : List Row
everyday_listings =
    row (two 108 RegMMM) [] (Done 10) (0x41 ∷ 3 ∷ 0x46 ∷ 0 ∷ 1 ∷ 3 ∷ 0x46 ∷ 1 ∷ 2 ∷ 1 ∷ [])
    ∷ row (opcode 117 ∷ specs (RegRRR ∷ []) ∷ everyday ∷ []) [] (Done 20)
    (0x42 ∷ 0 ∷ 4 ∷ 1 ∷ 0x42 ∷ 0 ∷ 4 ∷ 2 ∷ 0x44 ∷ 0 ∷ 4 ∷ 0xF8 ∷ 0xFF ∷ 0xFF ∷ 0xFF ∷ 2 ∷ 0x46 ∷ 0 ∷ 1 ∷ 1 ∷ [])
    ∷ row (opcode 119 ∷ everyday ∷ long 35 ∷ []) [] (Refused 1) []
    ∷ row (opcode 119 ∷ count 5 ∷ everyday ∷ []) [] (Refused 2) []
    ∷ row_in 0 1 (opcode 119 ∷ everyday ∷ []) [] (Refused 9) []
    ∷ row_in 0 1 (opcode 115 ∷ everyday ∷ []) [] (Short 0) []
    ∷ []

-- Exceptions and privilege: 1, 2, 9
unfoldable pub everyday_exceptions : List (List Patch × Result ExceptionInfo Refusal)
everyday_exceptions =
    (two 100 RegMMM, raises 0)
    ∷ (two 100 Deref, raises 0x4000)
    ∷ ((opcode 117 ∷ specs (RegRRR ∷ []) ∷ everyday ∷ []), raises 0x4000)
    ∷ ((opcode 119 ∷ everyday ∷ long 35 ∷ []), Err refusals.Malformed)
    ∷ ((opcode 119 ∷ count 5 ∷ everyday ∷ []), Err refusals.Outside)
    ∷ ((opcode 119 ∷ everyday ∷ []), Err refusals.Unlisted)
    ∷ []

unfoldable pub everyday_privileges : List (List Patch × Result PrivilegeLevel Refusal)
everyday_privileges =
    ((opcode 118 ∷ everyday ∷ []), Ok Any)
    ∷ ((opcode 119 ∷ everyday ∷ long 35 ∷ []), Err refusals.Malformed)
    ∷ ((opcode 119 ∷ count 5 ∷ everyday ∷ []), Err refusals.Outside)
    ∷ ((opcode 119 ∷ everyday ∷ []), Err refusals.Unlisted)
    ∷ []
