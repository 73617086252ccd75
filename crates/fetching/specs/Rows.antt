-- Tables: the registers to fetch for a record, and what the judge says of sets and lists.
use Rattle.std.specs.Prelude.{ℕ, ◌^◌, ◌≡◌, List, [], ◌∷◌, ◌++◌, true, replicate, Result, Ok, Err}
use Rattle.laws.specs.declared.refusals.Refusal.{Refusal}
use Rattle.laws.specs.declared.refusals.Refusal.TheVariants.{Malformed, Outside}
use Rattle.registers.specs.Banks.{reg}
use Rattle.registers.specs.Files.{file_of}
use Rattle.definition.specs.Visits.{log_of}
use Rattle.definition.specs.declared.Event.TheVariants.{RegisterRead, MemoryRead, UnknownRead}
use Rattle.promises.specs.Rows.{Patch, put, long, segment, everyday, record_with, opcode, count, specs, regs, size, scale, mask, prefixes, behavior, access, list, file_knowing, knows, Q, D, B, X, K, RIP, EIP, RegRRR, RegMMM, Reg4, Deref, Deref_mask, Deref_rdi, Deref_rsi, Deref_edi, Deref_esi, Disp, MemIndexScale, MemBaseIndexScale, DispU64, DispU32, Table}
use Rattle.fetching.specs.Needs.{refusal_alone}
use Rattle.fetching.specs.Judging.{accepts, proposed, restricted, judge_call, propose_call}
use Rattle.fetching.specs.declared.Judgement.{Judgement}
use Rattle.fetching.specs.declared.Judgement.TheVariants as judged

-- the registers to fetch for one record
abbrev pub fetched : List Patch → ℕ
fetched cs = proposed (record_with cs ∷ [])

unfoldable pub fetches : List (List Patch × ℕ)
fetches =
    -- LEA's read enters nothing; its write, which a digest may say, does
    (opcode 28 ∷ specs (RegRRR ∷ Disp ∷ []) ∷ access 0x06 ∷ regs 1 Q 3 ∷ [], 0)
    ∷ (opcode 28 ∷ specs (RegRRR ∷ Disp ∷ []) ∷ access 0x0A ∷ regs 1 Q 3 ∷ [], 0x8)
    -- an index with scale 0 enters its address
    ∷ (specs (MemBaseIndexScale ∷ []) ∷ regs 1 Q 3 ∷ regs 2 Q 6 ∷ scale 0 ∷ [], 0x48)
    -- a base beside a vector index, and a vector index alone
    ∷ (specs (MemBaseIndexScale ∷ []) ∷ regs 1 Q 3 ∷ regs 2 X 6 ∷ scale 1 ∷ [], 0x8)
    ∷ (specs (MemIndexScale ∷ []) ∷ regs 2 X 6 ∷ scale 1 ∷ [], 0)
    -- ah is rax, bh is rbx, and r12d is r12
    ∷ (specs (MemIndexScale ∷ []) ∷ regs 2 B 4 ∷ scale 1 ∷ [], 0x1)
    ∷ (specs (MemIndexScale ∷ []) ∷ regs 2 B 7 ∷ scale 1 ∷ [], 0x8)
    ∷ (specs (Deref ∷ []) ∷ regs 1 D 12 ∷ [], 0x1000)
    -- rip, and eip
    ∷ (specs (Disp ∷ []) ∷ regs 1 RIP 0 ∷ [], 0x10000)
    ∷ (specs (Disp ∷ []) ∷ regs 1 EIP 0 ∷ [], 0x10000)
    -- what the spec names itself
    ∷ (specs (Deref_rdi ∷ []) ∷ [], 0x80)
    ∷ (specs (Deref_edi ∷ Deref_rsi ∷ []) ∷ access 0x0A ∷ [], 0xC0)
    -- a displacement alone
    ∷ (specs (DispU64 ∷ DispU32 ∷ []) ∷ access 0x0A ∷ [], 0)
    -- a mask enters no address, and K as a base is in no file
    ∷ (specs (Deref_mask ∷ []) ∷ regs 1 Q 3 ∷ mask 5 ∷ [], 0x8)
    ∷ (specs (Deref ∷ []) ∷ regs 1 K 3 ∷ [], 0)
    -- an operand that is not accessed, one past the count, and a register operand
    ∷ (specs (Deref ∷ []) ∷ regs 1 Q 3 ∷ access 0 ∷ [], 0)
    ∷ (specs (Deref ∷ []) ∷ regs 1 Q 3 ∷ count 0 ∷ [], 0)
    ∷ (specs (RegMMM ∷ []) ∷ regs 1 Q 3 ∷ [], 0)
    -- the implicit lists that touch memory: VMASKMOVDQU by edi and rdi, push, pop, XLAT
    ∷ (list 15 ∷ [], 0x80)
    ∷ (list 16 ∷ [], 0x80)
    ∷ (list 26 ∷ [], 0x10)
    ∷ (list 27 ∷ [], 0x10)
    ∷ (list 28 ∷ size 1 ∷ [], 0x9)
    -- after fix-ups: VMASKMOVDQU gets its list, NOP loses its access
    ∷ (opcode 16 ∷ behavior 0x10 ∷ [], 0x80)
    ∷ (opcode 5 ∷ behavior 0x10 ∷ specs (Deref ∷ []) ∷ regs 1 Q 3 ∷ [], 0)
    -- string slots log no memory
    ∷ (list 24 ∷ put 4 (20 ∷ []) ∷ [], 0)
    ∷ (list 25 ∷ put 4 (20 ∷ 21 ∷ []) ∷ [], 0)
    -- the base of a segment beside the address's registers, and alone; segment 0 is none
    ∷ (specs (Deref ∷ []) ∷ regs 1 Q 3 ∷ segment 1 ∷ [], 0x20008)
    ∷ (specs (Deref ∷ []) ∷ regs 1 Q 3 ∷ access 0x02 ∷ segment 2 ∷ [], 0x40008)
    ∷ (specs (DispU64 ∷ []) ∷ segment 1 ∷ [], 0x20000)
    ∷ (specs (Deref ∷ []) ∷ regs 1 Q 3 ∷ segment 0 ∷ [], 0x8)
    -- specs 20 and 22 add no base, 21 and 23 do
    ∷ (specs (Deref_rdi ∷ []) ∷ segment 2 ∷ [], 0x80)
    ∷ (specs (Deref_edi ∷ []) ∷ access 0x03 ∷ segment 1 ∷ [], 0x80)
    ∷ (specs (Deref_rsi ∷ []) ∷ segment 2 ∷ [], 0x40040)
    ∷ (specs (Deref_esi ∷ []) ∷ segment 1 ∷ [], 0x20040)
    -- nor do LEA's read, a register operand, an operand that is not accessed, and the implicit lists; LEA's write does
    ∷ (opcode 28 ∷ specs (RegRRR ∷ Disp ∷ []) ∷ access 0x06 ∷ regs 1 Q 3 ∷ segment 1 ∷ [], 0)
    ∷ (opcode 28 ∷ specs (RegRRR ∷ Disp ∷ []) ∷ access 0x0A ∷ regs 1 Q 3 ∷ segment 1 ∷ [], 0x20008)
    ∷ (specs (RegMMM ∷ []) ∷ regs 1 Q 3 ∷ segment 1 ∷ [], 0)
    ∷ (specs (Deref ∷ []) ∷ regs 1 Q 3 ∷ access 0 ∷ segment 1 ∷ [], 0)
    ∷ (list 26 ∷ segment 2 ∷ [], 0x10)
    ∷ (list 28 ∷ size 1 ∷ segment 1 ∷ [], 0x9)
    -- a base beside a vector index counts too
    ∷ (specs (MemIndexScale ∷ []) ∷ regs 2 X 6 ∷ scale 1 ∷ segment 2 ∷ [], 0x40000)
    -- a record without a digest: what its opcode's says, and refused 9 where it has none
    ∷ (opcode 100 ∷ specs (RegRRR ∷ Deref ∷ []) ∷ regs 1 Q 3 ∷ everyday ∷ [], 0x8)
    ∷ (opcode 117 ∷ specs (Deref ∷ []) ∷ regs 1 Q 3 ∷ everyday ∷ [], 0x18)
    ∷ (opcode 119 ∷ specs (Deref ∷ []) ∷ regs 1 Q 3 ∷ everyday ∷ [], 0)
    -- refused 1, 2, 4, 5 and 6
    ∷ (specs (Deref ∷ []) ∷ regs 1 Q 3 ∷ put 0 (0x20 ∷ []) ∷ [], 0)
    ∷ (specs (Deref ∷ []) ∷ regs 1 Q 3 ∷ prefixes 16 ∷ [], 0)
    ∷ (specs (Deref ∷ []) ∷ regs 1 Q 3 ∷ segment 3 ∷ [], 0)
    ∷ (opcode 24 ∷ behavior 0x20 ∷ specs (Deref ∷ []) ∷ regs 1 Q 3 ∷ [], 0)
    ∷ (specs (Deref ∷ Reg4 ∷ []) ∷ access 0x05 ∷ regs 1 Q 3 ∷ regs 3 RIP 0 ∷ put 26 (1 ∷ []) ∷ [], 0)
    ∷ (specs (Deref ∷ []) ∷ regs 1 Q 3 ∷ size 0 ∷ [], 0)
    ∷ []

-- Lists of records
abbrev pub at_rbx : List ℕ
at_rbx = record_with (specs (Deref ∷ []) ∷ regs 1 Q 3 ∷ [])

abbrev pub at_rax_rsi : List ℕ
at_rax_rsi = record_with (specs (MemBaseIndexScale ∷ []) ∷ regs 1 Q 0 ∷ regs 2 Q 6 ∷ [])

-- a complex instruction with memory at rbx: refused 4
abbrev pub complex_one : List ℕ
complex_one = record_with (opcode 24 ∷ behavior 0x20 ∷ specs (Disp ∷ []) ∷ regs 1 Q 3 ∷ [])

-- fs:[rbx] and gs:[rdi], by a kind that names a segment
abbrev pub at_fs_rbx : List ℕ
at_fs_rbx = record_with (specs (Deref ∷ []) ∷ regs 1 Q 3 ∷ segment 1 ∷ [])

abbrev pub at_gs_rdi : List ℕ
at_gs_rdi = record_with (specs (Deref ∷ []) ∷ regs 1 Q 7 ∷ segment 2 ∷ [])

-- MOV from rbx, and an opcode that has no digest, refused 9, by the kind that brings none
abbrev pub short_at_rbx : List ℕ
short_at_rbx = record_with (opcode 100 ∷ specs (RegRRR ∷ Deref ∷ []) ∷ regs 1 Q 3 ∷ everyday ∷ [])

abbrev pub unlisted_one : List ℕ
unlisted_one = record_with (opcode 119 ∷ specs (Deref ∷ []) ∷ regs 1 Q 6 ∷ everyday ∷ [])

-- bytes, how long each record is, a set
pub record Asked : Type 0 where
  pub bytes : List ℕ
  pub long : ℕ
  pub set : ℕ

abbrev pub asked : List ℕ → ℕ → ℕ → Asked
asked b n v = record { bytes = b; long = n; set = v }

abbrev pub answered : Asked → Result Judgement Refusal × Result ℕ Refusal
answered a = (judge_call a.bytes a.long a.set, propose_call a.bytes a.long)

unfoldable pub judgements : List (Asked × (Result Judgement Refusal × Result ℕ Refusal))
judgements =
    -- no record at all: every set without a bit above the last
    (asked [] 40 0, (Ok judged.Accepted, Ok 0))
    ∷ (asked [] 40 (2 ^ 19), (Ok judged.NoSuchBit, Ok 0))
    -- the set itself, more, and less
    ∷ (asked at_rbx 40 0x8, (Ok judged.Accepted, Ok 0x8))
    ∷ (asked at_rbx 40 0x7FFFF, (Ok judged.Accepted, Ok 0x8))
    ∷ (asked at_rbx 40 0x7FFF7, (Ok (judged.Lacking 0 3), Ok 0x8))
    -- a bit above the last stands for no register, whatever else is in the set
    ∷ (asked at_rbx 40 0x80008, (Ok judged.NoSuchBit, Ok 0x8))
    -- the first record that lacks one, and its lowest; records that are refused keep their numbers
    ∷ (asked (at_rbx ++ at_rax_rsi ++ at_rbx) 40 0x8, (Ok (judged.Lacking 1 0), Ok 0x49))
    ∷ (asked (at_rbx ++ at_rax_rsi ++ at_rbx) 40 0x9, (Ok (judged.Lacking 1 6), Ok 0x49))
    ∷ (asked (complex_one ++ at_rax_rsi) 40 0, (Ok (judged.Lacking 1 0), Ok 0x41))
    ∷ (asked (complex_one ++ complex_one) 40 0, (Ok judged.Accepted, Ok 0))
    -- records that name a segment lack its base, in the order of the bits
    ∷ (asked (at_fs_rbx ++ at_gs_rdi) 41 0x60088, (Ok judged.Accepted, Ok 0x60088))
    ∷ (asked (at_fs_rbx ++ at_gs_rdi) 41 0x40088, (Ok (judged.Lacking 0 17), Ok 0x60088))
    ∷ (asked (at_fs_rbx ++ at_gs_rdi) 41 0x20008, (Ok (judged.Lacking 1 7), Ok 0x60088))
    ∷ (asked (at_fs_rbx ++ at_gs_rdi) 41 0x20088, (Ok (judged.Lacking 1 18), Ok 0x60088))
    -- records without a digest; one that is refused 9 needs nothing
    ∷ (asked (unlisted_one ++ short_at_rbx) 36 0x8, (Ok judged.Accepted, Ok 0x8))
    ∷ (asked (unlisted_one ++ short_at_rbx) 36 0x40, (Ok (judged.Lacking 1 3), Ok 0x8))
    ∷ (asked (unlisted_one ++ unlisted_one) 36 0, (Ok judged.Accepted, Ok 0))
    -- a record of another kind's length is refused, and needs nothing
    ∷ (asked (long 41 at_rbx) 41 0, (Ok judged.Accepted, Ok 0))
    -- refused 1: no record's length, of no bytes too; no multiple of it. It comes before a bit above the last
    ∷ (asked [] 39 0, (Err Malformed, Err Malformed))
    ∷ (asked [] 0 0, (Err Malformed, Err Malformed))
    ∷ (asked (long 41 at_rbx) 40 0x8, (Err Malformed, Err Malformed))
    ∷ (asked (long 39 at_rbx) 40 0x80008, (Err Malformed, Err Malformed))
    ∷ []

-- refused 2: a record more than the most
unfoldable pub too_many : List (Asked × (Result Judgement Refusal × Result ℕ Refusal))
too_many =
    (asked (replicate 40040 0) 40 0x80000, (Err Outside, Err Outside))
    ∷ (asked (replicate 40041 0) 40 0, (Err Malformed, Err Malformed))
    ∷ []

-- Of a refused record the events as defined may differ under a restricted file. What is alike is the visit, which writes none of them.
abbrev pub RefusedLogsDiffer : Type 0
RefusedLogsDiffer =
    (accepts 0 (complex_one ∷ []) ≡ true)
    × (refusal_alone complex_one ≡ 4)
    × (log_of complex_one (file_of (file_knowing (knows 3 0x1000 ∷ []))) ≡ RegisterRead (reg 0 3) ∷ MemoryRead 0x1000 8 ∷ [])
    × (log_of complex_one (restricted 0 (file_of (file_knowing (knows 3 0x1000 ∷ [])))) ≡ RegisterRead (reg 0 3) ∷ UnknownRead 8 ∷ [])

abbrev pub RowsHold : Type 0
RowsHold = Table fetched fetches × Table answered judgements × Table answered too_many × RefusedLogsDiffer
