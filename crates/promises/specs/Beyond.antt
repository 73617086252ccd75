-- What P1 to P11 do not see of visiting: a row for each error that looks reasonable, each edge of a rule and each place of the
-- refusals' order.
use Rattle.std.specs.Prelude.{◌+◌, ◌-◌, ◌*◌, List, [], ◌∷◌}
use Rattle.definition.specs.Limits.{most_bytes, most_events}
use Rattle.definition.specs.declared.Answer.TheVariants.{Done, Refused, Complex, Short}
use Rattle.promises.specs.Rows.{put, long, plain_opcode, opcode, count, specs, regs, size, scale, disp, imm, prefixes, mask, behavior, access, list, knows, Q, D, W, B, K, RFLAGS, Nothing, RegRRR, RegMMM, RegVex, Reg4, RegRRR_maskmerge, Deref, Deref_mask, Deref_rdi, Deref_rsi, Deref_edi, Disp, MemIndexScale, MemBaseIndexScale, MemBaseIndexScale_mask, MemBaseIndexScaleDisp, DispU64, DispU32, log, reads, writes, loads, stores, loads_unknown, stores_unknown, Row, row_in, row}
use Rattle.promises.specs.Bench.{P2, P2_file, P2_log, P5, P5_file}
use Rattle.promises.specs.Fullest.{fullest_fields, fullest_known, fullest_log}

-- Only an explicit unmasked write to D is logged as Q
unfoldable pub widening : List Row
widening =
    -- by RegMMM, RegVex and Reg4 as by RegRRR
    row (specs (RegMMM ∷ RegVex ∷ Reg4 ∷ []) ∷ access 0x2A ∷ regs 1 D 5 ∷ regs 3 D 6 ∷ imm 9 ∷ []) [] (Done 9)
    (log (writes Q 5 ∷ writes Q 6 ∷ writes Q 9 ∷ []))
    -- a read of D stays, and so does a write of W
    ∷ row (specs (RegRRR ∷ RegMMM ∷ []) ∷ access 0x0B ∷ regs 0 D 1 ∷ regs 1 W 2 ∷ []) [] (Done 9)
    (log (reads D 1 ∷ writes Q 1 ∷ writes W 2 ∷ []))
    -- a masked write of D stays, with a mask and with mask 0
    ∷ row (specs (RegRRR_maskmerge ∷ []) ∷ access 0x02 ∷ regs 0 D 0 ∷ mask 1 ∷ []) [] (Done 6) (log (reads K 1 ∷ writes D 0 ∷ []))
    ∷ row (specs (RegRRR_maskmerge ∷ []) ∷ access 0x02 ∷ regs 0 D 0 ∷ []) [] (Done 3) (log (writes D 0 ∷ []))
    -- an implicit write of D stays
    ∷ row (specs (Deref_edi ∷ []) ∷ access 0x00 ∷ list 24 ∷ []) [] (Done 6) (log (reads D 7 ∷ writes D 7 ∷ []))
    ∷ []

-- Masks: a register, then its mask, in a read; the mask, then the register, in a write; after the address registers of memory
unfoldable pub masking : List Row
masking =
    row (specs (RegRRR_maskmerge ∷ []) ∷ access 0x03 ∷ regs 0 Q 4 ∷ mask 1 ∷ []) [] (Done 12)
    (log (reads Q 4 ∷ reads K 1 ∷ reads K 1 ∷ writes Q 4 ∷ []))
    ∷ row (specs (MemBaseIndexScale_mask ∷ []) ∷ access 0x03 ∷ regs 1 Q 3 ∷ regs 2 Q 1 ∷ mask 2 ∷ size 4 ∷ []) [] (Done 22)
    (log (reads Q 3 ∷ reads Q 1 ∷ reads K 2 ∷ loads_unknown 4 ∷ reads Q 3 ∷ reads Q 1 ∷ reads K 2 ∷ stores_unknown 4 ∷ []))
    -- mask 0 is never logged
    ∷ row (specs (RegRRR_maskmerge ∷ MemBaseIndexScale_mask ∷ []) ∷ access 0x05 ∷ regs 0 Q 4 ∷ regs 1 Q 3 ∷ regs 2 Q 1 ∷ []) [] (Done 11)
    (log (reads Q 4 ∷ reads Q 3 ∷ reads Q 1 ∷ loads_unknown 8 ∷ []))
    -- nor is a mask where the spec is not masked
    ∷ row (specs (RegRRR ∷ Deref ∷ []) ∷ access 0x0B ∷ regs 0 Q 4 ∷ regs 1 Q 3 ∷ mask 2 ∷ []) [] (Done 11)
    (log (reads Q 4 ∷ writes Q 4 ∷ reads Q 3 ∷ stores_unknown 8 ∷ []))
    ∷ []

-- Under LEA a read part stops before the access, and a write part does not
unfoldable pub leas : List Row
leas =
    row (opcode 28 ∷ specs (Disp ∷ []) ∷ access 0x03 ∷ []) [] (Done 8) (log (reads Q 0 ∷ reads Q 0 ∷ stores_unknown 8 ∷ []))
    ∷ row (opcode 28 ∷ specs (MemBaseIndexScale_mask ∷ []) ∷ regs 1 Q 3 ∷ regs 2 Q 1 ∷ mask 2 ∷ []) [] (Done 9)
    (log (reads Q 3 ∷ reads Q 1 ∷ reads K 2 ∷ []))
    -- a register operand is read as ever
    ∷ row (opcode 28 ∷ specs (RegRRR ∷ []) ∷ regs 0 Q 3 ∷ []) [] (Done 3) (log (reads Q 3 ∷ []))
    -- the opcodes beside it touch memory
    ∷ row (opcode 27 ∷ specs (Deref ∷ []) ∷ []) [] (Done 5) (log (reads Q 0 ∷ loads_unknown 8 ∷ []))
    ∷ row (opcode 29 ∷ specs (Deref ∷ []) ∷ []) [] (Done 5) (log (reads Q 0 ∷ loads_unknown 8 ∷ []))
    ∷ []

-- The order of visiting
unfoldable pub ordering : List Row
ordering =
    -- the implicit list, flags read, flags write, then each operand: its read part, then its write part
    row (list 21 ∷ behavior 0x0C ∷ specs (RegRRR ∷ RegMMM ∷ []) ∷ access 0x0F ∷ regs 0 Q 2 ∷ regs 1 Q 3 ∷ []) [] (Done 24)
    (log (reads Q 1 ∷ writes Q 1 ∷ reads RFLAGS 0 ∷ writes RFLAGS 0 ∷ reads Q 2 ∷ writes Q 2 ∷ reads Q 3 ∷ writes Q 3 ∷ []))
    -- the address of a read and a write is made twice
    ∷ row (specs (Deref ∷ []) ∷ access 0x03 ∷ regs 1 Q 3 ∷ []) (knows 3 0x10 ∷ []) (Done 26)
    (log (reads Q 3 ∷ loads 0x10 8 ∷ reads Q 3 ∷ stores 0x10 8 ∷ []))
    -- list 25: slot 0, then slot 1, each read and written, and no memory even at size 0
    ∷ row (specs (Deref_rsi ∷ Deref_edi ∷ []) ∷ access 0x00 ∷ list 25 ∷ size 0 ∷ []) [] (Done 12)
    (log (reads Q 6 ∷ writes Q 6 ∷ reads D 7 ∷ writes D 7 ∷ []))
    -- slots past count; in Deref the register is regs[1]
    ∷ row (specs (Deref ∷ Deref_rsi ∷ []) ∷ count 0 ∷ list 25 ∷ regs 1 Q 9 ∷ []) [] (Done 12)
    (log (reads Q 9 ∷ writes Q 9 ∷ reads Q 6 ∷ writes Q 6 ∷ []))
    -- fix-ups happen only where bit 4 is set: MUL without it
    ∷ row (opcode 1 ∷ behavior 0x08 ∷ specs (RegMMM ∷ []) ∷ regs 1 D 3 ∷ []) [] (Done 6) (log (writes RFLAGS 0 ∷ reads D 3 ∷ []))
    -- bits 6 and 7 of the behavior decide nothing
    ∷ row (behavior 0xC4 ∷ specs (RegRRR ∷ []) ∷ []) [] (Done 6) (log (reads RFLAGS 0 ∷ reads Q 0 ∷ []))
    -- immediates log nothing, read or written
    ∷ row (specs (11 ∷ 17 ∷ []) ∷ access 0x0F ∷ []) [] (Done 0) []
    ∷ []

-- Addresses
unfoldable pub addressing : List Row
addressing =
    -- ah is bits 8 to 15 of rax, ch of rcx; al is its low byte
    row (specs (Deref ∷ []) ∷ regs 1 B 4 ∷ []) (knows 0 0x1234 ∷ []) (Done 13) (log (reads B 4 ∷ loads 0x12 8 ∷ []))
    ∷ row (specs (Deref ∷ []) ∷ regs 1 B 5 ∷ []) (knows 1 0x1234 ∷ []) (Done 13) (log (reads B 5 ∷ loads 0x12 8 ∷ []))
    ∷ row (specs (Deref ∷ []) ∷ regs 1 B 0 ∷ []) (knows 0 0x1234 ∷ []) (Done 13) (log (reads B 0 ∷ loads 0x34 8 ∷ []))
    -- scale 0: the index is logged, and makes the address unknown where it is
    ∷ row (specs (MemIndexScale ∷ []) ∷ regs 2 Q 1 ∷ scale 0 ∷ []) [] (Done 5) (log (reads Q 1 ∷ loads_unknown 8 ∷ []))
    ∷ row (specs (MemIndexScale ∷ []) ∷ regs 2 Q 1 ∷ scale 0 ∷ []) (knows 1 7 ∷ []) (Done 13) (log (reads Q 1 ∷ loads 0 8 ∷ []))
    -- one unknown register is enough, base or index
    ∷ row (specs (MemBaseIndexScale ∷ []) ∷ regs 1 Q 3 ∷ regs 2 Q 1 ∷ scale 1 ∷ []) (knows 3 7 ∷ []) (Done 8)
    (log (reads Q 3 ∷ reads Q 1 ∷ loads_unknown 8 ∷ []))
    ∷ row (specs (MemBaseIndexScale ∷ []) ∷ regs 1 Q 3 ∷ regs 2 Q 1 ∷ scale 1 ∷ []) (knows 1 7 ∷ []) (Done 8)
    (log (reads Q 3 ∷ reads Q 1 ∷ loads_unknown 8 ∷ []))
    -- base, index times any byte, displacement, modulo two to the 64
    ∷ row (specs (MemBaseIndexScaleDisp ∷ []) ∷ regs 1 Q 3 ∷ regs 2 Q 1 ∷ scale 3 ∷ disp 0xFFFFFFFF ∷ []) (knows 3 0xFFFFFFFFFFFFFFFF ∷ knows 1 2 ∷ []) (Done 16)
    (log (reads Q 3 ∷ reads Q 1 ∷ loads 4 8 ∷ []))
    ∷ row (specs (MemBaseIndexScale ∷ []) ∷ regs 1 Q 3 ∷ regs 2 Q 1 ∷ scale 255 ∷ []) (knows 3 0x10 ∷ knows 1 0x0202020202020202 ∷ []) (Done 16)
    (log (reads Q 3 ∷ reads Q 1 ∷ loads 0x0E 8 ∷ []))
    -- a displacement is its low 32 bits, sign-extended; in DispU32 zero-extended, in DispU64 the whole
    ∷ row (specs (Disp ∷ []) ∷ regs 1 Q 3 ∷ disp 0x117FFFFFFF ∷ []) (knows 3 0 ∷ []) (Done 13) (log (reads Q 3 ∷ loads 0x7FFFFFFF 8 ∷ []))
    ∷ row (specs (Disp ∷ []) ∷ regs 1 Q 3 ∷ disp 0x1180000000 ∷ []) (knows 3 0 ∷ []) (Done 13) (log (reads Q 3 ∷ loads 0xFFFFFFFF80000000 8 ∷ []))
    ∷ row (specs (DispU32 ∷ []) ∷ disp 0x1180000000 ∷ []) [] (Done 10) (log (loads 0x80000000 8 ∷ []))
    ∷ row (specs (DispU64 ∷ []) ∷ disp 0x8877665544332211 ∷ []) [] (Done 10) (log (loads 0x8877665544332211 8 ∷ []))
    ∷ []

-- The address size: the sum of an explicit operand is cut to 32 bits, and that of a list is not
unfoldable pub cutting : List Row
cutting =
    -- the registers that specs name, and the two displacements that stand alone
    row (prefixes 0x08 ∷ specs (Deref_rdi ∷ []) ∷ []) (knows 7 0x1FEDCBA98 ∷ []) (Done 13) (log (reads Q 7 ∷ loads 0xFEDCBA98 8 ∷ []))
    ∷ row (prefixes 0x08 ∷ specs (Deref_edi ∷ []) ∷ []) (knows 7 0x1FEDCBA98 ∷ []) (Done 13) (log (reads D 7 ∷ loads 0xFEDCBA98 8 ∷ []))
    ∷ row (prefixes 0x08 ∷ specs (DispU64 ∷ []) ∷ disp 0x8877665584332211 ∷ []) [] (Done 10) (log (loads 0x84332211 8 ∷ []))
    ∷ row (prefixes 0x08 ∷ specs (DispU32 ∷ []) ∷ disp 0x1180000000 ∷ []) [] (Done 10) (log (loads 0x80000000 8 ∷ []))
    -- after the index and after the displacement, read and written
    ∷ row (prefixes 0x08 ∷ specs (MemBaseIndexScaleDisp ∷ []) ∷ access 0x03 ∷ regs 1 Q 3 ∷ regs 2 Q 1 ∷ scale 2 ∷ disp 1 ∷ []) (knows 3 0xFFFFFFFE ∷ knows 1 1 ∷ []) (Done 32)
    (log (reads Q 3 ∷ reads Q 1 ∷ loads 1 8 ∷ reads Q 3 ∷ reads Q 1 ∷ stores 1 8 ∷ []))
    -- with a mask
    ∷ row (prefixes 0x08 ∷ specs (Deref_mask ∷ []) ∷ access 0x02 ∷ regs 1 Q 3 ∷ mask 1 ∷ []) (knows 3 0x1FEDCBA98 ∷ []) (Done 16)
    (log (reads Q 3 ∷ reads K 1 ∷ stores 0xFEDCBA98 8 ∷ []))
    -- the write part under LEA
    ∷ row (prefixes 0x08 ∷ opcode 28 ∷ access 0x03 ∷ P5) P5_file (Done 16) (log (reads Q 0 ∷ reads Q 0 ∷ stores 0xFFFFFFFC 8 ∷ []))
    -- unknown stays unknown
    ∷ row (prefixes 0x08 ∷ P5) [] (Done 5) (log (reads Q 0 ∷ loads_unknown 8 ∷ []))
    -- no other bit cuts
    ∷ row (prefixes 0x07 ∷ P5) P5_file (Done 13) (log (reads Q 0 ∷ loads 0xFFFFFFFFFFFFFFFC 8 ∷ []))
    -- lists 15, 16, 26, 27, 28
    ∷ row (prefixes 0x08 ∷ list 15 ∷ []) (knows 7 0x1FEDCBA98 ∷ []) (Done 13) (log (reads D 7 ∷ stores 0xFEDCBA98 8 ∷ []))
    ∷ row (prefixes 0x08 ∷ list 16 ∷ []) (knows 7 0x1FEDCBA98 ∷ []) (Done 13) (log (reads Q 7 ∷ stores 0x1FEDCBA98 8 ∷ []))
    ∷ row (prefixes 0x08 ∷ list 26 ∷ []) (knows 4 0 ∷ []) (Done 19) (log (reads Q 4 ∷ writes Q 4 ∷ reads Q 4 ∷ stores 0xFFFFFFFFFFFFFFF8 8 ∷ []))
    ∷ row (prefixes 0x08 ∷ list 27 ∷ []) (knows 4 0x1FEDCBA98 ∷ []) (Done 19) (log (reads Q 4 ∷ writes Q 4 ∷ reads Q 4 ∷ loads 0x1FEDCBA98 8 ∷ []))
    ∷ row (prefixes 0x08 ∷ list 28 ∷ []) (knows 3 0x1FEDCBA00 ∷ knows 0 0x98 ∷ []) (Done 16) (log (reads Q 3 ∷ reads B 0 ∷ loads 0x1FEDCBA98 8 ∷ []))
    ∷ []

-- Refusals 1, 2 and 3
unfoldable pub malformed : List Row
malformed =
    row (long 39 ∷ []) [] (Refused 1) []
    ∷ row (long 41 ∷ []) [] (Refused 1) []
    ∷ row (put 0 (0x20 ∷ []) ∷ []) [] (Refused 1) []
    -- 1 before 2
    ∷ row (put 0 (0x20 ∷ []) ∷ count 5 ∷ []) [] (Refused 1) []
    -- one past each end, in operands past count too
    ∷ row (count 5 ∷ []) [] (Refused 2) []
    ∷ row (put 7 (36 ∷ []) ∷ []) [] (Refused 2) []
    ∷ row (regs 3 13 0 ∷ []) [] (Refused 2) []
    ∷ row (regs 0 Q 16 ∷ []) [] (Refused 2) []
    ∷ row (size 65 ∷ []) [] (Refused 2) []
    ∷ row (prefixes 16 ∷ []) [] (Refused 2) []
    ∷ row (mask 8 ∷ []) [] (Refused 2) []
    ∷ row (list 29 ∷ []) [] (Refused 2) []
    -- on the base digest, even where a fix-up would replace the list
    ∷ row (opcode 15 ∷ behavior 0x10 ∷ list 29 ∷ []) [] (Refused 2) []
    ∷ row (put 39 (1 ∷ []) ∷ []) [] (Refused 2) []
    -- all at their ends
    ∷ row (specs (35 ∷ 35 ∷ 35 ∷ 35 ∷ []) ∷ access 0x00 ∷ size 64 ∷ prefixes 15 ∷ mask 7 ∷ list 28 ∷ regs 0 Q 15 ∷ regs 3 12 31 ∷ []) [] (Done 8)
    (log (reads Q 3 ∷ reads B 0 ∷ loads_unknown 64 ∷ []))
    -- a file's length, kind and known bits; rip, bit 16, is the last
    ∷ row [] (long 140 ∷ []) (Refused 3) []
    ∷ row [] (long 142 ∷ []) (Refused 3) []
    ∷ row [] (put 0 (0x10 ∷ []) ∷ []) (Refused 3) []
    ∷ row [] (put 3 (2 ∷ []) ∷ []) (Refused 3) []
    ∷ row [] (put 3 (1 ∷ []) ∷ []) (Done 0) []
    -- 2 before 3, 3 before 4
    ∷ row (count 5 ∷ []) (put 0 (0x10 ∷ []) ∷ []) (Refused 2) []
    ∷ row (behavior 0x20 ∷ []) (put 0 (0x10 ∷ []) ∷ []) (Refused 3) []
    ∷ []

-- Refusals 4 to 7
unfoldable pub refusing : List Row
refusing =
    -- complex, with its opcode; BT, BTS, BTR, BTC only where spec 0 is not RegMMM
    row (opcode 0x1234 ∷ behavior 0x20 ∷ []) [] (Complex 0x1234) []
    ∷ row (opcode 27 ∷ behavior 0x20 ∷ specs (RegMMM ∷ []) ∷ []) [] (Done 3) (log (reads Q 0 ∷ []))
    ∷ row (opcode 25 ∷ behavior 0x20 ∷ specs (RegRRR ∷ RegMMM ∷ []) ∷ []) [] (Complex 25) []
    ∷ row (opcode 23 ∷ behavior 0x20 ∷ specs (RegMMM ∷ []) ∷ []) [] (Complex 23) []
    ∷ row (opcode 28 ∷ behavior 0x20 ∷ specs (RegMMM ∷ []) ∷ []) [] (Complex 28) []
    -- 4 before 5
    ∷ row (behavior 0x20 ∷ specs (Nothing ∷ []) ∷ []) [] (Complex plain_opcode) []
    -- Nothing: with an access below count
    ∷ row (specs (Nothing ∷ []) ∷ []) [] (Refused 5) []
    ∷ row (specs (Nothing ∷ []) ∷ access 0x02 ∷ []) [] (Refused 5) []
    ∷ row (specs (Nothing ∷ RegRRR ∷ []) ∷ access 0x04 ∷ []) [] (Done 3) (log (reads Q 0 ∷ []))
    ∷ row (access 0xFF ∷ []) [] (Done 0) []
    -- Reg4: the low byte of imm in the bank of regs[3]
    ∷ row (specs (Reg4 ∷ []) ∷ imm 0x10F ∷ []) [] (Done 3) (log (reads Q 15 ∷ []))
    ∷ row (specs (Reg4 ∷ []) ∷ imm 0x10 ∷ []) [] (Refused 5) []
    ∷ row (specs (Reg4 ∷ []) ∷ imm 8 ∷ regs 3 B 0 ∷ []) [] (Refused 5) []
    ∷ row (specs (Reg4 ∷ []) ∷ imm 0x10 ∷ access 0x00 ∷ []) [] (Done 0) []
    -- a string slot holds spec 18, 20, 21, 22 or 23: slot 0 for list 24, slot 1 too for 25, past count too
    ∷ row (list 24 ∷ specs (RegRRR ∷ []) ∷ count 0 ∷ []) [] (Refused 5) []
    ∷ row (list 24 ∷ specs (Deref_mask ∷ []) ∷ access 0x00 ∷ []) [] (Refused 5) []
    ∷ row (list 24 ∷ specs (Disp ∷ []) ∷ access 0x00 ∷ []) [] (Refused 5) []
    ∷ row (list 25 ∷ specs (Deref ∷ []) ∷ access 0x00 ∷ []) [] (Refused 5) []
    ∷ row (list 25 ∷ specs (Nothing ∷ Deref ∷ []) ∷ count 0 ∷ []) [] (Refused 5) []
    -- 5 before 6
    ∷ row (specs (Nothing ∷ Deref ∷ []) ∷ access 0x05 ∷ size 0 ∷ []) [] (Refused 5) []
    -- size 0: memory read or written, not memory with access none or past count
    ∷ row (specs (Deref ∷ []) ∷ access 0x02 ∷ size 0 ∷ []) [] (Refused 6) []
    ∷ row (specs (RegRRR ∷ Deref ∷ []) ∷ access 0x01 ∷ size 0 ∷ []) [] (Done 3) (log (reads Q 0 ∷ []))
    ∷ row (specs (RegRRR ∷ Deref ∷ []) ∷ count 1 ∷ access 0x05 ∷ size 0 ∷ []) [] (Done 3) (log (reads Q 0 ∷ []))
    -- 6 before 7
    ∷ row_in 0 1 (specs (Deref ∷ []) ∷ size 0 ∷ []) [] (Refused 6) []
    -- room exact and one short, from a start inside
    ∷ row_in 35 3 P2 P2_file (Done 32) P2_log
    ∷ row_in 34 3 P2 P2_file (Short 32) []
    -- what is needed is the log's own length: from no room, from a start past the end, and after fix-ups
    ∷ row_in 0 0 P2 P2_file (Short 32) []
    ∷ row_in 5 6 P2 P2_file (Short 32) []
    ∷ row_in 14 0 (opcode 1 ∷ behavior 0x18 ∷ specs (RegMMM ∷ []) ∷ regs 1 D 3 ∷ []) [] (Short 15) []
    -- an empty log at the buffer's end, and past it
    ∷ row_in 5 5 [] [] (Done 0) []
    ∷ row_in 5 6 [] [] (Short 0) []
    ∷ row_in 0 0 [] [] (Done 0) []
    -- the fullest log fits in the most bytes that a log has, and not in one less; an event has 3 bytes, and 9 of these, of memory, 7 more
    ∷ row_in most_bytes 0 fullest_fields fullest_known (Done (3 * most_events + 7 * 9)) fullest_log
    ∷ row_in (most_bytes - 1) 0 fullest_fields fullest_known (Short (3 * most_events + 7 * 9)) []
    ∷ []
