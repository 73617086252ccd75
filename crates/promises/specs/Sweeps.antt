-- Every list, spec, opcode and bank once, so that no entry of a table stands unseen.
use Rattle.std.specs.Prelude.{ℕ, suc, List, [], ◌∷◌, map, length, Some, None}
use Rattle.access.specs.Exceptions.{info_vectors}
use Rattle.digest.specs.Digests.{digest_in}
use Rattle.registers.specs.Banks as banks
use Rattle.registers.specs.Files.{file_of, value_of}
use Rattle.registers.specs.Values.{Value}
use Rattle.record.specs.Records.{record_refusal}
use Rattle.definition.specs.Visits.{number_of, visit_of}
use Rattle.definition.specs.declared.Answer.TheVariants.{Done}
use Rattle.promises.specs.Rows.{Patch, record_with, put, opcode, specs, regs, size, scale, disp, imm, mask, access, list, file_knowing, knows, Q, D, W, r_b, B, X, K, RIP, EIP, RFLAGS, RegMMM, Deref_rsi, Deref_edi, log, reads, writes, loads, loads_unknown, stores_unknown, Row, row, buffer}
use Rattle.promises.specs.Answers.{digest_for, exceptions_for}

-- The implicit lists, with Deref_rsi in slot 0 and Deref_edi in slot 1, and nothing known: what each logs
abbrev list_row : ℕ × List (List ℕ) → Row
list_row e = row (put 4 (Deref_rsi ∷ Deref_edi ∷ []) ∷ list e.0 ∷ []) [] (Done (length (log e.1))) (log e.1)

unfoldable pub every_list : List Row
every_list =
    map list_row
    ((0, [])
    -- MUL
    ∷ (1, reads B 0 ∷ writes W 0 ∷ [])
    ∷ (2, reads W 0 ∷ writes W 0 ∷ writes W 2 ∷ [])
    ∷ (3, reads D 0 ∷ writes Q 0 ∷ writes Q 2 ∷ [])
    ∷ (4, reads Q 0 ∷ writes Q 0 ∷ writes Q 2 ∷ [])
    -- DIV
    ∷ (5, reads W 0 ∷ writes W 0 ∷ [])
    ∷ (6, reads W 0 ∷ reads W 2 ∷ writes W 0 ∷ writes W 2 ∷ [])
    ∷ (7, reads D 0 ∷ reads D 2 ∷ writes Q 0 ∷ writes Q 2 ∷ [])
    ∷ (8, reads Q 0 ∷ reads Q 2 ∷ writes Q 0 ∷ writes Q 2 ∷ [])
    -- CMPXCHG
    ∷ (9, reads B 0 ∷ writes B 0 ∷ [])
    ∷ (10, reads W 0 ∷ writes W 0 ∷ [])
    ∷ (11, reads D 0 ∷ writes Q 0 ∷ [])
    ∷ (12, reads Q 0 ∷ writes Q 0 ∷ [])
    -- MULX
    ∷ (13, reads D 2 ∷ [])
    ∷ (14, reads Q 2 ∷ [])
    -- VMASKMOVDQU
    ∷ (15, reads D 7 ∷ stores_unknown 8 ∷ [])
    ∷ (16, reads Q 7 ∷ stores_unknown 8 ∷ [])
    -- PCMPESTRI, PCMPESTRM
    ∷ (17, reads D 0 ∷ reads D 2 ∷ writes Q 1 ∷ [])
    ∷ (18, reads Q 0 ∷ reads Q 2 ∷ writes Q 1 ∷ [])
    ∷ (19, reads D 0 ∷ reads D 2 ∷ writes X 0 ∷ [])
    ∷ (20, reads Q 0 ∷ reads Q 2 ∷ writes X 0 ∷ [])
    -- LOOP
    ∷ (21, reads Q 1 ∷ writes Q 1 ∷ [])
    ∷ (22, reads W 1 ∷ writes W 1 ∷ [])
    ∷ (23, reads D 1 ∷ writes Q 1 ∷ [])
    -- string
    ∷ (24, reads Q 6 ∷ writes Q 6 ∷ [])
    ∷ (25, reads Q 6 ∷ writes Q 6 ∷ reads D 7 ∷ writes D 7 ∷ [])
    -- push, pop, XLAT
    ∷ (26, reads Q 4 ∷ writes Q 4 ∷ reads Q 4 ∷ stores_unknown 8 ∷ [])
    ∷ (27, reads Q 4 ∷ writes Q 4 ∷ reads Q 4 ∷ loads_unknown 8 ∷ [])
    ∷ (28, reads Q 3 ∷ reads B 0 ∷ loads_unknown 8 ∷ [])
    ∷ [])

-- The specs, each as the only operand, read: regs D 1, Q 2, Q 5, D 6; mask 3; scale 4; displacement -16
abbrev spec_fields : ℕ → List Patch
spec_fields s = specs (s ∷ []) ∷ regs 0 D 1 ∷ regs 1 Q 2 ∷ regs 2 Q 5 ∷ regs 3 D 6 ∷ mask 3 ∷ scale 4 ∷ disp 0x1FFFFFFF0 ∷ imm 7 ∷ []

abbrev spec_file : List Patch
spec_file = knows 2 0x1000 ∷ knows 5 0x20 ∷ knows 6 0x100004000 ∷ knows 7 0x100003000 ∷ []

abbrev read_row : ℕ × List (List ℕ) → Row
read_row e = row (access 0x01 ∷ spec_fields e.0) spec_file (Done (length (log e.1))) (log e.1)

unfoldable pub every_spec_read : List Row
every_spec_read =
    map read_row
    ((1, reads D 1 ∷ [])
    ∷ (2, reads Q 2 ∷ [])
    ∷ (3, reads D 6 ∷ [])
    ∷ (4, reads D 7 ∷ [])
    ∷ (5, reads D 1 ∷ reads K 3 ∷ [])
    ∷ (6, reads D 1 ∷ reads K 3 ∷ [])
    ∷ (7, reads D 1 ∷ reads K 3 ∷ [])
    ∷ (8, reads Q 2 ∷ reads K 3 ∷ [])
    ∷ (9, reads Q 2 ∷ reads K 3 ∷ [])
    ∷ (10, reads D 6 ∷ reads K 3 ∷ [])
    ∷ (11, []) ∷ (12, []) ∷ (13, []) ∷ (14, []) ∷ (15, []) ∷ (16, []) ∷ (17, [])
    ∷ (18, reads Q 2 ∷ loads 0x1000 8 ∷ [])
    ∷ (19, reads Q 2 ∷ reads K 3 ∷ loads 0x1000 8 ∷ [])
    ∷ (20, reads Q 7 ∷ loads 0x100003000 8 ∷ [])
    ∷ (21, reads Q 6 ∷ loads 0x100004000 8 ∷ [])
    ∷ (22, reads D 7 ∷ loads 0x3000 8 ∷ [])
    ∷ (23, reads D 6 ∷ loads 0x4000 8 ∷ [])
    ∷ (24, reads Q 2 ∷ loads 0x0FF0 8 ∷ [])
    ∷ (25, reads Q 2 ∷ reads K 3 ∷ loads 0x0FF0 8 ∷ [])
    ∷ (26, reads Q 5 ∷ loads 0x80 8 ∷ [])
    ∷ (27, reads Q 5 ∷ reads K 3 ∷ loads 0x80 8 ∷ [])
    ∷ (28, reads Q 5 ∷ loads 0x70 8 ∷ [])
    ∷ (29, reads Q 5 ∷ reads K 3 ∷ loads 0x70 8 ∷ [])
    ∷ (30, reads Q 2 ∷ reads Q 5 ∷ loads 0x1080 8 ∷ [])
    ∷ (31, reads Q 2 ∷ reads Q 5 ∷ reads K 3 ∷ loads 0x1080 8 ∷ [])
    ∷ (32, reads Q 2 ∷ reads Q 5 ∷ loads 0x1070 8 ∷ [])
    ∷ (33, reads Q 2 ∷ reads Q 5 ∷ reads K 3 ∷ loads 0x1070 8 ∷ [])
    ∷ (34, loads 0x1FFFFFFF0 8 ∷ [])
    ∷ (35, loads 0xFFFFFFF0 8 ∷ [])
    ∷ [])

-- The specs of registers, written
abbrev write_row : ℕ × List (List ℕ) → Row
write_row e = row (access 0x02 ∷ spec_fields e.0) spec_file (Done (length (log e.1))) (log e.1)

unfoldable pub every_spec_written : List Row
every_spec_written =
    map write_row
    ((1, writes Q 1 ∷ [])
    ∷ (2, writes Q 2 ∷ [])
    ∷ (3, writes Q 6 ∷ [])
    ∷ (4, writes Q 7 ∷ [])
    ∷ (5, reads K 3 ∷ writes D 1 ∷ [])
    ∷ (6, reads K 3 ∷ writes D 1 ∷ [])
    ∷ (7, reads K 3 ∷ writes D 1 ∷ [])
    ∷ (8, reads K 3 ∷ writes Q 2 ∷ [])
    ∷ (9, reads K 3 ∷ writes Q 2 ∷ [])
    ∷ (10, reads K 3 ∷ writes D 6 ∷ [])
    ∷ [])

-- The opcodes, with bit 4, count 3, RegMMM of bank D, access 0xAA and list 27: operand accesses and list after fix-ups
abbrev pub fixed_by : ℕ → ℕ × ℕ
fixed_by o =
    let a = digest_for (opcode o ∷ specs (RegMMM ∷ 1 ∷ 1 ∷ []) ∷ regs 1 D 0 ∷ access 0xAA ∷ list 27 ∷ []) in
    ((digest_in a).operands, (digest_in a).extra)

unfoldable pub every_opcode : List (ℕ × (ℕ × ℕ))
every_opcode =
    (0, (0xAA, 27)) ∷ (1, (0xAA, 3)) ∷ (2, (0x96, 27)) ∷ (3, (0xAA, 7)) ∷ (4, (0xAA, 7)) ∷ (5, (0xAA, 27)) ∷ (6, (0xAA, 11))
    ∷ (7, (0x9A, 27)) ∷ (8, (0x9A, 27)) ∷ (9, (0x9A, 27)) ∷ (10, (0x9A, 27)) ∷ (11, (0x9A, 27)) ∷ (12, (0x5A, 27)) ∷ (13, (0xA9, 27))
    ∷ (14, (0xA9, 27)) ∷ (15, (0xAA, 13)) ∷ (16, (0xAA, 16)) ∷ (17, (0xAA, 17)) ∷ (18, (0xAA, 17)) ∷ (19, (0xAA, 19)) ∷ (20, (0xAA, 19))
    ∷ (21, (0xAA, 21)) ∷ (22, (0xAA, 21)) ∷ (23, (0xAA, 21)) ∷ (24, (0xAA, 27)) ∷ (25, (0xAA, 27)) ∷ (26, (0xAA, 27)) ∷ (27, (0xAA, 27))
    ∷ (28, (0xAA, 27)) ∷ (29, (0xAA, 27)) ∷ (0x101, (0xAA, 27))
    ∷ []

-- The banks: the refusal of a record that names the last number, and of one that names the next
abbrev pub named_in : ℕ × ℕ → ℕ × ℕ
named_in e = (record_refusal (record_with (regs 2 e.0 e.1 ∷ [])), record_refusal (record_with (regs 2 e.0 (suc e.1) ∷ [])))

abbrev pub last_passes : ℕ × ℕ → (ℕ × ℕ) × (ℕ × ℕ)
last_passes e = (e, (0, 2))

unfoldable pub every_bank : List ((ℕ × ℕ) × (ℕ × ℕ))
every_bank =
    map last_passes
    ((Q, 15) ∷ (D, 15) ∷ (W, 15) ∷ (r_b, 15) ∷ (B, 7) ∷ (X, 31) ∷ (6, 31) ∷ (7, 31) ∷ (K, 7) ∷ (RIP, 0) ∷ (EIP, 0) ∷ (RFLAGS, 0) ∷ (12, 31) ∷ [])

-- The widths of banks, as MUL asks for them: the list that it takes by bank of regs[1]
abbrev pub mul_of : ℕ → ℕ
mul_of b = (digest_in (digest_for (opcode 1 ∷ specs (RegMMM ∷ []) ∷ regs 1 b 0 ∷ size 0 ∷ []))).extra

unfoldable pub every_width : List (ℕ × ℕ)
every_width =
    (Q, 4) ∷ (D, 3) ∷ (W, 2) ∷ (r_b, 1) ∷ (B, 1) ∷ (X, 4) ∷ (6, 4) ∷ (7, 4) ∷ (K, 4) ∷ (RIP, 4) ∷ (EIP, 3) ∷ (RFLAGS, 4) ∷ (12, 4) ∷ []

-- What a file gives of a register of each bank: rax, rcx and rip are known
abbrev pub value_in : ℕ × ℕ → Value
value_in e =
    value_of (file_of (file_knowing (knows 0 0x8877665544332211 ∷ knows 1 0x18273645A4B3C2D1 ∷ knows 16 0xFFEEDDCCBBAA9988 ∷ []))) (banks.reg e.0 e.1)

unfoldable pub every_value : List ((ℕ × ℕ) × Value)
every_value =
    ((Q, 0), Some 0x8877665544332211)
    ∷ ((Q, 1), Some 0x18273645A4B3C2D1)
    ∷ ((Q, 2), None)
    ∷ ((D, 0), Some 0x44332211)
    ∷ ((D, 1), Some 0xA4B3C2D1)
    ∷ ((D, 15), None)
    ∷ ((W, 1), Some 0xC2D1)
    ∷ ((r_b, 1), Some 0xD1)
    ∷ ((B, 1), Some 0xD1)
    ∷ ((B, 3), None)
    ∷ ((B, 4), Some 0x22)
    ∷ ((B, 5), Some 0xC2)
    ∷ ((B, 7), None)
    ∷ ((X, 0), None)
    ∷ ((6, 0), None)
    ∷ ((7, 1), None)
    ∷ ((K, 0), None)
    ∷ ((RIP, 0), Some 0xFFEEDDCCBBAA9988)
    ∷ ((EIP, 0), Some 0xBBAA9988)
    ∷ ((RFLAGS, 0), None)
    ∷ ((12, 0), None)
    ∷ []

-- The lists at size 0: refused 6 where they touch memory; and bit 14 where they name memory
abbrev pub at_size0 : ℕ → ℕ × ℕ
at_size0 l =
    let cs = put 4 (Deref_rsi ∷ Deref_edi ∷ []) ∷ list l ∷ size 0 ∷ [] in
    (number_of (visit_of (record_with cs) (file_knowing []) (buffer 40) 0).0, info_vectors (exceptions_for cs))

unfoldable pub every_memory_list : List (ℕ × (ℕ × ℕ))
every_memory_list =
    (0, (0, 0)) ∷ (1, (0, 0)) ∷ (2, (0, 0)) ∷ (3, (0, 0)) ∷ (4, (0, 0)) ∷ (5, (0, 0)) ∷ (6, (0, 0)) ∷ (7, (0, 0)) ∷ (8, (0, 0)) ∷ (9, (0, 0))
    ∷ (10, (0, 0)) ∷ (11, (0, 0)) ∷ (12, (0, 0)) ∷ (13, (0, 0)) ∷ (14, (0, 0)) ∷ (15, (6, 0x4000)) ∷ (16, (6, 0x4000)) ∷ (17, (0, 0))
    ∷ (18, (0, 0)) ∷ (19, (0, 0)) ∷ (20, (0, 0)) ∷ (21, (0, 0)) ∷ (22, (0, 0)) ∷ (23, (0, 0)) ∷ (24, (0, 0x4000)) ∷ (25, (0, 0x4000))
    ∷ (26, (6, 0x4000)) ∷ (27, (6, 0x4000)) ∷ (28, (6, 0x4000))
    ∷ []
