-- A record and a file that reach every bound: list 26, flags read and written, and four masked operands of base and index in a
-- segment, read and written at known addresses.
use Rattle.std.specs.Prelude.{ℕ, ◌-◌, ◌^◌, List, [], ◌∷◌, ◌++◌}
use Rattle.promises.specs.Rows.{Patch, record_with, specs, regs, mask, behavior, access, list, segment, file_knowing, based, knows, Q, K, RFLAGS, BASES, MemBaseIndexScaleDisp_mask, log, reads, writes, loads, stores}

abbrev pub fullest_fields : List Patch
fullest_fields =
    specs (MemBaseIndexScaleDisp_mask ∷ MemBaseIndexScaleDisp_mask ∷ MemBaseIndexScaleDisp_mask ∷ MemBaseIndexScaleDisp_mask ∷ [])
    ∷ access 0xFF ∷ behavior 0x0C ∷ list 26 ∷ mask 1 ∷ regs 1 Q 3 ∷ regs 2 Q 1 ∷ segment 1 ∷ []

abbrev pub fullest : List ℕ
fullest = record_with fullest_fields

abbrev pub fullest_known : List Patch
fullest_known = knows 1 1 ∷ knows 3 3 ∷ knows 4 4 ∷ based ∷ knows 17 0x100 ∷ []

abbrev pub fullest_file : List ℕ
fullest_file = file_knowing fullest_known

-- what one of its operands logs
abbrev each_operand : List (List ℕ)
each_operand =
    reads BASES 0 ∷ reads Q 3 ∷ reads Q 1 ∷ reads K 1 ∷ loads 0x103 8
    ∷ reads BASES 0 ∷ reads Q 3 ∷ reads Q 1 ∷ reads K 1 ∷ stores 0x103 8 ∷ []

abbrev pub fullest_log : List ℕ
fullest_log =
    log
    ((reads Q 4 ∷ writes Q 4 ∷ reads Q 4 ∷ stores (2 ^ 64 - 4) 8 ∷ reads RFLAGS 0 ∷ writes RFLAGS 0 ∷ [])
    ++ (each_operand ++ (each_operand ++ (each_operand ++ each_operand))))
