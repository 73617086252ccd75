-- The bench records P1 to P11 of document 01, and P5 under the address size (document 02).
use Rattle.std.specs.Prelude.{ℕ, List, [], ◌∷◌}
use Rattle.definition.specs.declared.Answer.TheVariants.{Done, Refused, Complex, Short}
use Rattle.promises.specs.Rows.{Patch, opcode, specs, regs, size, scale, disp, prefixes, behavior, access, list, knows, Q, D, RegRRR, RegMMM, Deref, Disp, MemIndexScale, DispU32, Row, row_in, row}

abbrev pub P1 : List Patch
P1 = specs (RegRRR ∷ RegMMM ∷ []) ∷ access 0x06 ∷ regs 0 D 0 ∷ regs 1 D 3 ∷ []

abbrev pub P1_log : List ℕ
P1_log = 0x02 ∷ 0x00 ∷ 0x00 ∷ 0x01 ∷ 0x01 ∷ 0x03 ∷ []

abbrev pub P2 : List Patch
P2 = specs (Disp ∷ RegRRR ∷ []) ∷ access 0x07 ∷ behavior 0x08 ∷ regs 1 Q 3 ∷ regs 0 Q 0 ∷ size 8 ∷ disp 8 ∷ []

abbrev pub P2_file : List Patch
P2_file = knows 3 0x1000 ∷ []

abbrev pub P2_log : List ℕ
P2_log =
    0x02 ∷ 0x0B ∷ 0x00 ∷ 0x01 ∷ 0x00 ∷ 0x03 ∷ 0x03 ∷ 0x08 ∷ 0x10 ∷ 0x00 ∷ 0x00 ∷ 0x00 ∷ 0x00 ∷ 0x00 ∷ 0x00 ∷ 0x08
    ∷ 0x01 ∷ 0x00 ∷ 0x03 ∷ 0x04 ∷ 0x08 ∷ 0x10 ∷ 0x00 ∷ 0x00 ∷ 0x00 ∷ 0x00 ∷ 0x00 ∷ 0x00 ∷ 0x08 ∷ 0x01 ∷ 0x00 ∷ 0x00 ∷ []

abbrev pub P3_log : List ℕ
P3_log =
    0x02 ∷ 0x0B ∷ 0x00 ∷ 0x01 ∷ 0x00 ∷ 0x03 ∷ 0x05 ∷ 0x08 ∷ 0x01 ∷ 0x00 ∷ 0x03 ∷ 0x06 ∷ 0x08 ∷ 0x01 ∷ 0x00 ∷ 0x00 ∷ []

abbrev pub P5 : List Patch
P5 = specs (Disp ∷ []) ∷ disp 0xFFFFFFF8 ∷ []

abbrev pub P5_file : List Patch
P5_file = knows 0 4 ∷ []

unfoldable pub bench : List Row
bench =
    row P1 [] (Done 6) P1_log
    ∷ row P2 P2_file (Done 32) P2_log
    -- P3
    ∷ row P2 [] (Done 16) P3_log
    -- P4
    ∷ row (opcode 1 ∷ behavior 0x18 ∷ access 0x01 ∷ specs (RegMMM ∷ []) ∷ regs 1 D 3 ∷ []) [] (Done 15)
    (0x01 ∷ 0x01 ∷ 0x00 ∷ 0x02 ∷ 0x00 ∷ 0x00 ∷ 0x02 ∷ 0x00 ∷ 0x02 ∷ 0x02 ∷ 0x0B ∷ 0x00 ∷ 0x01 ∷ 0x01 ∷ 0x03 ∷ [])
    -- P5, P6
    ∷ row P5 P5_file (Done 13)
    (0x01 ∷ 0x00 ∷ 0x00 ∷ 0x03 ∷ 0xFC ∷ 0xFF ∷ 0xFF ∷ 0xFF ∷ 0xFF ∷ 0xFF ∷ 0xFF ∷ 0xFF ∷ 0x08 ∷ [])
    ∷ row (specs (DispU32 ∷ []) ∷ disp 0xFFFFFFF8 ∷ []) [] (Done 10)
    (0x03 ∷ 0xF8 ∷ 0xFF ∷ 0xFF ∷ 0xFF ∷ 0x00 ∷ 0x00 ∷ 0x00 ∷ 0x00 ∷ 0x08 ∷ [])
    -- P7
    ∷ row (specs (MemIndexScale ∷ []) ∷ regs 2 Q 1 ∷ scale 2 ∷ []) (knows 1 0x8000000000000001 ∷ []) (Done 13)
    (0x01 ∷ 0x00 ∷ 0x01 ∷ 0x03 ∷ 0x02 ∷ 0x00 ∷ 0x00 ∷ 0x00 ∷ 0x00 ∷ 0x00 ∷ 0x00 ∷ 0x00 ∷ 0x08 ∷ [])
    -- P8
    ∷ row (list 26 ∷ size 8 ∷ []) (knows 4 0 ∷ []) (Done 19)
    (0x01 ∷ 0x00 ∷ 0x04 ∷ 0x02 ∷ 0x00 ∷ 0x04 ∷ 0x01 ∷ 0x00 ∷ 0x04
    ∷ 0x04 ∷ 0xF8 ∷ 0xFF ∷ 0xFF ∷ 0xFF ∷ 0xFF ∷ 0xFF ∷ 0xFF ∷ 0xFF ∷ 0x08 ∷ [])
    -- P9
    ∷ row (list 28 ∷ size 1 ∷ []) (knows 3 0x2000 ∷ knows 0 0x1234 ∷ []) (Done 16)
    (0x01 ∷ 0x00 ∷ 0x03 ∷ 0x01 ∷ 0x04 ∷ 0x00 ∷ 0x03 ∷ 0x34 ∷ 0x20 ∷ 0x00 ∷ 0x00 ∷ 0x00 ∷ 0x00 ∷ 0x00 ∷ 0x00 ∷ 0x01 ∷ [])
    -- P10
    ∷ row (opcode 24 ∷ behavior 0x20 ∷ specs (RegMMM ∷ []) ∷ []) [] (Done 3) (0x01 ∷ 0x00 ∷ 0x00 ∷ [])
    ∷ row (opcode 24 ∷ behavior 0x20 ∷ specs (Disp ∷ []) ∷ []) [] (Complex 24) []
    -- P11
    ∷ row (opcode 28 ∷ specs (Disp ∷ []) ∷ size 0 ∷ []) [] (Refused 6) []
    -- room 32 passes for P2, 31 is refused 7
    ∷ row_in 32 0 P2 P2_file (Done 32) P2_log
    ∷ row_in 31 0 P2 P2_file (Short 32) []
    -- size 64 passes, 65 is refused 2
    ∷ row (specs (Deref ∷ []) ∷ size 64 ∷ []) [] (Done 5) (0x01 ∷ 0x00 ∷ 0x00 ∷ 0x05 ∷ 0x40 ∷ [])
    ∷ row (specs (Deref ∷ []) ∷ size 65 ∷ []) [] (Refused 2) []
    -- P5 under the address size
    ∷ row (prefixes 0x08 ∷ P5) P5_file (Done 13)
    (0x01 ∷ 0x00 ∷ 0x00 ∷ 0x03 ∷ 0xFC ∷ 0xFF ∷ 0xFF ∷ 0xFF ∷ 0x00 ∷ 0x00 ∷ 0x00 ∷ 0x00 ∷ 0x08 ∷ [])
    ∷ []
