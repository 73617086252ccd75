-- Document 01's numberings: what each spec and each opcode stands for.
use Rattle.std.specs.Prelude.{ℕ, List, [], ◌∷◌, Bool, true, false, get_or}
use Rattle.implicit.specs.Lists.{rdi, rsi, edi, esi}
use Rattle.definition.specs.declared.Base.TheVariants.{NoBase, Based, Named, Destination}
use Rattle.definition.specs.declared.Displacement.TheVariants.{NoDisp, Disp32, DispU64, DispU32}
use Rattle.definition.specs.declared.Shape.{Shape}
use Rattle.definition.specs.declared.Shape.TheVariants.{Nothing, Register, Fourth, Immediate, Memory}

abbrev plain : Bool
plain = false

abbrev masked : Bool
masked = true

abbrev index : Bool
index = true

abbrev no_index : Bool
no_index = false

-- specs 0 to 35
abbrev pub shapes : List Shape
shapes =
    Nothing
    -- RegRRR, RegMMM, RegVex, Reg4
    ∷ Register 0 plain ∷ Register 1 plain ∷ Register 3 plain ∷ Fourth
    -- RegRRR_maskmerge, _sae, _sae_noround; RegMMM_maskmerge, _sae_noround; RegVex_maskmerge
    ∷ Register 0 masked ∷ Register 0 masked ∷ Register 0 masked ∷ Register 1 masked ∷ Register 1 masked ∷ Register 3 masked
    -- ImmI8, ImmU8, ImmI16, ImmU16, ImmI32, ImmI64, ImmInDispField
    ∷ Immediate ∷ Immediate ∷ Immediate ∷ Immediate ∷ Immediate ∷ Immediate ∷ Immediate
    -- Deref, Deref_mask
    ∷ Memory Based no_index NoDisp plain ∷ Memory Based no_index NoDisp masked
    -- Deref_rdi, Deref_rsi, Deref_edi, Deref_esi
    ∷ Memory (Destination rdi) no_index NoDisp plain ∷ Memory (Named rsi) no_index NoDisp plain
    ∷ Memory (Destination edi) no_index NoDisp plain ∷ Memory (Named esi) no_index NoDisp plain
    -- Disp, MemIndexScale, MemIndexScaleDisp, MemBaseIndexScale, MemBaseIndexScaleDisp, each with its _mask form
    ∷ Memory Based no_index Disp32 plain ∷ Memory Based no_index Disp32 masked
    ∷ Memory NoBase index NoDisp plain ∷ Memory NoBase index NoDisp masked
    ∷ Memory NoBase index Disp32 plain ∷ Memory NoBase index Disp32 masked
    ∷ Memory Based index NoDisp plain ∷ Memory Based index NoDisp masked
    ∷ Memory Based index Disp32 plain ∷ Memory Based index Disp32 masked
    -- DispU64, DispU32
    ∷ Memory NoBase no_index DispU64 plain ∷ Memory NoBase no_index DispU32 plain
    ∷ []

unfoldable pub shape_of : ℕ → Shape
shape_of s = get_or shapes s Nothing

-- the specs whose register a string list may log
abbrev pub string_specs : List ℕ
string_specs = 18 ∷ 20 ∷ 21 ∷ 22 ∷ 23 ∷ []

-- Opcodes 0 to 23: the rule by which each changes a digest. BT, BTS, BTR, BTC (24 to 27) and LEA (28) change none
pub data Rule : Type 0 where
  no-rule mul imul div nop cmpxchg movhalf extrq insertq return mulx maskmov pcmpestri pcmpestrm loop : Rule

abbrev pub rules : List Rule
rules =
    no-rule
    -- MUL, IMUL, DIV, IDIV, NOP, CMPXCHG
    ∷ mul ∷ imul ∷ div ∷ div ∷ nop ∷ cmpxchg
    -- VMOVLPS, VMOVHPS, VMOVLPD, VMOVHPD
    ∷ movhalf ∷ movhalf ∷ movhalf ∷ movhalf
    -- EXTRQ, INSERTQ, RETURN, RETF, MULX, VMASKMOVDQU
    ∷ extrq ∷ insertq ∷ return ∷ return ∷ mulx ∷ maskmov
    -- PCMPESTRI, VPCMPESTRI, PCMPESTRM, VPCMPESTRM
    ∷ pcmpestri ∷ pcmpestri ∷ pcmpestrm ∷ pcmpestrm
    -- LOOPNZ, LOOPZ, LOOP
    ∷ loop ∷ loop ∷ loop
    ∷ []

unfoldable pub rule_of : ℕ → Rule
rule_of o = get_or rules o no-rule
