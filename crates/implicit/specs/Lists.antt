-- The implicit lists 0 to 28, as document 01 writes them.
use Rattle.std.specs.Prelude.{ℕ, ◌-◌, ◌^◌, Option, List, [], ◌∷◌, get_or, slice_get}
use Rattle.registers.specs.Banks.{reg}
use Rattle.registers.specs.declared.RegSpec.{RegSpec}
use Rattle.implicit.specs.declared.Way.TheVariants.{Read, Write}
use Rattle.implicit.specs.declared.ImplicitOperand.TheVariants.{Register, MemDeref, Disp, MemBaseIndexScale}
use Rattle.implicit.specs.declared.Entry.{Entry}
use Rattle.implicit.specs.declared.Entry.TheVariants.{Operand, Slot}

abbrev pub al : RegSpec
al = reg 4 0

abbrev pub ax : RegSpec
ax = reg 2 0

abbrev pub cx : RegSpec
cx = reg 2 1

abbrev pub dx : RegSpec
dx = reg 2 2

abbrev pub eax : RegSpec
eax = reg 1 0

abbrev pub ecx : RegSpec
ecx = reg 1 1

abbrev pub edx : RegSpec
edx = reg 1 2

abbrev pub esi : RegSpec
esi = reg 1 6

abbrev pub edi : RegSpec
edi = reg 1 7

abbrev pub rax : RegSpec
rax = reg 0 0

abbrev pub rcx : RegSpec
rcx = reg 0 1

abbrev pub rdx : RegSpec
rdx = reg 0 2

abbrev pub rbx : RegSpec
rbx = reg 0 3

abbrev pub rsp : RegSpec
rsp = reg 0 4

abbrev pub rsi : RegSpec
rsi = reg 0 6

abbrev pub rdi : RegSpec
rdi = reg 0 7

abbrev pub xmm0 : RegSpec
xmm0 = reg 5 0

-- r and w: a register read or written
abbrev r : RegSpec → Entry
r x = Operand (Register x) Read

abbrev w : RegSpec → Entry
w x = Operand (Register x) Write

-- a displacement of 4 bytes, below 0 as two to the 32 less
abbrev pub minus8 : ℕ
minus8 = 2 ^ 32 - 8

abbrev pub implicits : List (List Entry)
implicits =
    []
    -- MUL
    ∷ (r al ∷ w ax ∷ [])
    ∷ (r ax ∷ w ax ∷ w dx ∷ [])
    ∷ (r eax ∷ w rax ∷ w rdx ∷ [])
    ∷ (r rax ∷ w rax ∷ w rdx ∷ [])
    -- DIV
    ∷ (r ax ∷ w ax ∷ [])
    ∷ (r ax ∷ r dx ∷ w ax ∷ w dx ∷ [])
    ∷ (r eax ∷ r edx ∷ w rax ∷ w rdx ∷ [])
    ∷ (r rax ∷ r rdx ∷ w rax ∷ w rdx ∷ [])
    -- CMPXCHG
    ∷ (r al ∷ w al ∷ [])
    ∷ (r ax ∷ w ax ∷ [])
    ∷ (r eax ∷ w rax ∷ [])
    ∷ (r rax ∷ w rax ∷ [])
    -- MULX
    ∷ (r edx ∷ [])
    ∷ (r rdx ∷ [])
    -- VMASKMOVDQU
    ∷ (Operand (MemDeref edi) Write ∷ [])
    ∷ (Operand (MemDeref rdi) Write ∷ [])
    -- PCMPESTRI, PCMPESTRM
    ∷ (r eax ∷ r edx ∷ w rcx ∷ [])
    ∷ (r rax ∷ r rdx ∷ w rcx ∷ [])
    ∷ (r eax ∷ r edx ∷ w xmm0 ∷ [])
    ∷ (r rax ∷ r rdx ∷ w xmm0 ∷ [])
    -- LOOP
    ∷ (r rcx ∷ w rcx ∷ [])
    ∷ (r cx ∷ w cx ∷ [])
    ∷ (r ecx ∷ w rcx ∷ [])
    -- String
    ∷ (Slot 0 Read ∷ Slot 0 Write ∷ [])
    ∷ (Slot 0 Read ∷ Slot 0 Write ∷ Slot 1 Read ∷ Slot 1 Write ∷ [])
    -- Push, pop, XLAT
    ∷ (r rsp ∷ w rsp ∷ Operand (Disp rsp minus8) Write ∷ [])
    ∷ (r rsp ∷ w rsp ∷ Operand (MemDeref rsp) Read ∷ [])
    ∷ (Operand (MemBaseIndexScale rbx al 1) Read ∷ [])
    ∷ []

-- the entries of a list; a list above 28 has none
unfoldable pub implicit_of : ℕ → List Entry
implicit_of l = get_or implicits l []

-- entry i of a list, and none past the last
unfoldable pub entry_at : ℕ → ℕ → Option Entry
entry_at l i = slice_get (implicit_of l) i
