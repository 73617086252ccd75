-- The base digests of everyday integer code, by opcode, as document 02 writes them (T-11). All are for any privilege.
use Rattle.std.specs.Prelude.{ℕ, ◌+◌, ◌*◌, List, [], ◌∷◌, Bool, cond, eqb, Result, Ok, Err}
use Rattle.digest.specs.Digests.{digest_number}
use Rattle.digest.specs.declared.BehaviorDigest.{BehaviorDigest}
use Rattle.laws.specs.declared.refusals.Refusal.{Refusal}
use Rattle.laws.specs.declared.refusals.Refusal.TheVariants.{Unlisted}

-- bits 2 and 3 of a behavior, the access of the flags, and bit 4
abbrev no_flags : ℕ
no_flags = 0

abbrev flags_write : ℕ
flags_write = 2 * 4

abbrev flags_both : ℕ
flags_both = 3 * 4

abbrev nontrivial : ℕ
nontrivial = 16

-- an opcode, the accesses of its operands, its flags, its implicit list
abbrev row : ℕ → ℕ → ℕ → ℕ → ℕ × BehaviorDigest
row opcode operands behavior list = (opcode, record { behavior = behavior; operands = operands; extra = list })

abbrev pub rows : List (ℕ × BehaviorDigest)
rows =
    -- MUL, LEA
    row 1 0x01 (nontrivial + flags_write) 0
    ∷ row 28 0x06 no_flags 0
    -- MOV, MOVZX, MOVSX
    ∷ row 100 0x06 no_flags 0
    ∷ row 101 0x06 no_flags 0
    ∷ row 102 0x06 no_flags 0
    -- ADD, SUB, AND, OR, XOR
    ∷ row 103 0x07 flags_write 0
    ∷ row 104 0x07 flags_write 0
    ∷ row 105 0x07 flags_write 0
    ∷ row 106 0x07 flags_write 0
    ∷ row 107 0x07 flags_write 0
    -- ADC, SBB
    ∷ row 108 0x07 flags_both 0
    ∷ row 109 0x07 flags_both 0
    -- CMP, TEST
    ∷ row 110 0x05 flags_write 0
    ∷ row 111 0x05 flags_write 0
    -- INC, DEC, NEG
    ∷ row 112 0x03 flags_write 0
    ∷ row 113 0x03 flags_write 0
    ∷ row 114 0x03 flags_write 0
    -- NOT, XCHG
    ∷ row 115 0x03 no_flags 0
    ∷ row 116 0x0F no_flags 0
    -- PUSH, POP
    ∷ row 117 0x01 no_flags 26
    ∷ row 118 0x02 no_flags 27
    ∷ []

-- what an opcode without a row is refused with
abbrev pub unlisted : ℕ
unlisted = 9

-- the row of an opcode
abbrev pub lookup : ℕ → List (ℕ × BehaviorDigest) → Result BehaviorDigest Refusal
lookup o [] = Err Unlisted
lookup o (r ∷ rs) = cond (eqb o r.0) (Ok r.1) (lookup o rs)

-- the base digest of an opcode, or refusal 9
unfoldable pub everyday_digest : ℕ → Result BehaviorDigest Refusal
everyday_digest o = lookup o rows

unfoldable pub is_everyday : ℕ → Bool
is_everyday o = eqb (digest_number (everyday_digest o)) 0
