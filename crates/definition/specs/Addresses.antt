-- Addresses: of which registers they are made, and where they lie under a register file.
use Rattle.std.specs.Prelude.{ℕ, ◌+◌, ◌-◌, ◌*◌, ◌^◌, ◌%◌, List, [], ◌∷◌, ◌++◌, Bool, false, cond, eqb, Some}
use Rattle.laws.specs.Words.{bit}
use Rattle.registers.specs.Banks.{fs, gs}
use Rattle.registers.specs.Files.{after, value_of}
use Rattle.registers.specs.declared.RegSpec.{RegSpec}
use Rattle.registers.specs.declared.RegisterFile.{RegisterFile}
use Rattle.registers.specs.Values.{Value}
use Rattle.record.specs.Records.{reg_at, address_size}
use Rattle.record.specs.declared.Record.{Record}
use Rattle.definition.specs.declared.Base.{Base}
use Rattle.definition.specs.declared.Base.TheVariants.{NoBase, Based, Named, Destination}
use Rattle.definition.specs.declared.Displacement.{Displacement}
use Rattle.definition.specs.declared.Displacement.TheVariants.{NoDisp, Disp32, DispU64, DispU32}
use Rattle.definition.specs.declared.Term.{Term}
use Rattle.definition.specs.declared.Term.TheVariants.{Absent, Plain, Scaled}
use Rattle.definition.specs.declared.Address.{Address}

-- sums and index times scale are modulo this
abbrev pub word : ℕ
word = 2 ^ 64

-- the low 32 bits, sign-extended to 64
unfoldable pub signed32 : ℕ → ℕ
signed32 v = v % 2 ^ 32 + cond (bit v 31) (2 ^ 64 - 2 ^ 32) 0

-- the registers of a term, and of an address in the order in which they are logged: base, index
unfoldable pub term_registers : Term → List RegSpec
term_registers Absent = []
term_registers (Plain y) = y ∷ []
term_registers (Scaled y k) = y ∷ []

unfoldable pub registers_of : Address → List RegSpec
registers_of a = term_registers a.base ++ term_registers a.index

-- what a term adds, unknown where its register is
unfoldable pub term_of : RegisterFile → Term → Value
term_of f Absent = Some 0
term_of f (Plain y) = value_of f y
term_of f (Scaled y k) = after (value_of f y) (λ v. Some (v * k % word))

-- the low 32 bits of an address that is cut
abbrev pub low_if : Bool → ℕ → ℕ
low_if c n = cond c (n % 2 ^ 32) n

-- where an address lies, by what its terms add: cut after the whole sum, once
unfoldable pub place_of : Address → ℕ → ℕ → ℕ
place_of a u v = low_if a.cut ((u + v + a.offset) % word)

-- the same address without the cut
abbrev pub uncut : Address → Address
uncut a = record { base = a.base; index = a.index; offset = a.offset; cut = false }

-- unknown exactly where a register in it is
unfoldable pub address_of : RegisterFile → Address → Value
address_of f a = after (term_of f a.base) (λ u. after (term_of f a.index) (λ v. Some (place_of a u v)))

-- The address of a memory operand: base regs[1] or the register named, index regs[2] times scale, and the displacement; cut where the
-- address-size bit is set
unfoldable pub base_of : Record → Base → Term
base_of x NoBase = Absent
base_of x Based = Plain (reg_at x 1)
base_of x (Named y) = Plain y
base_of x (Destination y) = Plain y

unfoldable pub index_of : Record → Bool → Term
index_of x i = cond i (Scaled (reg_at x 2) x.scale) Absent

unfoldable pub offset_of : Record → Displacement → ℕ
offset_of x NoDisp = 0
offset_of x Disp32 = signed32 x.disp
offset_of x DispU64 = x.disp
offset_of x DispU32 = x.disp % 2 ^ 32

unfoldable pub operand_address : Record → Base → Bool → Displacement → Address
operand_address x b i d = record { base = base_of x b; index = index_of x i; offset = offset_of x d; cut = address_size x }

-- The base that a segment adds, by its number: 0 none, 1 fs, 2 gs. A segment of none is not asked for its register
unfoldable pub segment_register : ℕ → RegSpec
segment_register s = cond (eqb s 1) fs gs

unfoldable pub segment_registers : ℕ → List RegSpec
segment_registers s = cond (eqb s 0) [] (segment_register s ∷ [])

-- where an access lies: its address, and the base of its segment added last
abbrev pub based_on : Value → Value → Value
based_on b v = after b (λ u. after v (λ a. Some ((a + u) % word)))

unfoldable pub based_of : RegisterFile → ℕ → Value → Value
based_of f s v = cond (eqb s 0) v (based_on (value_of f (segment_register s)) v)

-- the segment of a memory operand: the record's, and none for the destination of a string instruction
unfoldable pub segment_of : Record → Base → ℕ
segment_of x NoBase = x.segment
segment_of x Based = x.segment
segment_of x (Named y) = x.segment
segment_of x (Destination y) = 0
