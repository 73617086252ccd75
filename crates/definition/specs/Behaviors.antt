-- The digest after fix-ups, and what the calls on a record alone answer: digest, privilege, exceptions.
use Rattle.std.specs.Prelude.{ℕ, ◌+◌, ◌^◌, List, [], ◌∷◌, Bool, true, false, not, cond, ◌&&◌, take, ltb, leb, eqb, Result, Ok, Err}
use Rattle.laws.specs.Tests.{any, some_of}
use Rattle.access.specs.Exceptions.{info_of}
use Rattle.access.specs.Privileges.{level_of}
use Rattle.access.specs.declared.PrivilegeLevel.{PrivilegeLevel}
use Rattle.registers.specs.Banks.{width_of}
use Rattle.digest.specs.Digests.{privilege_of, access_at, is_nontrivial, is_complex, with_access, with_list}
use Rattle.digest.specs.declared.BehaviorDigest.{BehaviorDigest}
use Rattle.implicit.specs.Lists.{implicit_of}
use Rattle.implicit.specs.Memory.{memory_entry}
use Rattle.record.specs.Records.{record_of, record_refusal, with_digest, spec_at, reg_at, vex_w, address_size}
use Rattle.record.specs.declared.Record.{Record}
use Rattle.definition.specs.Tables.{shape_of, Rule, no-rule, mul, imul, div, nop, cmpxchg, movhalf, extrq, insertq, return, mulx, maskmov, pcmpestri, pcmpestrm, loop, rule_of}
use Rattle.definition.specs.declared.Shape.{Shape}
use Rattle.definition.specs.declared.Shape.TheVariants.{Nothing, Register, Fourth, Immediate, Memory}
use Rattle.laws.specs.Refusals.{answered_by, refused_by}
use Rattle.laws.specs.declared.refusals.Refusal.{Refusal}
use Rattle.access.specs.declared.ExceptionInfo.{ExceptionInfo}

-- an access that a fix-up sets
abbrev none : ℕ
none = 0

abbrev read : ℕ
read = 1

abbrev write : ℕ
write = 2

abbrev both : ℕ
both = 3

-- the width of regs[1] where spec 0 is RegMMM, else mem_size
unfoldable pub operand_width : Record → ℕ
operand_width x = cond (eqb (spec_at x 0) 2) (width_of (reg_at x 1)) x.size

-- one of four lists, by width 1, 2, 4, anything else
unfoldable pub by_width : ℕ → ℕ → BehaviorDigest → BehaviorDigest
by_width l n d = with_list (l + cond (eqb n 1) 0 (cond (eqb n 2) 1 (cond (eqb n 4) 2 3))) d

-- IMUL: with 1 operand as MUL, with 2 both and read, with 3 write, read and read
unfoldable pub imul_fix : Record → BehaviorDigest → BehaviorDigest
imul_fix x d =
    cond (eqb x.count 1) (by_width 1 (operand_width x) d)
    (cond (eqb x.count 2) (with_access 1 read (with_access 0 both d))
    (cond (eqb x.count 3) (with_access 2 read (with_access 1 read (with_access 0 write d)))
    d))

-- VMOVLPS and its like: with count 2 operand 0 both; else operand 0 write, operand 2 read
unfoldable pub movhalf_fix : Record → BehaviorDigest → BehaviorDigest
movhalf_fix x d = cond (eqb x.count 2) (with_access 0 both d) (with_access 2 read (with_access 0 write d))

-- the rule of an opcode, on the base digest
unfoldable pub fix_up : Rule → Record → BehaviorDigest → BehaviorDigest
fix_up no-rule x d = d
fix_up mul x d = by_width 1 (operand_width x) d
fix_up imul x d = imul_fix x d
fix_up div x d = by_width 5 (operand_width x) d
fix_up nop x d = cond (eqb x.count 1) (with_access 0 none d) d
fix_up cmpxchg x d = by_width 9 (operand_width x) d
fix_up movhalf x d = movhalf_fix x d
fix_up extrq x d = cond (ltb 2 x.count) (with_access 2 read d) d
fix_up insertq x d = cond (ltb 2 x.count) (with_access 3 read (with_access 2 read d)) d
fix_up return x d = cond (eqb x.count 0) d (with_access 0 read d)
fix_up mulx x d = with_list (cond (vex_w x) 14 13) d
fix_up maskmov x d = with_list (cond (address_size x) 15 16) d
fix_up pcmpestri x d = with_list (cond (vex_w x) 18 17) d
fix_up pcmpestrm x d = with_list (cond (vex_w x) 20 19) d
fix_up loop x d = with_list (cond (address_size x) 23 21) d

-- the digest after fix-ups, which happen only where nontrivial is set
unfoldable pub digest_of : Record → BehaviorDigest
digest_of x = cond (is_nontrivial x.digest) (fix_up (rule_of x.opcode) x x.digest) x.digest

-- the record with its digest after fix-ups: all that follows looks at this one
unfoldable pub fixed_up : Record → Record
fixed_up x = with_digest x (digest_of x)

-- bit 5, but for BT, BTS, BTR, BTC only where spec 0 is not RegMMM
unfoldable pub complex : Record → Bool
complex x = is_complex x.digest && not (leb 24 x.opcode && leb x.opcode 27 && eqb (spec_at x 0) 2)

-- An operand of a record: its access and its shape. The operands are those below count.
pub record Operand : Type 0 where
  pub access : ℕ
  pub shape : Shape

abbrev pub operand_at : Record → ℕ → Operand
operand_at x i = record { access = access_at x.digest i; shape = shape_of (spec_at x i) }

unfoldable pub operands_of : Record → List Operand
operands_of x = take x.count (operand_at x 0 ∷ operand_at x 1 ∷ operand_at x 2 ∷ operand_at x 3 ∷ [])

unfoldable pub is_memory : Shape → Bool
is_memory Nothing = false
is_memory (Register i m) = false
is_memory Fourth = false
is_memory Immediate = false
is_memory (Memory b i d m) = true

-- bit 14: complex, or any implicit memory form or explicit memory spec below count, whatever its access
unfoldable pub may_fault : Record → Bool
may_fault x =
    some_of
    (complex x
    ∷ any memory_entry (implicit_of x.digest.extra)
    ∷ any (λ (o : Operand). is_memory o.shape) (operands_of x)
    ∷ [])

-- bit 13: the privilege is not any
unfoldable pub may_protect : Record → Bool
may_protect x = not (eqb (privilege_of x.digest) 0)

unfoldable pub exceptions_of : Record → ℕ
exceptions_of x = cond (may_protect x) (2 ^ 13) 0 + cond (may_fault x) (2 ^ 14) 0

-- what a call answers over a record's bytes: the refusal that they give, or what it says of the record
abbrev pub over_record : {A : Type 0} → (Record → A) → List ℕ → Result A Refusal
over_record says b = answered_by (record_refusal b) (says (record_of b))

unfoldable pub digest_call : List ℕ → Result BehaviorDigest Refusal
digest_call b = over_record digest_of b

unfoldable pub privilege_call : List ℕ → Result PrivilegeLevel Refusal
privilege_call b = over_record (λ (x : Record). level_of (privilege_of (digest_of x))) b

unfoldable pub exceptions_call : List ℕ → Result ExceptionInfo Refusal
exceptions_call b = over_record (λ (x : Record). info_of (exceptions_of (fixed_up x))) b

-- document 01's number of the privilege call's answer, and its level: that of number 0 where it is refused
abbrev pub privilege_number : Result PrivilegeLevel Refusal → ℕ
privilege_number a = refused_by a

abbrev pub privilege_in : Result PrivilegeLevel Refusal → PrivilegeLevel
privilege_in (Ok l) = l
privilege_in (Err r) = level_of 0
