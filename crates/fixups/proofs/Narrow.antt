-- Fix-ups look at no other field of a record. Assumes nothing.
use mathlib.Core.Path.{◌≡◌, refl, sym, ◌∙◌}
use mathlib.Core.Bool.{Bool, true, false}
use Rattle.registers.specs.Banks.{width_of}
use Rattle.digest.specs.declared.BehaviorDigest.{BehaviorDigest}
use Rattle.record.specs.Records.{spec_at, reg_at}
use Rattle.record.specs.declared.Record.{Record}
use Rattle.digest.specs.Digests.{is_nontrivial}
use Rattle.definition.specs.Tables.{Rule, rule_of, no-rule, mul, imul, div, nop, cmpxchg, movhalf, extrq, insertq, return, mulx, maskmov, pcmpestri, pcmpestrm, loop}
use Rattle.definition.specs.Behaviors.{operand_width, imul_fix, movhalf_fix, fix_up, digest_of}
use Rattle.fixups.specs.Fields.{fields_of}

pub narrow :
    (r : Rule) (x : Record) (d : BehaviorDigest)
    → fix_up r (fields_of x.opcode x.count (spec_at x 0) (reg_at x 1).bank x.size x.prefixes d) d ≡ fix_up r x d
unfolding fix_up fields_of operand_width imul_fix movhalf_fix width_of
narrow no-rule x d = refl
narrow mul x d = refl
narrow imul x d = refl
narrow div x d = refl
narrow nop x d = refl
narrow cmpxchg x d = refl
narrow movhalf x d = refl
narrow extrq x d = refl
narrow insertq x d = refl
narrow return x d = refl
narrow mulx x d = refl
narrow maskmov x d = refl
narrow pcmpestri x d = refl
narrow pcmpestrm x d = refl
narrow loop x d = refl

-- fix-ups happen only where nontrivial is set
module _ (x : Record) {t : Bool} (e : t ≡ is_nontrivial x.digest) where
  pub with_fixups :
      {d : BehaviorDigest} → t ≡ true
      → d ≡ fix_up (rule_of x.opcode) (fields_of x.opcode x.count (spec_at x 0) (reg_at x 1).bank x.size x.prefixes x.digest) x.digest
      → d ≡ digest_of x
  unfolding digest_of
  with_fixups h f = rw (sym e ∙ h) (f ∙ narrow (rule_of x.opcode) x x.digest)

  pub without_fixups : t ≡ false → x.digest ≡ digest_of x
  unfolding digest_of
  without_fixups h = rw (sym e ∙ h)
