-- A record by the fields that fix-ups look at.
use Rattle.std.specs.Prelude.{ℕ, [], ◌∷◌}
use Rattle.registers.specs.Banks.{reg}
use Rattle.digest.specs.declared.BehaviorDigest.{BehaviorDigest}
use Rattle.record.specs.declared.Record.{Record}

-- opcode, operand count, spec 0, the bank of regs[1], mem_size, prefixes and the base digest; every other number is 0
unfoldable pub fields_of : ℕ → ℕ → ℕ → ℕ → ℕ → ℕ → BehaviorDigest → Record
fields_of opcode count spec bank size prefixes d =
    record {
      opcode = opcode;
      count = count;
      specs = spec ∷ 0 ∷ 0 ∷ 0 ∷ [];
      regs = reg 0 0 ∷ reg bank 0 ∷ reg 0 0 ∷ reg 0 0 ∷ [];
      size = size;
      scale = 0;
      disp = 0;
      imm = 0;
      prefixes = prefixes;
      mask = 0;
      digest = d;
      segment = 0;
    }
