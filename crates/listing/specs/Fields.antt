-- A record by the fields that a listing looks at.
use Rattle.std.specs.Prelude.{ℕ, [], ◌∷◌}
use Rattle.registers.specs.Banks.{reg}
use Rattle.digest.specs.declared.BehaviorDigest.{BehaviorDigest}
use Rattle.record.specs.declared.Record.{Record}

-- operand count, the four specs and the digest after fix-ups; every other number is 0
unfoldable pub listed_of : ℕ → ℕ → ℕ → ℕ → ℕ → BehaviorDigest → Record
listed_of count first second third fourth d =
    record {
      opcode = 0;
      count = count;
      specs = first ∷ second ∷ third ∷ fourth ∷ [];
      regs = reg 0 0 ∷ reg 0 0 ∷ reg 0 0 ∷ reg 0 0 ∷ [];
      size = 0;
      scale = 0;
      disp = 0;
      imm = 0;
      prefixes = 0;
      mask = 0;
      digest = d;
      segment = 0;
    }
