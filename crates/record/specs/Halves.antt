-- How the code reads a record: what every kind holds at the same places, then what hangs on the kind.
use Rattle.std.specs.Prelude.{ℕ, List, [], ◌∷◌, get_or}
use Rattle.laws.specs.Words.{number_at}
use Rattle.digest.specs.Digests.{digest_in, empty_digest}
use Rattle.record.specs.Records.{record_bytes, record_digest, reg_from}
use Rattle.record.specs.declared.Record.{Record}

unfoldable pub plain_record : List ℕ → Record
plain_record b =
    record {
      opcode = number_at b 1 2;
      count = get_or b 3 0;
      specs = get_or b 4 0 ∷ get_or b 5 0 ∷ get_or b 6 0 ∷ get_or b 7 0 ∷ [];
      regs = reg_from b 8 ∷ reg_from b 10 ∷ reg_from b 12 ∷ reg_from b 14 ∷ [];
      size = get_or b 16 0;
      scale = get_or b 17 0;
      disp = number_at b 18 8;
      imm = number_at b 26 8;
      prefixes = get_or b 34 0;
      mask = get_or b 35 0;
      digest = empty_digest;
      segment = 0;
    }

unfoldable pub completed_record : Record → List ℕ → Record
completed_record x b =
    record {
      opcode = x.opcode;
      count = x.count;
      specs = x.specs;
      regs = x.regs;
      size = x.size;
      scale = x.scale;
      disp = x.disp;
      imm = x.imm;
      prefixes = x.prefixes;
      mask = x.mask;
      digest = digest_in (record_digest b);
      segment = get_or b record_bytes 0;
    }
