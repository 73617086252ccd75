-- Which bits of a block's answer hold what.
use Rattle.std.specs.Prelude.{ℕ, ◌+◌, List, Result}
use Rattle.laws.specs.Refusals.{refused_by}
use Rattle.laws.specs.declared.refusals.Refusal.{Refusal}
use Rattle.answers.specs.Answers.{at}
use Rattle.block.specs.declared.blocks.Blocked.{Blocked}
use Rattle.block.specs.Blocks.{block_count, block_written}

-- 0-7 number, 8-23 the records before the first 7, 32-63 the bytes of log written
abbrev pub block_bits : Result Blocked Refusal → ℕ
block_bits a = refused_by a + at 8 (block_count a) + at 32 (block_written a)

-- and both buffers beside it
abbrev pub in_bits : Result Blocked Refusal × (List ℕ × List ℕ) → ℕ × (List ℕ × List ℕ)
in_bits o = (block_bits o.0, o.1)
