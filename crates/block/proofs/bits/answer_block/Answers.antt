use Rattle.block.proofs.Calls.{fits}
use Rattle.block.proofs.bits.answer_block.Goals as goal

pub block_bits-requires : goal.block_bits-requires
block_bits-requires c =
    let x = c.args in
    fits x.each x.records.now x.file.now x.log.now x.start x.answers.now c.visit_block.ensures
