-- Every row of the table holds, by computing.
use mathlib.Core.Path.{refl}
use Rattle.promises.proofs.Opened.{opened}
use Rattle.records.specs.Lists.{list_refusal, cut, records_in}
use Rattle.block.specs.Blocks.{block_from, told_from, block_refusal, block_call}
use Rattle.block.specs.Rows.{rows}
use Rattle.block.specs.Promises.{RowsHold}

pub rows_hold : RowsHold
unfolding opened list_refusal cut records_in block_from told_from block_refusal block_call rows
rows_hold = refl
