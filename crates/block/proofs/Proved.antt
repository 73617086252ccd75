-- Every statement of specs/Promises.antt, proved. Assumes nothing.
use Rattle.block.specs.Promises as promised
use Rattle.block.proofs.Singles as singles
use Rattle.block.proofs.Rooms as rooms
use Rattle.block.proofs.Calls as calls
use Rattle.block.proofs.Tables as tables

pub blocks_are_single_calls : promised.BlocksAreSingleCalls
blocks_are_single_calls = singles.blocks_are_single_calls

pub blocks_have_room : promised.BlocksHaveRoom
blocks_have_room = rooms.blocks_have_room

pub blocks_refine : promised.BlocksRefine
blocks_refine = rooms.blocks_refine

pub refused_block_leaves : promised.RefusedBlockLeaves
refused_block_leaves = calls.refused_block_leaves

pub four_bytes_each : promised.FourBytesEach
four_bytes_each = calls.four_bytes_each

pub rows_hold : promised.RowsHold
rows_hold = tables.rows_hold
