-- Every row of the tables holds, by computing.
use Rattle.std.proofs.Common.{refl}
use Rattle.promises.proofs.Opened.{opened}
use Rattle.session.specs.Sessions.{counts_of, further, appended, after}
use Rattle.session.specs.Rows.{rows_from, left_by, rows, left, past_rows, wild_rows}
use Rattle.session.specs.Promises.{RowsHold}

pub rows_hold : RowsHold
unfolding opened counts_of further appended after rows_from left_by rows left past_rows wild_rows
rows_hold = (refl, refl, refl, refl)
