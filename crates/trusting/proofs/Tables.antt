-- Every row of the tables holds, by computing.
use mathlib.Core.Path.{refl}
use Rattle.promises.specs.Rows.{Table}
use Rattle.promises.proofs.Opened.{opened}
use Rattle.sets.specs.Sets.{bits_from}
use Rattle.watching.specs.Verdicts.{bytes_from, among, judged, store_verdict, verdict_of, store_touched}
use Rattle.watching.specs.Tallies.{counting, tally_of, added}
use Rattle.watching.specs.Traces.{answer_to, logged_by, verdicts_of, fresh, is_taking, further, taken, step_of, after_step, run_from, watch_of}
use Rattle.trusting.specs.Rows.{verdict_and_bytes, stores, position, verdicts, traces, RowsHold}

stores_hold : Table verdict_and_bytes stores
unfolding opened stores bytes_from among judged store_verdict bits_from store_touched
stores_hold = refl

verdicts_hold : Table (verdicts_of position) verdicts
unfolding opened verdicts bytes_from among judged store_verdict verdict_of answer_to logged_by verdicts_of
verdicts_hold = refl

traces_hold : Table (watch_of position) traces
unfolding opened traces bytes_from among judged store_verdict verdict_of counting tally_of added answer_to logged_by verdicts_of fresh is_taking further taken step_of after_step run_from watch_of
traces_hold = refl

pub rows_hold : RowsHold
rows_hold = (stores_hold, verdicts_hold, traces_hold)
