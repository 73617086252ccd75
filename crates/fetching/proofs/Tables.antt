-- Every row of the tables holds, by computing.
use mathlib.Core.Path.{refl}
use Rattle.sets.specs.Sets.{bits_from}
use Rattle.records.specs.Lists.{list_refusal, cut, records_in}
use Rattle.promises.specs.Rows.{Table}
use Rattle.promises.proofs.Opened.{opened}
use Rattle.fetching.specs.Needs.{slots_of, access_needs, step_needs, refusal_alone, needs_of}
use Rattle.fetching.specs.Judging.{all_in, accepts, first_from, lacked_by, judge_from, judge, proposed, judge_call, propose_call, restricted}
use Rattle.fetching.specs.Rows.{fetched, fetches, answered, judgements, too_many, RefusedLogsDiffer, RowsHold}

fetches_hold : Table fetched fetches
unfolding opened bits_from slots_of access_needs step_needs refusal_alone needs_of proposed fetches
fetches_hold = refl

judgements_hold : Table answered judgements
unfolding opened bits_from list_refusal cut records_in slots_of access_needs step_needs refusal_alone needs_of proposed all_in first_from lacked_by judge_from judge judge_call propose_call judgements
judgements_hold = refl

too_many_lem : Table answered too_many
unfolding opened bits_from list_refusal judge_call propose_call too_many
too_many_lem = refl

refused_logs_differ : RefusedLogsDiffer
unfolding opened bits_from slots_of access_needs step_needs refusal_alone needs_of all_in accepts restricted
refused_logs_differ = (refl, refl, refl, refl)

pub rows_hold : RowsHold
rows_hold = (fetches_hold, judgements_hold, too_many_lem, refused_logs_differ)
