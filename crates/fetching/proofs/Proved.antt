-- Every statement of specs/Promises.antt, and the tables of specs/Rows.antt, proved.
use Rattle.fetching.specs.Promises as promised
use Rattle.fetching.specs.Rows as rows
use Rattle.fetching.proofs.Alone as alone
use Rattle.fetching.proofs.Judged as judged
use Rattle.fetching.proofs.Named as named
use Rattle.fetching.proofs.Lost as lost
use Rattle.fetching.proofs.Spare as spare
use Rattle.fetching.proofs.Tables as tables

pub judge_is_right : promised.JudgeIsRight
judge_is_right = judged.judge_is_right

pub judge_agrees : promised.JudgeAgrees
judge_agrees = judged.judge_agrees

pub judge_names : promised.JudgeNames
judge_names = named.judge_names

pub proposed_accepted : promised.ProposedAccepted
proposed_accepted = judged.proposed_accepted

pub proposed_least : promised.ProposedLeast
proposed_least = judged.proposed_least

pub blocks_unite : promised.BlocksUnite
blocks_unite = judged.blocks_unite

pub refused_alike : promised.RefusedAlike
refused_alike = alone.refused_alike

pub restricted_is : promised.RestrictedIs
restricted_is = lost.restricted_is

pub nothing_lost : promised.NothingLost
nothing_lost = lost.nothing_lost

pub restricted_suffices : promised.RestrictedSuffices
restricted_suffices = lost.restricted_suffices

pub calls_lose_nothing : promised.CallsLoseNothing
calls_lose_nothing = lost.calls_lose_nothing

pub nothing_spare : promised.NothingSpare
nothing_spare = spare.nothing_spare

pub rows_hold : rows.RowsHold
rows_hold = tables.rows_hold
