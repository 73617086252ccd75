-- Past the last row there is none.
use Rattle.std.proofs.Common.{sym}
use lib.ListN.{drop}
use Rattle.implicit.specs.Codes.{rows}
use Rattle.laws.proofs.Keys.{otherwise}
use Rattle.implicit.proofs.row_of.Goals as goal

pub returns-in_default : goal.returns-in_default
returns-in_default c = sym (otherwise 0 (drop 1 rows) c.args.list c.in_default.in_default-own.rest)
