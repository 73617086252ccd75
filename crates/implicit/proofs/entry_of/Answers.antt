-- Past the last form there is none.
use Rattle.std.proofs.Common.{◌/◌, None, sym}
use lib.ListN.{drop}
use Rattle.implicit.specs.Codes.{entry_of, forms, register_in}
use Rattle.laws.proofs.Keys.{otherwise}
use Rattle.implicit.proofs.entry_of.Goals as goal

pub returns-in_default : goal.returns-in_default
unfolding entry_of
returns-in_default c =
    let code = c.args.code in
    sym (otherwise None (drop 1 (forms (register_in code))) (code / 256) c.in_default.in_default-own.rest)
