-- The bits say which lists have a memory form, by one test of all of them.
use Rattle.std.proofs.Common.{rules, refl}
use borrow.Author.Tests.{lt-leb}
use Rattle.laws.specs.Tests.{any}
use Rattle.laws.specs.Words.{bit}
use Rattle.implicit.proofs.Laws.{none_above}
use Rattle.implicit.proofs.Table.{bits_right}
use Rattle.implicit.proofs.lists_memory.Goals as goal

pub returns-then-list-le28 : goal.returns-then-list-le28
unfolding any bit
returns-then-list-le28 c = bits_right _ refl c.args.list (search rules)

pub returns-else-list-le28 : goal.returns-else-list-le28
unfolding any
returns-else-list-le28 c = rw (none_above c.args.list c.if-list-le28.false, lt-leb _ _ c.if-list-le28.false)
