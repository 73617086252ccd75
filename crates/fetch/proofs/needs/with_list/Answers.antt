use Rattle.std.proofs.Common.{arith}
use Rattle.laws.specs.Lists.{each}
use Rattle.sets.specs.Sets.{joined}
use Rattle.registers.specs.Banks.{is_logged}
use Rattle.registers.specs.Files.{part_of}
use Rattle.implicit.specs.Lists.{implicit_of}
use Rattle.fetching.specs.Needs.{slots_of}
use Rattle.fetch.specs.Parts.{form_needs, entry_needs, list_needs}
use Rattle.fetch.proofs.Lists.{register_lists, mask_lists, string_lists, stack_lists, past_lists}
use Rattle.fetch.proofs.needs.with_list.Goals as goal

pub returns-in-28 : goal.returns-in-28
unfolding joined list_needs implicit_of entry_needs form_needs slots_of part_of is_logged each
returns-in-28 c = rw (c.in-28.is, ← c.with_register.ensures) c.with_register-in-28.ensures

pub returns-in-15-to-16 : goal.returns-in-15-to-16
unfolding joined slots_of part_of is_logged
returns-in-15-to-16 c = rw (mask_lists c.args.list (omega arith) (omega arith)) c.with_register-in-15-to-16.ensures

pub returns-in-26-to-27 : goal.returns-in-26-to-27
unfolding joined slots_of part_of is_logged
returns-in-26-to-27 c = rw (stack_lists c.args.list (omega arith) (omega arith)) c.with_register-in-26-to-27.ensures

pub returns-in_default : goal.returns-in_default
unfolding joined
returns-in_default c = rw (register_lists c.args.list (omega arith))

pub returns-in_default-2 : goal.returns-in_default-2
unfolding joined
returns-in_default-2 c = rw (string_lists c.args.list (omega arith) (omega arith))

pub returns-in_default-3 : goal.returns-in_default-3
unfolding joined
returns-in_default-3 c = rw (past_lists c.args.list (omega arith))
