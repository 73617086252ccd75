-- The memory of each list that has some, and nowhere for the others.
use Rattle.std.proofs.Common.{sym, ap, ◌∙◌, rules}
use Rattle.laws.specs.Words.{bit}
use Rattle.registers.specs.Files.{value_of}
use Rattle.implicit.specs.Lists.{implicit_of, rsp, rdi, edi, rbx, al}
use Rattle.definition.specs.Addresses.{signed32}
use Rattle.address.specs.Places.{sum_of, implied_place, list_place, entry_place, operand_place}
use Rattle.address.proofs.Sums.{at_register, at_disp, at_both, once}
use Rattle.address.proofs.places.implied_place.Goals as goal

pub returns-in-15 : goal.returns-in-15
unfolding implied_place implicit_of list_place entry_place operand_place signed32 bit
returns-in-15 c = rw (c.in-15.is, c.value.ensures) (sym (at_register c.args.f edi))

pub returns-in-16 : goal.returns-in-16
unfolding implied_place implicit_of list_place entry_place operand_place signed32 bit
returns-in-16 c = rw (c.in-16.is, c.general.ensures) (sym (at_register c.args.f rdi))

pub returns-in-26 : goal.returns-in-26
unfolding implied_place implicit_of list_place entry_place operand_place signed32 bit
returns-in-26 c = rw (c.in-26.is, c.plus.ensures, c.general-in-26.ensures) (sym (at_disp c.args.f rsp 0xFFFFFFFFFFFFFFF8))

pub returns-in-27 : goal.returns-in-27
unfolding implied_place implicit_of list_place entry_place operand_place signed32 bit
returns-in-27 c = rw (c.in-27.is, c.general-in-27.ensures) (sym (at_register c.args.f rsp))

pub returns-in-28 : goal.returns-in-28
unfolding implied_place implicit_of list_place entry_place operand_place signed32 bit
returns-in-28 c = rw (c.in-28.is, c.sum.ensures, c.general-in-28.ensures, c.value-in-28.ensures) (sym (at_both c.args.f rbx al 1 ∙ ap (sum_of (value_of c.args.f rbx)) (once c.args.f al)))
