-- In each arm the rule of the table is the one that is called.
use Rattle.std.proofs.Common.{arith, ap, refl}
use Rattle.definition.specs.Tables.{rule_of, div, movhalf, return, pcmpestri, pcmpestrm, loop}
use Rattle.definition.specs.Behaviors.{fix_up}
use Rattle.fixups.proofs.Opcodes.{ruled, ruled_from, by_test}
use Rattle.fixups.proofs.rules.fix_up.Goals as goal

pub returns-in-1 : goal.returns-in-1
unfolding rule_of fix_up
returns-in-1 c = ruled c.args.x (ap rule_of c.in-1.is) c.by_width.ensures

pub returns-in-2 : goal.returns-in-2
unfolding rule_of
returns-in-2 c = ruled c.args.x (ap rule_of c.in-2.is) c.fix_imul.ensures

pub returns-in-3 : goal.returns-in-3
unfolding rule_of fix_up
returns-in-3 c = ruled_from c.args.x div 3 2 (refl, (refl, tt)) (omega arith) (omega arith) c.by_width-in-3.ensures

pub returns-in-5 : goal.returns-in-5
unfolding rule_of
returns-in-5 c = ruled c.args.x (ap rule_of c.in-5.is) c.fix_nop.ensures

pub returns-in-6 : goal.returns-in-6
unfolding rule_of fix_up
returns-in-6 c = ruled c.args.x (ap rule_of c.in-6.is) c.by_width-in-6.ensures

pub returns-in-7-to-10 : goal.returns-in-7-to-10
unfolding rule_of
returns-in-7-to-10 c = ruled_from c.args.x movhalf 7 4 (refl, (refl, (refl, (refl, tt)))) (omega arith) (omega arith) c.fix_movhalf.ensures

pub returns-in-11 : goal.returns-in-11
unfolding rule_of
returns-in-11 c = ruled c.args.x (ap rule_of c.in-11.is) c.fix_extrq.ensures

pub returns-in-12 : goal.returns-in-12
unfolding rule_of
returns-in-12 c = ruled c.args.x (ap rule_of c.in-12.is) c.fix_insertq.ensures

pub returns-in-13 : goal.returns-in-13
unfolding rule_of
returns-in-13 c = ruled_from c.args.x return 13 2 (refl, (refl, tt)) (omega arith) (omega arith) c.fix_return.ensures

pub returns-in-15 : goal.returns-in-15
unfolding rule_of fix_up
returns-in-15 c = ruled c.args.x (ap rule_of c.in-15.is) (by_test 14 13 _ c.one_list_of.ensures c.vex_w.ensures)

pub returns-in-16 : goal.returns-in-16
unfolding rule_of fix_up
returns-in-16 c = ruled c.args.x (ap rule_of c.in-16.is) (by_test 15 16 _ c.one_list_of-in-16.ensures c.address_size.ensures)

pub returns-in-17 : goal.returns-in-17
unfolding rule_of fix_up
returns-in-17 c = ruled_from c.args.x pcmpestri 17 2 (refl, (refl, tt)) (omega arith) (omega arith) (by_test 18 17 _ c.one_list_of-in-17.ensures c.vex_w-in-17.ensures)

pub returns-in-19 : goal.returns-in-19
unfolding rule_of fix_up
returns-in-19 c = ruled_from c.args.x pcmpestrm 19 2 (refl, (refl, tt)) (omega arith) (omega arith) (by_test 20 19 _ c.one_list_of-in-19.ensures c.vex_w-in-19.ensures)

pub returns-in-21-to-23 : goal.returns-in-21-to-23
unfolding rule_of fix_up
returns-in-21-to-23 c = ruled_from c.args.x loop 21 3 (refl, (refl, (refl, tt))) (omega arith) (omega arith) (by_test 23 21 _ c.one_list_of-in-21-to-23.ensures c.address_size-in-21-to-23.ensures)
