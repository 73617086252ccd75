use Rattle.std.proofs.Common.{arith}
use Rattle.definition.specs.Tables.{shape_of}
use Rattle.definition.specs.Addresses.{base_of}
use Rattle.definition.specs.Steps.{shape_base}
use Rattle.fetch.proofs.Specs.{register_specs, deref_specs, disp_specs, index_specs, base_index_specs, absolute_specs}
use Rattle.fetch.proofs.operands.base_of.Goals as goal

pub returns-in-20 : goal.returns-in-20
unfolding shape_of shape_base base_of
returns-in-20 c = rw c.in-20.is

pub returns-in-21 : goal.returns-in-21
unfolding shape_of shape_base base_of
returns-in-21 c = rw c.in-21.is

pub returns-in-22 : goal.returns-in-22
unfolding shape_of shape_base base_of
returns-in-22 c = rw c.in-22.is

pub returns-in-23 : goal.returns-in-23
unfolding shape_of shape_base base_of
returns-in-23 c = rw c.in-23.is

pub returns-in-18-to-19 : goal.returns-in-18-to-19
unfolding base_of
returns-in-18-to-19 c = rw (← (deref_specs c.args.spec (omega arith) (omega arith)))

pub returns-in-24-to-25 : goal.returns-in-24-to-25
unfolding base_of
returns-in-24-to-25 c =
    rw (← (disp_specs c.args.spec (λ e. omega arith) (λ e. omega arith) (λ e. omega arith) (λ e. omega arith) (omega arith) (omega arith)))

pub returns-in-30-to-33 : goal.returns-in-30-to-33
unfolding base_of
returns-in-30-to-33 c = rw (← (base_index_specs c.args.spec (omega arith) (omega arith)))

pub returns-in_default : goal.returns-in_default
unfolding base_of
returns-in_default c = rw (← (register_specs c.args.spec (omega arith)))

pub returns-in_default-2 : goal.returns-in_default-2
unfolding base_of
returns-in_default-2 c = rw (← (index_specs c.args.spec (omega arith) (omega arith)))

pub returns-in_default-3 : goal.returns-in_default-3
unfolding base_of
returns-in_default-3 c = rw (← (absolute_specs c.args.spec (omega arith)))
