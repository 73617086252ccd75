use Rattle.std.proofs.Common.{append-nil, ne_eqb, arith}
use Rattle.laws.specs.Lists.{each}
use Rattle.sets.specs.Sets.{joined}
use Rattle.registers.specs.Banks.{fs, gs}
use Rattle.definition.specs.Addresses.{segment_register, segment_registers}
use Rattle.fetching.specs.Needs.{slots_of}
use Rattle.fetch.proofs.slots.with_segment.Goals as goal

pub returns-in-0 : goal.returns-in-0
unfolding each joined segment_registers
returns-in-0 c = rw c.in-0.is

pub returns-in-1 : goal.returns-in-1
unfolding each segment_register segment_registers
returns-in-1 c = rw (c.in-1.is, append-nil (slots_of fs)) c.with_register.ensures

pub returns-in_default : goal.returns-in_default
unfolding each segment_register segment_registers
returns-in_default c =
    rw (ne_eqb c.args.segment 0 (λ e. omega arith), ne_eqb c.args.segment 1 (λ e. omega arith), append-nil (slots_of gs)) c.with_register-in_default.ensures
