use Rattle.std.proofs.Common.{append-nil}
use Rattle.laws.specs.Lists.{each}
use Rattle.sets.specs.Sets.{joined}
use Rattle.definition.specs.Addresses.{term_registers}
use Rattle.fetching.specs.Needs.{slots_of}
use Rattle.fetch.proofs.slots.with_term.Goals as goal

pub returns-in-Absent : goal.returns-in-Absent
unfolding each joined term_registers
returns-in-Absent c = rw c.in-Absent.is

pub returns-in-Plain : goal.returns-in-Plain
unfolding each term_registers
returns-in-Plain c = rw (c.in-Plain.is, append-nil (slots_of c.in-Plain.y)) c.with_register.ensures

pub returns-in-Scaled : goal.returns-in-Scaled
unfolding each term_registers
returns-in-Scaled c = rw (c.in-Scaled.is, append-nil (slots_of c.in-Scaled.y)) c.with_register-in-Scaled.ensures
