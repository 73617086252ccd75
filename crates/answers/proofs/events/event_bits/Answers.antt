-- The place behind an event that was read is ahead, by no more than the longest event. Assumes nothing.
use native.Mathlib.Omega.{arith}
use mathlib.Core.Path.{sym, ◌∙◌}
use Rattle.answers.proofs.Lengths.{leads_on}
use Rattle.answers.proofs.events.event_bits.Goals as goal

pub overflow_sub-result : goal.overflow_sub-result
overflow_sub-result c = omega (arith, leads_on c.args.log.now c.args.at (sym c.read_event-found.ensures ∙ c.in-Found.is))

pub overflow_mul-result : goal.overflow_mul-result
overflow_mul-result c = omega (arith, leads_on c.args.log.now c.args.at (sym c.read_event-found.ensures ∙ c.in-Found.is))
