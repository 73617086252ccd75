-- The place behind an event that was named lies further on, and not far. Assumes nothing.
use Rattle.std.proofs.Common.{◌-◌, ◌<◌, ◌≤◌, sym, ◌∙◌, arith}
use Rattle.watching.specs.Verdicts.{variable}
use Rattle.watch_words.proofs.Kept.{name_leads}
use Rattle.watch_words.proofs.bits.verdict_bits.Goals.{In-Named}
use Rattle.watch_words.proofs.bits.verdict_bits.Goals as goal

ahead : (c : In-Named) → (c.args.at < c.in-Named.next) × (c.in-Named.next - c.args.at ≤ 10)
ahead c = let x = c.args in name_leads (variable x.address x.length) x.log.now x.at (sym c.name_event.ensures ∙ c.in-Named.is)

pub overflow_sub-result : goal.overflow_sub-result
overflow_sub-result c = omega (arith, ahead (goal.at.overflow_sub-result c).In-Named)

pub overflow_mul-result : goal.overflow_mul-result
overflow_mul-result c = omega (arith, ahead (goal.at.overflow_mul-result c).In-Named)

pub overflow_add-result : goal.overflow_add-result
overflow_add-result c = omega (arith, ahead (goal.at.overflow_add-result c).In-Named)
