-- The step of the watch that the words are. Assumes nothing.
use Rattle.std.proofs.Common.{ap, ◌∙◌}
use Rattle.watching.specs.Traces.{after_step}
use Rattle.watch_words.specs.Words.{words_of}
use Rattle.watch_words.proofs.Kept.{step_few}
use Rattle.watch_words.proofs.words.step_watch.Goals as goal

pub stepped_bits-requires : goal.stepped_bits-requires
stepped_bits-requires c = rw c.step-stepped.ensures (step_few _ _)

pub returns : goal.returns
unfolding after_step
returns c = (
  c.words_of.ensures ∙ ap words_of (c.left_by.ensures ∙ rw (c.step-stepped.ensures, c.watch_in-before.ensures)),
  c.stepped_bits.ensures ∙ rw (c.step-stepped.ensures, c.watch_in-before.ensures),
)
