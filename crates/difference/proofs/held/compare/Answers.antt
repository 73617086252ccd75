use lib.ListN.{drop}
use mathlib.Core.Path.{ap, ◌∙◌}
use Rattle.difference.specs.Partings.{parting_of}
use Rattle.difference.proofs.held.compare.Goals as goal

pub returns : goal.returns
unfolding parting_of
returns c =
    let parted = c.part_logs-parted.ensures in (
      c.hold.ensures.0 ∙ ap (λ p. p.number) parted,
      c.hold.ensures.1 ∙ ap (λ p. p.differs) parted,
      ap (λ s. s.now) c.hold.ensures.2 ∙ c.tail.ensures ∙ ap (λ p. drop p.at c.args.second.now) parted,
    )
