-- The rest of a block after one byte of it.
use Rattle.std.proofs.Common.{◌+◌, sym, ap, ◌∙◌, drop}
use Rattle.filing.specs.Feeds.{State, state_of, fed}
use Rattle.filing.proofs.Pushing.{step, over}
use Rattle.filing.proofs.feed.feed_block.Goals as goal

pub loop-b-preserved : goal.loop-b-preserved
loop-b-preserved c =
    let l = c.loop-b in
    let b = c.args.block.now in
    record {
      same =
          l.invariant.same
          ∙ step (state_of l.g l.words l.carry) b l.b-index c.loop-b-test.true
          ∙ ap (λ (s : State). fed s (drop (l.b-index + 1) b)) (sym c.push-g.ensures.0);
      ready = c.push-g.ensures.1;
    }

pub returns : goal.returns
returns c =
    let l = c.loop-b in (
      sym (l.invariant.same ∙ over (state_of l.g l.words l.carry) c.args.block.now l.b-index c.loop-b-test.false),
      l.invariant.ready,
    )
