-- What the whole block makes of the state is what the rest of it makes of the state so far.
use Rattle.std.proofs.Common.{◌≡◌, drop}
use Rattle.filing.specs.Feeds.{state_of, fed, Ready}
use Rattle.filing.proofs.feed.feed_block.Given as goal

abbrev pub invariant-loop-b : goal.invariant-loop-b
invariant-loop-b l = record {
  same : fed (state_of l.initial.g l.initial.words l.initial.carry) l.block ≡ fed (state_of l.g l.words l.carry) (drop l.b-index l.block);
  ready : Ready l.g l.carry;
}
