use Rattle.std.proofs.Common.{length, arith, ap, ◌∙◌}
use Rattle.laws.proofs.OneByOne.{begins, one_more, no_more}
use Rattle.laws.proofs.Lending.{next, fits}
use Rattle.listing.proofs.Walking.{at_first, found_left, none_left}
use Rattle.listing.specs.Cursors.{items_from}
use Rattle.listing.proofs.call.put_items.Goals as goal

pub loop-item-init : goal.loop-item-init
loop-item-init c = begins (ap (items_from c.args.x) c.new-c.ensures ∙ at_first c.args.x) c.requires c.well_formed.0.0

pub put_item-n-requires : goal.put_item-n-requires
put_item-n-requires c = fits (one_more _ _ (found_left c.args.x c.loop-item.c c.next.ensures c.in-Some.is) c.loop-item.invariant)

pub loop-item-smaller : goal.loop-item-smaller
loop-item-smaller c = omega (arith, ap length (found_left c.args.x c.loop-item.c c.next.ensures c.in-Some.is))

pub loop-item-preserved : goal.loop-item-preserved
loop-item-preserved c =
    next (one_more _ _ (found_left c.args.x c.loop-item.c c.next.ensures c.in-Some.is) c.loop-item.invariant) c.put_item-n.ensures

pub returns : goal.returns
returns c = no_more (none_left c.args.x c.loop-item.c c.next.ensures c.in_default.is) c.loop-item.invariant
