use Rattle.std.proofs.Common.{length, [], ◌∷◌}
use Rattle.laws.proofs.Lending.{Going}
use Rattle.definition.specs.Listings.{items_of, item_bytes}
use Rattle.listing.specs.Cursors.{items_from}
use Rattle.listing.proofs.call.put_items.Given as goal

-- the items that are left at the cursor are still to be written
abbrev pub invariant-loop-item : goal.invariant-loop-item
invariant-loop-item l = Going item_bytes (items_of l.fn.x) (items_from l.fn.x l.c ∷ []) l.fn.out l.out l.n

abbrev pub decreases-loop-item : goal.decreases-loop-item
decreases-loop-item l = length (items_from l.fn.x l.c)
