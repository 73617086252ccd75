use Rattle.laws.proofs.OneByOne.{logged}
use Rattle.definition.specs.declared.Item.TheVariants.{Flags, Explicit}
use Rattle.definition.specs.Listings.{item_bytes}
use Rattle.listing.proofs.Writing.{one_room}
use Rattle.listing.proofs.items.put_item.Goals as goal

pub put_flags-requires : goal.put_flags-requires
unfolding item_bytes
put_flags-requires c = one_room item_bytes c.in-Flags.is c.requires

pub put_explicit-requires : goal.put_explicit-requires
unfolding item_bytes
put_explicit-requires c = one_room item_bytes c.in-Explicit.is c.requires

pub returns-in-Flags : goal.returns-in-Flags
unfolding item_bytes
returns-in-Flags c = rw c.in-Flags.is (logged item_bytes (Flags _) c.put_flags.ensures)

pub returns-in-Explicit : goal.returns-in-Explicit
unfolding item_bytes
returns-in-Explicit c = rw c.in-Explicit.is (logged item_bytes (Explicit _ _ _) c.put_explicit.ensures)
