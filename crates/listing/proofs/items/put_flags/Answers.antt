use Rattle.std.proofs.Common.{[], ◌∷◌, refl}
use lib.Seq.{sets-eq}
use Rattle.access.specs.Accesses.{access_number}
use Rattle.definition.specs.Listings.{item_bytes}
use Rattle.listing.proofs.items.put_flags.Goals as goal

pub returns : goal.returns
unfolding item_bytes
returns c = rw c.to_bits.ensures (refl, sets-eq (0x41 ∷ access_number c.args.a ∷ []) c.args.out.now 0 c.requires)
