use Rattle.definition.specs.Listings.{operand_bytes}
use lib.Seq.{sets-eq}
use mathlib.Core.List.{◌∷◌, []}
use mathlib.Core.Path.{refl}
use Rattle.listing.proofs.items.put_base_index.Goals as goal

pub returns : goal.returns
unfolding operand_bytes
returns c = (refl, sets-eq (0x45 ∷ c.args.y.bank ∷ c.args.y.number ∷ c.args.z.bank ∷ c.args.z.number ∷ c.args.k ∷ []) c.args.out.now 0 c.requires)
