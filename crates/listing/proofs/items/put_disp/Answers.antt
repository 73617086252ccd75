use Rattle.std.proofs.Common.{[], ◌∷◌, refl}
use Rattle.laws.specs.Words.{little}
use Rattle.definition.specs.Listings.{operand_bytes}
use Rattle.listing.proofs.Writing.{displaced}
use Rattle.listing.proofs.items.put_disp.Goals as goal

pub returns : goal.returns
unfolding operand_bytes little
returns c =
    let s = c.args in
    let w = c.put_register.ensures in
    (refl, displaced (0x44 ∷ s.y.bank ∷ s.y.number ∷ []) s.d s.out.now refl w.1 c.put_u32.ensures)
