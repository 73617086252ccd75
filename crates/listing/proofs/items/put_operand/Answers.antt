use Rattle.laws.specs.Words.{little}
use Rattle.laws.proofs.OneByOne.{logged}
use Rattle.implicit.specs.declared.ImplicitOperand.TheVariants.{Register, MemDeref, Disp, MemBaseIndexScale}
use Rattle.definition.specs.Listings.{operand_bytes}
use Rattle.listing.proofs.Writing.{one_room}
use Rattle.listing.proofs.items.put_operand.Goals as goal

pub put_register-requires : goal.put_register-requires
unfolding operand_bytes
put_register-requires c = one_room operand_bytes c.in-Register.is c.requires

pub put_register-requires-in-MemDeref : goal.put_register-requires-in-MemDeref
unfolding operand_bytes
put_register-requires-in-MemDeref c = one_room operand_bytes c.in-MemDeref.is c.requires

pub put_disp-requires : goal.put_disp-requires
unfolding operand_bytes little
put_disp-requires c = one_room operand_bytes c.in-Disp.is c.requires

pub put_base_index-requires : goal.put_base_index-requires
unfolding operand_bytes
put_base_index-requires c = one_room operand_bytes c.in-MemBaseIndexScale.is c.requires

pub returns-in-Register : goal.returns-in-Register
unfolding operand_bytes
returns-in-Register c = rw c.in-Register.is (logged operand_bytes (Register _) c.put_register.ensures)

pub returns-in-MemDeref : goal.returns-in-MemDeref
unfolding operand_bytes
returns-in-MemDeref c = rw c.in-MemDeref.is (logged operand_bytes (MemDeref _) c.put_register-in-MemDeref.ensures)

pub returns-in-Disp : goal.returns-in-Disp
unfolding operand_bytes little
returns-in-Disp c = rw c.in-Disp.is (logged operand_bytes (Disp _ _) c.put_disp.ensures)

pub returns-in-MemBaseIndexScale : goal.returns-in-MemBaseIndexScale
unfolding operand_bytes
returns-in-MemBaseIndexScale c = rw c.in-MemBaseIndexScale.is (logged operand_bytes (MemBaseIndexScale _ _ _) c.put_base_index.ensures)
