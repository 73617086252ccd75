use Rattle.listing.proofs.Walking.{operand_found, slot_found}
use Rattle.listing.proofs.cursor.implicit_next.Goals as goal

pub returns-in-Some-Operand : goal.returns-in-Some-Operand
returns-in-Some-Operand c =
    let arm = c.in-Some-Operand in
    operand_found c.args.x c.args.i c.implicit_entry.ensures arm.is arm.field-0-is (cc)

pub returns-in-Some-Slot : goal.returns-in-Some-Slot
returns-in-Some-Slot c =
    let arm = c.in-Some-Slot in
    slot_found c.args.x c.args.i c.implicit_entry.ensures arm.is arm.field-0-is (cc)
