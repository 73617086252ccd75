use Rattle.std.proofs.Common.{ℕ, sym, ap, ◌∙◌, arith}
use Rattle.registers.specs.Banks.{reg}
use Rattle.registers.specs.Files.{part_of}
use Rattle.fetch.specs.Parts.{held_slot}
use Rattle.fetch.proofs.Held.{general_slot, pointer_slot, vector_slot, other_slot}
use Rattle.fetch.proofs.slots.slot_of.Goals as goal

pub returns-in-4 : goal.returns-in-4
returns-in-4 c =
    let y = c.args.y in
    c.byte_slot.ensures ∙ ap (λ (b : ℕ). held_slot (part_of (reg b y.number)).slot) (sym c.in-4.is)

pub returns-in-13 : goal.returns-in-13
returns-in-13 c =
    let y = c.args.y in
    c.base_slot.ensures ∙ ap (λ (b : ℕ). held_slot (part_of (reg b y.number)).slot) (sym c.in-13.is)

pub returns-in-0-to-3 : goal.returns-in-0-to-3
returns-in-0-to-3 c = let y = c.args.y in c.slot_below.ensures ∙ general_slot y.bank y.number (omega arith)

pub returns-in-9-to-10 : goal.returns-in-9-to-10
returns-in-9-to-10 c =
    let y = c.args.y in
    c.slot_below-in-9-to-10.ensures ∙ pointer_slot y.bank y.number (omega arith) (omega arith)

pub returns-in_default : goal.returns-in_default
returns-in_default c = let y = c.args.y in vector_slot y.bank y.number (omega arith) (omega arith)

pub returns-in_default-2 : goal.returns-in_default-2
returns-in_default-2 c =
    let y = c.args.y in
    other_slot y.bank y.number (omega arith) (omega arith)
