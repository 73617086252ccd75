use Rattle.std.proofs.Common.{◌≡◌, [], cond, refl, sym, ap, ◌∙◌}
use Rattle.access.specs.Accesses.{reading, writing}
use Rattle.digest.proofs.Laws.{operand_number}
use Rattle.sets.specs.Sets.{joined}
use Rattle.definition.specs.Behaviors.{operand_at}
use Rattle.fetch.specs.Parts.{loads_at, shape_needs}
use Rattle.fetch.proofs.Parts.{is_loaded, lea_loads, not_loaded, operand_joined}
use Rattle.fetch.proofs.operands.with_operand.Goals as goal
use Rattle.fetch.proofs.operands.with_operand.Goals.{then-is_read+then-x-ne-LEA, else-is_read, else-is_read-via-then-is_read+else-x-ne-LEA, else-is_read-via-else-is_read}

pub returns-then-is_write : goal.returns-then-is_write
unfolding joined
returns-then-is_write c =
    let a = c.args in
    let o = operand_at a.x a.i in
    let number = operand_number a.x.digest a.i c.operand_access-access.ensures in
    let shaped = c.spec-spec.ensures in
    let loaded : c.if-is_read.joined ≡ joined a.set (cond (loads_at a.x c.is_read.result) (shape_needs a.x o.shape) []) =
    elim c.if-is_read.branch [
      | then-is_read+then-x-ne-LEA w ↦ rw (w.joined-is, is_loaded a.x c.is_read.result (shape_needs a.x o.shape) w.if-is_read.true w.if-x-ne-LEA.true) (rw shaped at w.with_access-joined.ensures)
      | else-is_read w ↦
          elim w.else-is_read.branch [
            | else-is_read-via-then-is_read+else-x-ne-LEA w' ↦ rw (w.joined-is, lea_loads a.x c.is_read.result (shape_needs a.x o.shape) w'.if-x-ne-LEA.false)
            | else-is_read-via-else-is_read w' ↦ rw (w.joined-is, not_loaded a.x c.is_read.result (shape_needs a.x o.shape) w'.if-is_read.false)
          ]
    ] in
    operand_joined a.set a.x o
    (ap (loads_at a.x) (c.is_read.ensures ∙ ap reading number))
    (sym c.if-is_write.true ∙ c.is_write.ensures ∙ ap writing number)
    loaded
    (rw shaped at c.with_access-joined-then-is_write.ensures)

pub returns-else-is_write : goal.returns-else-is_write
unfolding joined
returns-else-is_write c =
    let a = c.args in
    let o = operand_at a.x a.i in
    let number = operand_number a.x.digest a.i c.operand_access-access.ensures in
    let shaped = c.spec-spec.ensures in
    let loaded : c.if-is_read.joined ≡ joined a.set (cond (loads_at a.x c.is_read.result) (shape_needs a.x o.shape) []) =
    elim c.if-is_read.branch [
      | then-is_read+then-x-ne-LEA w ↦ rw (w.joined-is, is_loaded a.x c.is_read.result (shape_needs a.x o.shape) w.if-is_read.true w.if-x-ne-LEA.true) (rw shaped at w.with_access-joined.ensures)
      | else-is_read w ↦
          elim w.else-is_read.branch [
            | else-is_read-via-then-is_read+else-x-ne-LEA w' ↦ rw (w.joined-is, lea_loads a.x c.is_read.result (shape_needs a.x o.shape) w'.if-x-ne-LEA.false)
            | else-is_read-via-else-is_read w' ↦ rw (w.joined-is, not_loaded a.x c.is_read.result (shape_needs a.x o.shape) w'.if-is_read.false)
          ]
    ] in
    operand_joined a.set a.x o
    (ap (loads_at a.x) (c.is_read.ensures ∙ ap reading number))
    (sym c.if-is_write.false ∙ c.is_write.ensures ∙ ap writing number)
    loaded
    refl
