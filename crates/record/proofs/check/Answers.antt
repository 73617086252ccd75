-- The last two tests: the fields are inside, so the digest decides.
use Rattle.std.proofs.Common.{sym, ◌∙◌}
use Rattle.record.proofs.Laws.{by_digest, undigested, whole}
use Rattle.record.proofs.check.Goals as goal

pub returns-then-lacks_digest : goal.returns-then-lacks_digest
returns-then-lacks_digest c =
    undigested c.args.b.now
    (by_digest c.args.b.now c.if-b-eq0.false c.length_of.ensures c.if-b-length_of.false
    (sym c.if-is_outside.false ∙ c.is_outside.ensures) (sym c.if-lacks_digest.true ∙ c.lacks_digest.ensures))

pub returns : goal.returns
returns c =
    whole c.args.b.now
    (by_digest c.args.b.now c.if-b-eq0.false c.length_of.ensures c.if-b-length_of.false
    (sym c.if-is_outside.false ∙ c.is_outside.ensures) (sym c.if-lacks_digest.false ∙ c.lacks_digest.ensures))
