use Rattle.std.proofs.Common.{ap, sym, ◌∙◌}
use Rattle.record.proofs.Laws.{record_long, passed}
use Rattle.definition.specs.Behaviors.{fixed_up}
use Rattle.fetch.proofs.Records.{not_refused, is_refused_lem, record_passes, refused, good_record}
use Rattle.fetch.proofs.needs.with_record.Goals as goal

pub returns-then-is_refused : goal.returns-then-is_refused
returns-then-is_refused c =
    let b = c.args.b.now in
    refused b c.args.set (is_refused_lem b (sym c.is_refused.ensures ∙ c.if-is_refused.true))

pub parse-requires : goal.parse-requires
parse-requires c =
    let b = c.args.b.now in
    record_long b (passed b (record_passes b (not_refused b (sym c.is_refused.ensures ∙ c.if-is_refused.false)))).is

pub returns : goal.returns
returns c =
    let b = c.args.b.now in
    good_record b c.args.set (not_refused b (sym c.is_refused.ensures ∙ c.if-is_refused.false)) (c.fixed_up-x.ensures ∙ ap fixed_up c.parse.ensures) c.with_list.ensures c.with_operands.ensures
