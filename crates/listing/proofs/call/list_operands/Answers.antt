-- Refused for its bytes, complex, or by its room.
use Rattle.std.proofs.Common.{sym, ◌∙◌}
use Rattle.laws.proofs.Answered.{passed, answered_is, refused_not}
use Rattle.record.proofs.Laws.{number_read}
use Rattle.listing.proofs.Calls.{turned_down, complex_one_lem, by_room_lem}
use Rattle.listing.proofs.call.list_operands.Goals as goal

pub returns-in-Err : goal.returns-in-Err
returns-in-Err c =
    let s = c.args in
    turned_down s.b.now s.out.now s.start
    (c.from.ensures ∙ number_read s.b.now _ c.from_bytes.ensures c.in-Err.is) (refused_not _ _ c.from_bytes.ensures c.in-Err.is)

pub returns-then-is_complex : goal.returns-then-is_complex
returns-then-is_complex c =
    let s = c.args in
    complex_one_lem s.b.now s.out.now s.start
    (passed _ _ c.from_bytes.ensures c.in-Ok.is) (answered_is _ _ c.from_bytes.ensures c.in-Ok.is)
    c.fixed_up-x.ensures (sym c.is_complex.ensures ∙ c.if-is_complex.true)

pub returns : goal.returns
returns c =
    let s = c.args in
    c.list_record.ensures
    ∙ by_room_lem s.b.now s.out.now s.start
    (passed _ _ c.from_bytes.ensures c.in-Ok.is) (answered_is _ _ c.from_bytes.ensures c.in-Ok.is)
    c.fixed_up-x.ensures (sym c.is_complex.ensures ∙ c.if-is_complex.false)
