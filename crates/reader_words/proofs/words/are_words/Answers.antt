use Rattle.std.proofs.Common.{◌≡◌, sym, ◌∙◌, [], ◌∷◌, length}
use mathlib.Core.Bool.{true≢false}
use lib.Pointwise.{bytes_decides}
use Rattle.reader.specs.Held.{reader_with}
use Rattle.reader_words.proofs.Ordered.{bit_is}
use Rattle.reader_words.proofs.Told.{all_told, kept_was, file_was, numbers_were, told}
use Rattle.reader_words.proofs.words.are_words.Goals as goal

pub returns-then-not-are_at-clause-other : goal.returns-then-not-are_at-clause-other
returns-then-not-are_at-clause-other c f z =
    c.are_at.ensures.other c.if-not-are_at.true (rw c.room.ensures (kept_was c.args.words.now (reader_with c.args.r.now) c.told-words z))

pub returns-then-not-are_at-2-clause-other : goal.returns-then-not-are_at-2-clause-other
returns-then-not-are_at-2-clause-other c f z =
    c.are_at-2.ensures.other c.if-not-are_at-2.true (rw c.room-2.ensures (file_was c.args.words.now (reader_with c.args.r.now) c.told-words z))

pub returns-clause-same : goal.returns-clause-same
returns-clause-same c t =
    let w = c.args.words.now in
    let v = told w (reader_with c.args.r.now) c.told-words in
    let n = length c.bytes.result.now ∷ length c.bytes-2.result.now ∷ c.from.result ∷ 0 ∷ 0 ∷ 0 ∷ 0 ∷ 0 ∷ [] in
    let p = rw c.room.ensures at (c.are_at.ensures.same c.if-not-are_at.false) in
    let q = rw c.room-2.ensures at (c.are_at-2.ensures.same c.if-not-are_at-2.false) in
    let same : v ≡ n = (bytes_decides v n).0 (sym c.eq.ensures ∙ t) in
    let e = rw (c.bytes.ensures.kept, c.bytes-2.ensures.kept, c.from.ensures, bit_is c.args.r.now.stopped) at same in
    all_told w (reader_with c.args.r.now) c.told-words p q e

pub returns-clause-other : goal.returns-clause-other
returns-clause-other c f z =
    let w = c.args.words.now in
    let v = told w (reader_with c.args.r.now) c.told-words in
    let n = length c.bytes.result.now ∷ length c.bytes-2.result.now ∷ c.from.result ∷ 0 ∷ 0 ∷ 0 ∷ 0 ∷ 0 ∷ [] in
    let same : v ≡ n = rw (c.bytes.ensures.kept, c.bytes-2.ensures.kept, c.from.ensures, bit_is c.args.r.now.stopped) (numbers_were w (reader_with c.args.r.now) c.told-words z) in
    true≢false (sym ((bytes_decides v n).1 same) ∙ (sym c.eq.ensures ∙ f))
