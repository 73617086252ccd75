use Rattle.reader_words.proofs.Holding.{told_from, held_by, held_by_none}
use Rattle.reader_words.proofs.words.hold.Goals as goal

pub returns-then-not-are_words : goal.returns-then-not-are_words
returns-then-not-are_words c =
    let w = c.args.words.now in
    let told = told_from w c.unpack.result c.unpack-2.result _ c.hold.ensures c.unpack.ensures c.unpack-2.ensures in
    held_by_none w c.hold.new.self told c.told-words (c.are_words.ensures.other c.if-not-are_words.true) c.halt.new.self c.halt.ensures

pub returns-else-not-are_words : goal.returns-else-not-are_words
returns-else-not-are_words c =
    let w = c.args.words.now in
    let told = told_from w c.unpack.result c.unpack-2.result _ c.hold.ensures c.unpack.ensures c.unpack-2.ensures in
    held_by w c.hold.new.self told (c.are_words.ensures.same c.if-not-are_words.false)
