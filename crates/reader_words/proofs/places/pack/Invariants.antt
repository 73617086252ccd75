use Rattle.std.proofs.Common.{◌≡◌, ◌+◌}
use Rattle.std.proofs.lemmas.List.Edits.{sets}
use Rattle.reader_words.specs.Words.{words_in}
use Rattle.reader_words.proofs.Packing.{to_come}
use Rattle.reader_words.proofs.places.pack.Given as goal

abbrev pub invariant-loop-i : goal.invariant-loop-i
invariant-loop-i l = sets l.words (l.fn.from + l.i) (to_come l.room l.i) ≡ sets l.fn.words l.fn.from (words_in l.room)
