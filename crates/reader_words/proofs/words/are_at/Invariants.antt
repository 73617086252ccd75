use Rattle.std.proofs.Common.{◌≡◌, ◌+◌, ◌*◌, ◌<◌, ℕ}
use Rattle.std.specs.Prelude.{get_or}
use Rattle.laws.specs.Words.{number_at}
use Rattle.reader_words.proofs.words.are_at.Given as goal

abbrev pub invariant-loop-i : goal.invariant-loop-i
invariant-loop-i l = (j : ℕ) → j < l.i → get_or l.fn.words (l.fn.from + j) 0 ≡ number_at l.fn.room (8 * j) 8
