-- What is written and the lines from number k on are all lines.
use Rattle.std.proofs.Common.{◌+◌, ◌-◌, [], ◌∷◌}
use Rattle.laws.proofs.Lending.{Going}
use Rattle.decimal.specs.Words.{word_bytes}
use Rattle.printing.specs.Texts.{count_lines}
use Rattle.printing.proofs.report.put_counts.Given as goal

abbrev pub invariant-loop-k : goal.invariant-loop-k
invariant-loop-k l =
    Going word_bytes (count_lines l.letter l.base l.first l.count l.words)
    (count_lines l.letter l.base l.k (l.first + l.count - l.k) l.words ∷ []) l.initial.out l.out l.n
