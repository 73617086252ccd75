-- WHAT IS PROMISED of the exported calls, each statement after its sentence. proofs/Proved.antt proves them all.
use Rattle.std.specs.Prelude.{ℕ, List}
use Rattle.laws.specs.Outcomes.{OneOutcome}
use Rattle.event.specs.Counts.{counted_of}
use Rattle.definition.specs.Behaviors.{digest_call, privilege_call, exceptions_call}
use Rattle.definition.specs.Listings.{listing_call}
use Rattle.definition.specs.Readings.{read_at}
use Rattle.definition.specs.Visits.{visit_of}
use Rattle.difference.specs.Partings.{parted_of}
use Rattle.block.specs.Bits.{in_bits}
use Rattle.block.specs.Blocks.{block_call}
use Rattle.session.specs.Sessions.{appended}
use Rattle.session.specs.Words.{session_in, in_words, empty_words}
use Rattle.totals.specs.Sheets as sheet
use Rattle.reader.specs.Held.{handed_to}
use Rattle.reader_words.specs.Words.{reader_by, handed_words, fresh_words, closed_words}
use Rattle.watching.specs.Traces.{new_of, step_of, after_step}
use Rattle.watching.specs.Verdicts.{variable, name_at}
use Rattle.fetching.specs.Judging.{judge_call, propose_call}
use Rattle.fetch.specs.Answers.{judgement_bits, proposal_bits}
use Rattle.answers.specs.Answers.{packed, digest_bits, privilege_bits, exception_bits, event_bits, difference_bits}
use Rattle.watch_words.specs.Bits.{stepped_bits, naming_bits}
use Rattle.watch_words.specs.Words.{watch_in, words_of, new_words}

-- ONE OUTCOME. Any two outcomes that the contract of an exported call allows are equal: the number, every byte lent and every word kept.
-- So are those of the count of a log's events.
abbrev pub EveryExportDetermined : Type 0
EveryExportDetermined =
    (b f p words : List ℕ) (s address length : ℕ)
    → OneOutcome (packed (visit_of b f p s))
    × OneOutcome (packed (listing_call b p s))
    × OneOutcome (digest_bits (digest_call b))
    × OneOutcome (privilege_bits (privilege_call b))
    × OneOutcome (exception_bits (exceptions_call b))
    × OneOutcome (event_bits s (read_at p s))
    × OneOutcome (counted_of p)
    × OneOutcome {A = ℕ × ℕ} (difference_bits (parted_of f p), (parted_of f p).at)
    × OneOutcome (new_words (new_of address length) words)
    × OneOutcome {A = ℕ × List ℕ} (stepped_bits (step_of (watch_in words) (b, f)), words_of (after_step (watch_in words) (b, f)))
    × OneOutcome (naming_bits s (name_at (variable address length) p s))
    × OneOutcome (in_words (appended b f (session_in words, p)))
    × OneOutcome empty_words
    × OneOutcome (in_bits (block_call length b f p s words))
    × OneOutcome (sheet.new_of words address length)
    × OneOutcome (sheet.add_of words p)
    × OneOutcome (judgement_bits (judge_call b length address))
    × OneOutcome (proposal_bits (propose_call b length))
    × OneOutcome fresh_words
    × OneOutcome (handed_words (handed_to (reader_by words) b p s))
    × OneOutcome (closed_words (reader_by words))
