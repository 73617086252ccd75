-- WHAT IS PROMISED of a reader's words, each statement after its sentence. proofs/Proved.antt proves them.
use Rattle.std.specs.Prelude.{ℕ, ◌^◌, ◌<◌, ◌≡◌, ◌⊎◌, List, [], cond, length}
use Rattle.answers.specs.Promises.{bits_at}
use Rattle.event.specs.Held.{Bytes}
use Rattle.streams.specs.Cuts.{halted}
use Rattle.streams.specs.Streams.{StreamReader, fresh}
use Rattle.streams.specs.Promises.{Sound}
use Rattle.streams.specs.declared.Call.{Call}
use Rattle.reader.specs.Held.{handed_to}
use Rattle.reader_words.specs.Words.{reader_words, words_of, reader_by, call_bits, fresh_words}

-- A reader that calls leave is read back from its words: so calls over words are calls over readers. (Crate `streams` has that calls
-- leave sound readers sound, and bytes bytes.)
abbrev pub WordsAreKept : Type 0
WordsAreKept = (r : StreamReader) → Sound r → Bytes r.kept → Bytes r.file → reader_by (words_of r) ≡ r

-- So from a new reader on, whatever chunks of bytes are handed over, the words that a call leaves are the reader that it leaves.
abbrev pub NewIsFresh : Type 0
NewIsFresh = reader_by fresh_words.1 ≡ fresh

abbrev pub CallsGoOn : Type 0
CallsGoOn =
    (r : StreamReader) (c log : List ℕ) (start : ℕ) → Sound r → Bytes r.kept → Bytes r.file → Bytes c
    → reader_by (words_of (handed_to r c log start).next) ≡ (handed_to r c log start).next

-- Words that are those of no reader count as a stopped one.
abbrev pub OtherWordsStop : Type 0
OtherWordsStop = (w : List ℕ) → length w ≡ reader_words → (words_of (reader_by w) ≡ w) ⊎ (reader_by w ≡ halted [])

-- A CALL'S ANSWER UNPACKS. Its number, the opcode, whether something finished and n are read back from its bits.
abbrev pub CallUnpacks : Type 0
CallUnpacks =
    (a : Call) → a.number < 2 ^ 8 → a.opcode < 2 ^ 16 → a.n < 2 ^ 32
    → (bits_at 0 8 (call_bits a) ≡ a.number)
    × (bits_at 8 16 (call_bits a) ≡ a.opcode)
    × (bits_at 24 1 (call_bits a) ≡ cond a.finished 1 0)
    × (bits_at 32 32 (call_bits a) ≡ a.n)
