-- A reader as the 48 words that a C caller keeps: 20 words of the unfinished item's bytes and 20 of the latest good file's, lowest byte
-- first and zero bytes behind; how many bytes each has; 1 where the reader has stopped; and words that are 0.
use Rattle.std.specs.Prelude.{ℕ, zero, suc, ◌≡◌, ◌+◌, ◌*◌, ◌<◌, List, [], ◌∷◌, ◌++◌, Bool, true, cond, not, ◌&&◌, length, get_or, replicate, eqb}
use Rattle.laws.specs.Words.{number_at, little}
use Rattle.registers.specs.Files.{numbers_from}
use Rattle.answers.specs.Answers.{at}
use Rattle.streams.specs.Cuts.{halted}
use Rattle.streams.specs.Streams.{StreamReader, fresh, close}
use Rattle.streams.specs.declared.Call.{Call}
use Rattle.reader.specs.Held.{reader_in, Handed}
use Rattle.reader.specs.declared.held.Numbers.{Numbers}

abbrev pub reader_words : ℕ
reader_words = 48

-- the words of a place
abbrev pub place_words : ℕ
place_words = 20

-- the bytes of a place, and its words
unfoldable pub bytes_from : List ℕ → ℕ → ℕ → List ℕ
bytes_from w i zero = []
bytes_from w i (suc n) = little 8 (get_or w i 0) ++ bytes_from w (i + 1) n

unfoldable pub bytes_in : List ℕ → ℕ → List ℕ
bytes_in w from = bytes_from w from place_words

unfoldable pub words_in : List ℕ → List ℕ
words_in l = numbers_from l 0 place_words

-- the words from a place on are those of these bytes
abbrev pub AreAt : List ℕ → ℕ → List ℕ → Type 0
AreAt w from b = (i : ℕ) → i < place_words → get_or w (from + i) 0 ≡ number_at b (8 * i) 8

-- the words of a reader
unfoldable pub words_of : StreamReader → List ℕ
words_of r =
    words_in r.kept ++ (words_in r.file ++ (length r.kept ∷ length r.file ∷ cond r.stopped 1 0 ∷ replicate 5 0))

-- the reader that words tell of
abbrev pub numbers_in : List ℕ → Numbers
numbers_in w = record { kept = get_or w 40 0; file = get_or w 41 0; stopped = not (eqb (get_or w 42 0) 0) }

unfoldable pub told_by : List ℕ → StreamReader
told_by w = reader_in (numbers_in w) (bytes_in w 0) (bytes_in w place_words)

-- the first n words are the same
unfoldable pub same_words : List ℕ → List ℕ → ℕ → Bool
same_words v w zero = true
same_words v w (suc n) = same_words v w n && eqb (get_or v n 0) (get_or w n 0)

-- words that are those of no reader count as a stopped one
unfoldable pub reader_by : List ℕ → StreamReader
reader_by w = cond (same_words (words_of (told_by w)) w reader_words) (told_by w) (halted [])

-- reader_read: 0-7 number, 8-23 the opcode after 4, 24 finished, 32-63 the log's length, or after 7 the bytes needed
abbrev pub call_bits : Call → ℕ
call_bits a = a.number + at 8 a.opcode + at 24 (cond a.finished 1 0) + at 32 a.n

-- what a call leaves: its number, the bytes taken, the reader's words and the log buffer
abbrev pub handed_words : Handed → ℕ × ℕ × List ℕ × List ℕ
handed_words h = (call_bits h.call, h.call.taken, words_of h.next, h.buffer)

-- what making a new reader answers, and its words
abbrev pub fresh_words : ℕ × List ℕ
fresh_words = (0, words_of fresh)

-- what closing answers, and the words that it leaves
abbrev pub closed_words : StreamReader → ℕ × List ℕ
closed_words r = ((close r).0, words_of (close r).1)
