-- A session as the three words that a C caller keeps: bytes used, events, memory events at unknown addresses.
use Rattle.std.specs.Prelude.{ℕ, List, [], ◌∷◌, slice_index}
use Rattle.definition.specs.declared.Answer.{Answer}
use Rattle.answers.specs.Answers.{answer_bits}
use Rattle.session.specs.declared.appends.Session.{Session}
use Rattle.session.specs.Sessions.{empty, Held}

abbrev pub session_in : List ℕ → Session
session_in l = record { used = slice_index l 0; events = slice_index l 1; unknown = slice_index l 2 }

abbrev pub words_of : Session → List ℕ
words_of s = s.used ∷ s.events ∷ s.unknown ∷ []

-- an append: its answer in bits, the words of the session after it, and the buffer
abbrev pub in_words : Answer × Held → ℕ × (List ℕ × List ℕ)
in_words o = (answer_bits o.0, (words_of o.1.0, o.1.1))

-- a reset: 0, and the words of an empty session
abbrev pub empty_words : ℕ × List ℕ
empty_words = (0, words_of empty)
