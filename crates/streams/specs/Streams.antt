-- Files and records that arrive one after the other: what a whole stream means, and the reader that is handed any chunks of it.
use Rattle.std.specs.Prelude.{ℕ, zero, suc, List, [], ◌∷◌, ◌++◌, Bool, true, false, cond, length, get_or, take, drop, replicate, ltb, eqb}
use Rattle.registers.specs.Files.{file_length, is_file}
use Rattle.record.specs.Records.{record_length}
use Rattle.definition.specs.Limits.{most_bytes}
use Rattle.definition.specs.Visits.{visit_of, number_of, opcode_of, count_of}
use Rattle.definition.specs.declared.Answer.{Answer}
use Rattle.streams.specs.Cuts.{Saying, quiet, told, told_of, Reader, reader, halted, Fed, waits, says, stops, fed_from, closing_of}
use Rattle.streams.specs.declared.Call.{Call}

-- THE KINDS. By the kind: whether an item is a file; and its length, 0 for an unknown kind
unfoldable pub of_file : ℕ → Bool
of_file k = ltb 0 (file_length k)

unfoldable pub length_of : ℕ → ℕ
length_of k = cond (of_file k) (file_length k) (record_length k)

-- what a finished record, a bad file or an unknown kind is answered
pub record Said : Type 0 where
  pub number : ℕ
  pub log : List ℕ
  pub opcode : ℕ

abbrev pub plainly : ℕ → Said
plainly k = record { number = k; log = []; opcode = 0 }

abbrev pub unknown_kind : Said
unknown_kind = plainly 1

abbrev pub bad_file : Said
bad_file = plainly 3

-- what a visit said that wrote from a start on
abbrev pub said_at : ℕ → Answer × List ℕ → Said
said_at s o = record { number = number_of o.0; log = take (count_of o.0) (drop s o.1); opcode = opcode_of o.0 }

-- a record under the latest good file's bytes, [] where there is none: visiting's own answer, with room for every log
unfoldable pub record_says : List ℕ → List ℕ → Said
record_says f b = said_at 0 (visit_of b f (replicate most_bytes 0) 0)

-- what an item means: a good file is the latest from now on, a bad one is refused 3 and the earlier stays, a record is visited
unfoldable pub meaning : List ℕ → List ℕ → List ℕ × Saying Said
meaning f item =
    cond (of_file (get_or item 0 0)) (cond (is_file item) (item, quiet) (f, told bad_file)) (f, told (record_says f item))

-- THE WHOLE STREAM, which says nothing of chunks: its answers up to and with the first unknown kind, and how it ends: 0 behind an
-- item, 8 inside one, 1 at an unknown kind
unfoldable pub answers_of : List ℕ → List Said
answers_of x = (told_of length_of meaning unknown_kind [] x).answers

unfoldable pub ending_of : List ℕ → ℕ
ending_of x = (told_of length_of meaning unknown_kind [] x).closing

-- THE READER: the kept bytes of the unfinished item, the latest good file's bytes, and whether it has stopped
abbrev pub StreamReader : Type 0
StreamReader = Reader (List ℕ)

abbrev pub fresh : StreamReader
fresh = reader [] []

-- what a call answers, the log that it writes, and the reader that it leaves
pub record Outcome : Type 0 where
  pub call : Call
  pub log : List ℕ
  pub next : StreamReader

abbrev pub unfinished : ℕ → ℕ → ℕ → StreamReader → Outcome
unfinished k t m r = record { call = record { number = k; finished = false; taken = t; n = m; opcode = 0 }; log = []; next = r }

abbrev pub finishing : Said → ℕ → StreamReader → Outcome
finishing a t r =
    record { call = record { number = a.number; finished = true; taken = t; n = length a.log; opcode = a.opcode }; log = a.log; next = r }

-- what a chunk of so many bytes did, as a call answers it
abbrev pub outcome_of : ℕ → Fed (List ℕ) Said → Outcome
outcome_of n (waits f l) = unfinished 0 n 0 (reader f l)
outcome_of n (says a f t) = finishing a t (reader f [])
outcome_of n (stops f t) = unfinished 1 t 0 (halted f)

-- a chunk is handed over, with so many bytes of room from the start on: a stopped reader's 1, the early 7, and then the chunk up to the
-- first answer
unfoldable pub feed : StreamReader → List ℕ → ℕ → Outcome
feed r c room =
    cond r.stopped (unfinished 1 0 0 r)
    (cond (ltb room most_bytes) (unfinished 7 0 most_bytes r)
    (outcome_of (length c) (fed_from length_of meaning r.file r.kept c)))

unfoldable pub close : StreamReader → ℕ × StreamReader
close r = (closing_of r, fresh)

-- A DRIVER hands a chunk over until it is taken, and gathers what finished and the first 1
abbrev pub said_in : Outcome → Said
said_in o = record { number = o.call.number; log = o.log; opcode = o.call.opcode }

abbrev pub on_call : Outcome → (ℕ → StreamReader → List Said × StreamReader) → List Said × StreamReader
on_call o go =
    cond o.call.finished (said_in o ∷ (go o.call.taken o.next).0, (go o.call.taken o.next).1)
    (cond (eqb o.call.number 1) (said_in o ∷ [], o.next) ([], o.next))

-- each finished answer takes a byte, so a chunk's length and one more is fuel enough
unfoldable pub driven : ℕ → ℕ → StreamReader → List ℕ → List Said × StreamReader
driven room zero r c = ([], r)
driven room (suc k) r c = on_call (feed r c room) (λ t s. driven room k s (drop t c))

unfoldable pub driven_all : ℕ → StreamReader → List (List ℕ) → List Said × StreamReader
driven_all room r [] = ([], r)
driven_all room r (c ∷ cs) =
    let h = cond r.stopped ([], r) (driven room (suc (length c)) r c) in
    let k = driven_all room h.1 cs in
    (h.0 ++ k.0, k.1)
