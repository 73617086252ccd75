-- An acceptance sheet: totals over logs under one watch, as the 99 words that a caller keeps.
use Rattle.std.specs.Prelude.{ℕ, ◌+◌, ◌%◌, cond, not, List, [], ◌∷◌, length, replicate, ◌==◌, nat_le, nat_lt, slice_index, slice_set}
use Rattle.laws.specs.Lists.{each}
use Rattle.laws.specs.Refusals.{refused_by}
use Rattle.definition.specs.Addresses.{word}
use Rattle.definition.specs.declared.Event.{Event}
use Rattle.definition.specs.declared.Event.TheVariants.{RegisterRead, RegisterWrite, MemoryRead, MemoryWrite, UnknownRead, UnknownWrite}
use Rattle.event.specs.Wholes.{whole_of, events_in}
use Rattle.event.specs.Counts.{counted_of}
use Rattle.watching.specs.Verdicts.{variable, is_length, store_verdict}
use Rattle.watching.specs.declared.verdicts.Variable.{Variable}
use Rattle.watching.specs.declared.verdicts.Verdict.{Verdict}
use Rattle.watching.specs.declared.verdicts.Verdict.TheVariants.{NoWrite, AddressUnknown, NoneTouched, PartTouched, WholeTouched}

-- the words' places: address and length of the watched variable, logs taken, bytes read, bytes written, part writes, writes at known
-- addresses, then reads and writes by bank, then memory events by size
abbrev pub address_word : ℕ
address_word = 0

abbrev pub length_word : ℕ
length_word = 1

abbrev pub logs_word : ℕ
logs_word = 2

abbrev pub in_word : ℕ
in_word = 3

abbrev pub out_word : ℕ
out_word = 4

abbrev pub part_word : ℕ
part_word = 5

abbrev pub known_word : ℕ
known_word = 6

-- banks 0 to 13, and sizes 1 to 64
abbrev pub banks : ℕ
banks = 14

abbrev pub sizes : ℕ
sizes = 64

abbrev pub reads_word : ℕ → ℕ
reads_word bank = 7 + bank

abbrev pub writes_word : ℕ → ℕ
writes_word bank = 21 + bank

abbrev pub size_word : ℕ → ℕ
size_word n = 34 + n

abbrev pub sheet_words : ℕ
sheet_words = 99

-- a sheet takes so many logs, each of no more than so many bytes
abbrev pub most_logs : ℕ
most_logs = 4294967295

abbrev pub most_log_bytes : ℕ
most_log_bytes = 65536

-- T-04's part writes
abbrev pub parts : Verdict → ℕ
parts NoWrite = 0
parts AddressUnknown = 0
parts NoneTouched = 0
parts PartTouched = 1
parts WholeTouched = 0

-- what an event adds, and to which words
unfoldable pub additions : Variable → Event → List (ℕ × ℕ)
additions v (RegisterRead y) = (reads_word y.bank, 1) ∷ []
additions v (RegisterWrite y) = (writes_word y.bank, 1) ∷ []
additions v (MemoryRead a n) = (size_word n, 1) ∷ (in_word, n) ∷ []
additions v (MemoryWrite a n) = (size_word n, 1) ∷ (out_word, n) ∷ (known_word, 1) ∷ (part_word, parts (store_verdict v a n)) ∷ []
additions v (UnknownRead n) = (size_word n, 1) ∷ (in_word, n) ∷ []
additions v (UnknownWrite n) = (size_word n, 1) ∷ (out_word, n) ∷ []

-- a log of these events adds one log, and what each event adds
unfoldable pub log_adds : Variable → List Event → List (ℕ × ℕ)
log_adds v es = (logs_word, 1) ∷ each (additions v) es

-- a word raised, modulo two to the 64, where there is one; then the next
unfoldable pub raised : List ℕ → ℕ → ℕ → List ℕ
raised w i n = cond (nat_lt i sheet_words) (slice_set w i ((slice_index w i + n) % word)) w

unfoldable pub raised_by : List ℕ → List (ℕ × ℕ) → List ℕ
raised_by w [] = w
raised_by w (p ∷ ps) = raised_by (raised w p.0 p.1) ps

-- the variable that a sheet's words name
abbrev pub variable_in : List ℕ → Variable
variable_in w = variable (slice_index w address_word) (slice_index w length_word)

-- why a log is refused, 0 where it is taken: the limit, whatever the log is; a length that no variable has; more bytes than a log may
-- have; then the log's own number, where it does not read whole
unfoldable pub refusal_of : List ℕ → List ℕ → ℕ
refusal_of w l =
    cond (nat_le most_logs (slice_index w logs_word)) 10
    (cond (not (is_length (slice_index w length_word))) 2
    (cond (nat_lt most_log_bytes (length l)) 2 (refused_by (counted_of l))))

-- a sheet's words after a log that it takes
unfoldable pub taken_by : List ℕ → List ℕ → List ℕ
taken_by w l = raised_by w (log_adds (variable_in w) (events_in (whole_of l)))

-- the number, and the words after it: refused, they stay
unfoldable pub add_of : List ℕ → List ℕ → ℕ × List ℕ
add_of w l = (refusal_of w l, cond (refusal_of w l == 0) (taken_by w l) w)

-- the words of a sheet that has taken nothing
unfoldable pub fresh : Variable → List ℕ
fresh v = v.address ∷ v.length ∷ replicate 97 0

-- a new sheet: the number, and the words after it; a length that no variable has is refused 2
unfoldable pub new_of : List ℕ → ℕ → ℕ → ℕ × List ℕ
new_of w a n = cond (is_length n) (0, fresh (variable a n)) (2, w)

-- the words after logs, from these words on, and from a new sheet's on
unfoldable pub sheet_from : List ℕ → List (List ℕ) → List ℕ
sheet_from w [] = w
sheet_from w (l ∷ ls) = sheet_from (add_of w l).1 ls

unfoldable pub sheet_of : Variable → List (List ℕ) → List ℕ
sheet_of v ls = sheet_from (fresh v) ls
