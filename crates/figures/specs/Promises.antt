-- WHAT IS PROMISED of an acceptance sheet, each statement after its sentence. proofs/Proved.antt proves them all; nothing is assumed.
use Rattle.std.specs.Prelude.{ℕ, ◌+◌, ◌^◌, ◌≤◌, ◌<◌, ◌≡◌, true, false, length, get_or, take, drop, set}
use mathlib.Core.List.{List, [], ◌∷◌, ◌++◌, map, Permᴰ}
use Rattle.laws.specs.Lending.{size}
use Rattle.laws.specs.Refusals.{refusal_number}
use Rattle.laws.specs.declared.refusals.Refusal.{Refusal}
use Rattle.definition.specs.Addresses.{word}
use Rattle.definition.specs.Logs.{event_bytes}
use Rattle.definition.specs.Readings.{Reads}
use Rattle.definition.specs.declared.Event.{Event}
use Rattle.event.specs.Wholes.{Broken}
use Rattle.watching.specs.Verdicts.{is_length, verdict_of}
use Rattle.watching.specs.Tallies.{tally_of}
use Rattle.watching.specs.declared.verdicts.Variable.{Variable}
use Rattle.totals.specs.Sheets.{address_word, length_word, logs_word, in_word, out_word, part_word, known_word, banks, sizes, reads_word, writes_word, size_word, sheet_words, most_logs, most_log_bytes, add_of, new_of, sheet_of}
use Rattle.figures.specs.Rows.{row_of, rows}
use Rattle.figures.specs.Counts.{is_good, good_in, taken_in, all_events, sum_of, read_of, write_of, memory_of, bytes_in, bytes_out, known_write, part_write}

-- a variable that a new sheet does not refuse, at an address of 64 bits
pub record Watched (v : Variable) : Type 0 where
  pub length_is : is_length v.length ≡ true
  pub address_fits : v.address < word

abbrev pub figure : Variable → List (List ℕ) → ℕ → ℕ
figure v ls i = get_or (sheet_of v ls) i 0

-- TOTALS ARE COUNTS over all events of all logs taken, with no modulus: whatever logs are added to a new sheet.
pub record Counted (v : Variable) (ls : List (List ℕ)) : Type 0 where
  pub address : figure v ls address_word ≡ v.address
  pub length_kept : figure v ls length_word ≡ v.length
  pub logs : figure v ls logs_word ≡ length (taken_in ls)
  pub in_bytes : figure v ls in_word ≡ sum_of bytes_in (all_events ls)
  pub out_bytes : figure v ls out_word ≡ sum_of bytes_out (all_events ls)
  pub part : figure v ls part_word ≡ sum_of (part_write v) (all_events ls)
  pub known : figure v ls known_word ≡ sum_of known_write (all_events ls)
  pub reads : (b : ℕ) → b < banks → figure v ls (reads_word b) ≡ sum_of (read_of b) (all_events ls)
  pub writes : (b : ℕ) → b < banks → figure v ls (writes_word b) ≡ sum_of (write_of b) (all_events ls)
  pub of_size : (n : ℕ) → 1 ≤ n → n ≤ sizes → figure v ls (size_word n) ≡ sum_of (memory_of n) (all_events ls)

abbrev pub TotalsAreCounts : Type 0
TotalsAreCounts = (v : Variable) (ls : List (List ℕ)) → Watched v → Counted v ls

-- ANY ORDER. Within the limit the same logs in another order give the same sheet.
abbrev pub SameInAnyOrder : Type 0
SameInAnyOrder =
    (v : Variable) (ls ms : List (List ℕ)) → Watched v → Permᴰ ls ms → length (good_in ls) ≤ most_logs → sheet_of v ls ≡ sheet_of v ms

-- NOTHING WRAPS, whatever logs are added: each total stays below two to the 53.
abbrev pub NothingWraps : Type 0
NothingWraps = (v : Variable) (ls : List (List ℕ)) (i : ℕ) → Watched v → logs_word ≤ i → i < sheet_words → figure v ls i < 2 ^ 53

-- A REFUSED LOG CHANGES NOTHING, of any words at all.
abbrev pub RefusedChangesNothing : Type 0
RefusedChangesNothing = (w l : List ℕ) → ((add_of w l).0 ≡ 0 → ⊥) → (add_of w l).1 ≡ w

-- So it may as well be left out.
abbrev pub RefusedLeftOut : Type 0
RefusedLeftOut =
    (v : Variable) (ls ms : List (List ℕ)) (l : List ℕ) → Watched v → is_good l ≡ false → sheet_of v (ls ++ (l ∷ ms)) ≡ sheet_of v (ls ++ ms)

-- A LOG CUT between two events is two logs that change only the number of logs.
abbrev pub CutAddsALog : Type 0
CutAddsALog =
    (v : Variable) (ls ms : List (List ℕ)) (l : List ℕ) (xs ys : List Event)
    → Watched v → Reads l (xs ++ ys) → length l ≤ most_log_bytes
    → let cut = ls ++ (take (size event_bytes xs) l ∷ drop (size event_bytes xs) l ∷ ms) in
    length (good_in cut) ≤ most_logs → sheet_of v cut ≡ set (sheet_of v (ls ++ (l ∷ ms))) logs_word (figure v (ls ++ (l ∷ ms)) logs_word + 1)

-- THE ORDER OF THE REFUSALS, of any words: the limit, whatever the log is; the watched length; the log's bytes; the log's own number.
abbrev pub LimitFirst : Type 0
LimitFirst = (w l : List ℕ) → most_logs ≤ get_or w logs_word 0 → add_of w l ≡ (10, w)

abbrev pub ThenTheLength : Type 0
ThenTheLength = (w l : List ℕ) → get_or w logs_word 0 < most_logs → is_length (get_or w length_word 0) ≡ false → add_of w l ≡ (2, w)

abbrev pub ThenTheBytes : Type 0
ThenTheBytes =
    (w l : List ℕ) → get_or w logs_word 0 < most_logs → is_length (get_or w length_word 0) ≡ true → most_log_bytes < length l → add_of w l ≡ (2, w)

abbrev pub ThenItsOwn : Type 0
ThenItsOwn =
    (w l : List ℕ) (es : List Event) (r : Refusal)
    → get_or w logs_word 0 < most_logs → is_length (get_or w length_word 0) ≡ true → length l ≤ most_log_bytes → Broken l es r
    → add_of w l ≡ (refusal_number r, w)

-- A new sheet is refused 2 for a length that no variable has, and its words stay.
abbrev pub NoSuchLength : Type 0
NoSuchLength = (w : List ℕ) (a n : ℕ) → is_length n ≡ false → new_of w a n ≡ (2, w)

-- The part writes are those that a watch counts by T-04's verdict.
abbrev pub PartsAreVerdicts : Type 0
PartsAreVerdicts = (v : Variable) (e : Event) → part_write v e ≡ (tally_of (verdict_of v e ∷ [])).part

-- TABLE. Rows for each sentence of the request.
abbrev pub RowsHold : Type 0
RowsHold = map (λ r. row_of r.0) rows ≡ map (λ r. r.1) rows
