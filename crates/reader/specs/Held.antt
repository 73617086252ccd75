-- A reader as the code holds it: the bytes of the unfinished item and of the latest good file, each in a place of its own.
use Rattle.std.specs.Prelude.{ℕ, ◌-◌, ◌≤◌, ◌≡◌, List, [], Bool, cond, ◌&&◌, ◌||◌, length, get_or, take, ltb, eqb}
use Rattle.laws.specs.Lending.{splice}
use Rattle.registers.specs.Files.{is_file}
use Rattle.streams.specs.Cuts.{halted}
use Rattle.streams.specs.Streams.{length_of, StreamReader, Outcome, feed}
use Rattle.streams.specs.declared.Call.{Call}
use Rattle.reader.specs.Places.{item_room}
use Rattle.reader.specs.declared.held.Numbers.{Numbers}
use Rattle.reader.specs.declared.held.Reader.{Reader}

abbrev pub reader_with : Reader → StreamReader
reader_with r = record { kept = r.kept; file = r.file; stopped = r.stopped }

-- the kept bytes are none, or a part of an item; the file is none, or a good one
unfoldable pub is_part : List ℕ → Bool
is_part l = eqb (length l) 0 || ltb (length l) (length_of (get_or l 0 0))

unfoldable pub is_latest : List ℕ → Bool
is_latest f = eqb (length f) 0 || is_file f

-- a reader whose bytes are none of a reader counts as a stopped one
unfoldable pub checked : Reader → StreamReader
checked r = cond (is_part r.kept && is_latest r.file) (reader_with r) (halted [])

-- the same of numbers and the bytes of two places, each with its length
unfoldable pub holds_part : List ℕ → ℕ → Bool
holds_part item n = eqb (length item) item_room && is_part (take n item)

unfoldable pub holds_file : List ℕ → ℕ → Bool
holds_file file n = eqb (length file) item_room && is_latest (take n file)

unfoldable pub reader_in : Numbers → List ℕ → List ℕ → StreamReader
reader_in r item file =
    cond (holds_part item r.kept && holds_file file r.file) (record { kept = take r.kept item; file = take r.file file; stopped = r.stopped }) (halted [])

-- places that are whole, and numbers of bytes in them
pub record Inside (r : Numbers) (item file : List ℕ) : Type 0 where
  pub item_long : length item ≡ item_room
  pub file_long : length file ≡ item_room
  pub kept_fits : r.kept ≤ item_room
  pub file_fits : r.file ≤ item_room

-- what a call answers, the reader that it leaves, and the log buffer
pub record Handed : Type 0 where
  pub call : Call
  pub next : StreamReader
  pub buffer : List ℕ

abbrev pub handing : Outcome → List ℕ → ℕ → Handed
handing o log start = record { call = o.call; next = o.next; buffer = splice log start o.log }

unfoldable pub handed_to : StreamReader → List ℕ → List ℕ → ℕ → Handed
handed_to r c log start = handing (feed r c (length log - start)) log start

abbrev pub left_by : Call → Reader → List ℕ → Handed
left_by a r log = record { call = a; next = reader_with r; buffer = log }
