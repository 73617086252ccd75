-- A sheet's file fed byte by byte: what was read so far, and what one byte more makes of it.
use Rattle.std.specs.Prelude.{ℕ, ◌+◌, ◌≤◌, ◌<◌, List, [], ◌∷◌, ◌++◌, Bool, false, cond, ◌&&◌, length, get_or, take, eqb, leb, ltb}
use Rattle.laws.specs.Words.{number_at}
use Rattle.totals.specs.Sheets.{logs_word, most_logs, most_log_bytes, add_of, new_of}
use Rattle.filing.specs.declared.feed.Part.{Part}
use Rattle.filing.specs.declared.feed.Part.TheVariants.{Header, Length, Log}
use Rattle.filing.specs.declared.feed.Feed.{Feed}
use Rattle.filing.specs.declared.feed.Feed.TheVariants.{Reading, Refused}

-- an address and a watched length; a log's length; a log of so many bytes
abbrev pub header_bytes : ℕ
header_bytes = 9

abbrev pub length_bytes : ℕ
length_bytes = 4

abbrev pub part_size : Part → ℕ
part_size Header = header_bytes
part_size Length = length_bytes
part_size (Log n) = n

abbrev pub start_feed : Feed
start_feed = Reading Header 0

-- the next log's length is awaited; or a number was refused, and nothing more is looked at
abbrev pub waiting_feed : ℕ → Feed
waiting_feed k = cond (eqb k 0) (Reading Length 0) (Refused k)

abbrev pub waiting : ℕ × List ℕ → Feed × List ℕ
waiting r = (waiting_feed r.0, r.1)

-- a header makes a new sheet, a log is added to it, and a length says how many bytes the next log has
unfoldable pub headed : List ℕ → List ℕ → Feed × List ℕ
headed w item = waiting (new_of w (number_at item 0 8) (get_or item 8 0))

unfoldable pub logged : List ℕ → List ℕ → Feed × List ℕ
logged w item = waiting (add_of w item)

unfoldable pub sized : List ℕ → ℕ → Feed × List ℕ
sized w n = cond (ltb most_log_bytes n) (Refused 2, w) (cond (eqb n 0) (logged w []) (Reading (Log n) 0, w))

unfoldable pub completed : Part → List ℕ → List ℕ → Feed × List ℕ
completed Header w item = headed w item
completed Length w item = sized w (number_at item 0 4)
completed (Log n) w item = logged w item

-- how many bytes there are of the part under way: none after a refusal
abbrev pub have_of : Feed → ℕ
have_of (Reading part have) = have
have_of (Refused k) = 0

-- what was read: the figures, the sheet's words, and the bytes of the part under way
pub record State : Type 0 where
  pub feed : Feed
  pub words : List ℕ
  pub pending : List ℕ

abbrev pub state_of : Feed → List ℕ → List ℕ → State
state_of f w carry = record { feed = f; words = w; pending = take (have_of f) carry }

abbrev pub emptied : Feed × List ℕ → State
emptied r = record { feed = r.0; words = r.1; pending = [] }

-- the limit is reached, and another log begins
abbrev pub is_full : Part → ℕ → List ℕ → Bool
is_full Header have w = false
is_full Length have w = eqb have 0 && leb most_logs (get_or w logs_word 0)
is_full (Log n) have w = false

-- one byte more of the part under way
abbrev pub grown : Part → ℕ → List ℕ → List ℕ → State
grown part have w p =
    cond (ltb (have + 1) (part_size part))
    (record { feed = Reading part (have + 1); words = w; pending = p })
    (emptied (completed part w p))

-- after a refusal nothing changes
abbrev pub pushed_on : Feed → List ℕ → List ℕ → ℕ → State
pushed_on (Reading part have) w p b =
    cond (is_full part have w) (emptied (Refused 10, w)) (grown part have w (p ++ (b ∷ [])))
pushed_on (Refused k) w p b = record { feed = Refused k; words = w; pending = p }

unfoldable pub pushed : State → ℕ → State
pushed s b = pushed_on s.feed s.words s.pending b

unfoldable pub fed : State → List ℕ → State
fed s [] = s
fed s (b ∷ bs) = fed (pushed s b) bs

-- what the code keeps between two bytes: the part under way is not whole, and has room
abbrev pub IsOpen : Feed → Type 0
IsOpen (Reading part have) = (have < part_size part) × (part_size part ≤ most_log_bytes)
IsOpen (Refused k) = Unit {0}

pub record Ready (f : Feed) (carry : List ℕ) : Type 0 where
  pub room : most_log_bytes ≤ length carry
  pub within : IsOpen f

-- at the end of the file: the number that was refused; 1 where a part is cut
abbrev pub end_of : Part → ℕ → ℕ
end_of Header have = 1
end_of Length have = cond (eqb have 0) 0 1
end_of (Log n) have = 1

unfoldable pub end_number : Feed → ℕ
end_number (Reading part have) = end_of part have
end_number (Refused k) = k
