-- What a sheet's figures count, over the events of the logs that it takes.
use Rattle.std.specs.Prelude.{ℕ, ◌+◌, List, [], ◌∷◌, Bool, cond, ◌&&◌, length, take, eqb, leb}
use Rattle.laws.specs.Lists.{each}
use Rattle.laws.specs.Refusals.{refused_by}
use Rattle.definition.specs.declared.Event.{Event}
use Rattle.definition.specs.declared.Event.TheVariants.{RegisterRead, RegisterWrite, MemoryRead, MemoryWrite, UnknownRead, UnknownWrite}
use Rattle.event.specs.Wholes.{whole_of, events_in}
use Rattle.event.specs.Counts.{counted_of}
use Rattle.watching.specs.Verdicts.{store_verdict}
use Rattle.watching.specs.declared.verdicts.Variable.{Variable}
use Rattle.totals.specs.Sheets.{most_logs, most_log_bytes, parts}

-- a log that is refused only by the limit: it is not too long, and it reads whole
unfoldable pub is_good : List ℕ → Bool
is_good l = leb (length l) most_log_bytes && eqb (refused_by (counted_of l)) 0

unfoldable pub good_in : List (List ℕ) → List (List ℕ)
good_in [] = []
good_in (l ∷ ls) = cond (is_good l) (l ∷ good_in ls) (good_in ls)

-- the logs that a new sheet takes of these, and all their events
unfoldable pub taken_in : List (List ℕ) → List (List ℕ)
taken_in ls = take most_logs (good_in ls)

abbrev pub events_of : List ℕ → List Event
events_of l = events_in (whole_of l)

unfoldable pub all_events : List (List ℕ) → List Event
all_events ls = each events_of (taken_in ls)

unfoldable pub sum_of : {A : Type 0} → (A → ℕ) → List A → ℕ
sum_of f [] = 0
sum_of f (x ∷ xs) = f x + sum_of f xs

abbrev pub one : Bool → ℕ
one t = cond t 1 0

-- register reads and writes of a bank
unfoldable pub read_of : ℕ → Event → ℕ
read_of b (RegisterRead y) = one (eqb b y.bank)
read_of b (RegisterWrite y) = 0
read_of b (MemoryRead a n) = 0
read_of b (MemoryWrite a n) = 0
read_of b (UnknownRead n) = 0
read_of b (UnknownWrite n) = 0

unfoldable pub write_of : ℕ → Event → ℕ
write_of b (RegisterRead y) = 0
write_of b (RegisterWrite y) = one (eqb b y.bank)
write_of b (MemoryRead a n) = 0
write_of b (MemoryWrite a n) = 0
write_of b (UnknownRead n) = 0
write_of b (UnknownWrite n) = 0

-- memory events of a size, at known and at unknown addresses
unfoldable pub memory_of : ℕ → Event → ℕ
memory_of m (RegisterRead y) = 0
memory_of m (RegisterWrite y) = 0
memory_of m (MemoryRead a n) = one (eqb m n)
memory_of m (MemoryWrite a n) = one (eqb m n)
memory_of m (UnknownRead n) = one (eqb m n)
memory_of m (UnknownWrite n) = one (eqb m n)

-- bytes read and written, at known and at unknown addresses
unfoldable pub bytes_in : Event → ℕ
bytes_in (RegisterRead y) = 0
bytes_in (RegisterWrite y) = 0
bytes_in (MemoryRead a n) = n
bytes_in (MemoryWrite a n) = 0
bytes_in (UnknownRead n) = n
bytes_in (UnknownWrite n) = 0

unfoldable pub bytes_out : Event → ℕ
bytes_out (RegisterRead y) = 0
bytes_out (RegisterWrite y) = 0
bytes_out (MemoryRead a n) = 0
bytes_out (MemoryWrite a n) = n
bytes_out (UnknownRead n) = 0
bytes_out (UnknownWrite n) = n

-- writes at known addresses, and those of them that are T-04's part writes
unfoldable pub known_write : Event → ℕ
known_write (RegisterRead y) = 0
known_write (RegisterWrite y) = 0
known_write (MemoryRead a n) = 0
known_write (MemoryWrite a n) = 1
known_write (UnknownRead n) = 0
known_write (UnknownWrite n) = 0

unfoldable pub part_write : Variable → Event → ℕ
part_write v (RegisterRead y) = 0
part_write v (RegisterWrite y) = 0
part_write v (MemoryRead a n) = 0
part_write v (MemoryWrite a n) = parts (store_verdict v a n)
part_write v (UnknownRead n) = 0
part_write v (UnknownWrite n) = 0
