-- Where two logs part: document 02's T-13. First over lists of events, then over bytes.
use Rattle.std.specs.Prelude.{ℕ, List, [], ◌∷◌, Bool, false, cond, ◌&&◌, ◌||◌, length, drop, eqb, ltb}
use Rattle.laws.specs.Lending.{size}
use Rattle.laws.specs.Refusals.{refusal_number}
use Rattle.laws.specs.declared.refusals.Refusal.{Refusal}
use Rattle.definition.specs.Logs.{event_bytes}
use Rattle.definition.specs.declared.Event.{Event}
use Rattle.definition.specs.declared.Event.TheVariants.{RegisterRead, RegisterWrite, MemoryRead, MemoryWrite, UnknownRead, UnknownWrite}
use Rattle.event.specs.Wholes.{Whole, all, broken, whole_of}
use Rattle.difference.specs.declared.logs.Parted.{Parted}

-- an event is its kind and one or two numbers: bank and number, address and size, or a size
abbrev pub kind_in : Event → ℕ
kind_in (RegisterRead y) = 1
kind_in (RegisterWrite y) = 2
kind_in (MemoryRead a n) = 3
kind_in (MemoryWrite a n) = 4
kind_in (UnknownRead n) = 5
kind_in (UnknownWrite n) = 6

abbrev pub first_in : Event → ℕ
first_in (RegisterRead y) = y.bank
first_in (RegisterWrite y) = y.bank
first_in (MemoryRead a n) = a
first_in (MemoryWrite a n) = a
first_in (UnknownRead n) = n
first_in (UnknownWrite n) = n

abbrev pub second_in : Event → ℕ
second_in (RegisterRead y) = y.number
second_in (RegisterWrite y) = y.number
second_in (MemoryRead a n) = n
second_in (MemoryWrite a n) = n
second_in (UnknownRead n) = 0
second_in (UnknownWrite n) = 0

-- so an address that is known in one and unknown in the other is a difference
unfoldable pub same_event : Event → Event → Bool
same_event d e = eqb (kind_in d) (kind_in e) && eqb (first_in d) (first_in e) && eqb (second_in d) (second_in e)

-- the longest front that both have
unfoldable pub front_of : List Event → List Event → List Event
front_of [] ys = []
front_of (x ∷ xs) [] = []
front_of (x ∷ xs) (y ∷ ys) = cond (same_event x y) (y ∷ front_of xs ys) []

-- what is left of the first behind it, and what is left of the second
unfoldable pub left_of : List Event → List Event → List Event
left_of xs ys = drop (length (front_of xs ys)) xs

unfoldable pub rest_of : List Event → List Event → List Event
rest_of xs ys = drop (length (front_of xs ys)) ys

-- the sign: something is left of either
unfoldable pub differ : List Event → List Event → Bool
differ xs ys = ltb 0 (length (left_of xs ys)) || ltb 0 (length (rest_of xs ys))

-- where the part of the second begins: behind the bytes of the common front
unfoldable pub parting_at : List Event → List Event → ℕ
parting_at xs ys = size event_bytes (front_of xs ys)

-- a refused answer: no sign, and an empty part, which begins at the end of the second log
abbrev pub refused : Refusal → List ℕ → Parted
refused r b = record { number = refusal_number r; differs = false; at = length b }

-- the first log's refusal, then the second's; only logs that read whole are compared
abbrev pub parted_by : Whole → Whole → List ℕ → Parted
parted_by (broken es r) w b = refused r b
parted_by (all xs) (broken es r) b = refused r b
parted_by (all xs) (all ys) b = record { number = 0; differs = differ xs ys; at = parting_at xs ys }

unfoldable pub parted_of : List ℕ → List ℕ → Parted
parted_of a b = parted_by (whole_of a) (whole_of b) b

-- the part of the second log
unfoldable pub parting_of : List ℕ → List ℕ → List ℕ
parting_of a b = drop (parted_of a b).at b
