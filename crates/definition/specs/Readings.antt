-- Reading a log: the event at a place and the place after it.
use Rattle.std.specs.Prelude.{ℕ, ◌+◌, ◌≡◌, List, [], ◌∷◌, Bool, cond, ◌&&◌, ◌||◌, length, get_or, drop, ltb, leb, eqb}
use Rattle.laws.specs.Words.{number_at}
use Rattle.laws.specs.Refusals.{refusal_number}
use Rattle.laws.specs.declared.refusals.Refusal.TheVariants.{Malformed, Outside}
use Rattle.registers.specs.Banks.{reg, is_logged}
use Rattle.definition.specs.declared.Event.{Event}
use Rattle.definition.specs.declared.Event.TheVariants.{RegisterRead, RegisterWrite, MemoryRead, MemoryWrite, UnknownRead, UnknownWrite}
use Rattle.definition.specs.declared.Reading.{Reading}
use Rattle.definition.specs.declared.Reading.TheVariants.{Found, Bad, Finished}

-- by kind: the length of the body, 0 for an unknown kind
unfoldable pub body_of : ℕ → ℕ
body_of k = get_or (0 ∷ 2 ∷ 2 ∷ 9 ∷ 9 ∷ 1 ∷ 1 ∷ []) k 0

-- the event that stands at the front, where its kind is known and its body whole
unfoldable pub front_event : List ℕ → Event
front_event l =
    get_or
    (UnknownRead 0
    ∷ RegisterRead (reg (get_or l 1 0) (get_or l 2 0)) ∷ RegisterWrite (reg (get_or l 1 0) (get_or l 2 0))
    ∷ MemoryRead (number_at l 1 8) (get_or l 9 0) ∷ MemoryWrite (number_at l 1 8) (get_or l 9 0)
    ∷ UnknownRead (get_or l 1 0) ∷ UnknownWrite (get_or l 1 0)
    ∷ [])
    (get_or l 0 0)
    (UnknownRead 0)

abbrev pub is_size : ℕ → Bool
is_size n = leb 1 n && leb n 64

-- a register that a log may name, a size of 1 to 64
unfoldable pub is_event : Event → Bool
is_event (RegisterRead y) = is_logged y.bank y.number
is_event (RegisterWrite y) = is_logged y.bank y.number
is_event (MemoryRead a n) = is_size n
is_event (MemoryWrite a n) = is_size n
is_event (UnknownRead n) = is_size n
is_event (UnknownWrite n) = is_size n

-- the front of a log: finished, refused 1 for its kind or a body cut short, refused 2 for its contents, or an event and its length
unfoldable pub read_front : List ℕ → Reading
read_front [] = Finished
read_front (k ∷ l) =
    cond (eqb (body_of k) 0 || ltb (length l) (body_of k)) (Bad Malformed)
    (cond (is_event (front_event (k ∷ l))) (Found (front_event (k ∷ l)) (1 + body_of k)) (Bad Outside))

abbrev pub placed : ℕ → Reading → Reading
placed at (Found e n) = Found e (at + n)
placed at (Bad r) = Bad r
placed at Finished = Finished

-- reading from a place on: finished at or past the end
unfoldable pub read_at : List ℕ → ℕ → Reading
read_at l at = placed at (read_front (drop at l))

-- a log reads whole, as these events
pub data Reads : List ℕ → List Event → Type 0 where
  end : Reads [] []
  next : {l : List ℕ} {e : Event} {es : List Event} (n : ℕ) → read_front l ≡ Found e n → Reads (drop n l) es → Reads l (e ∷ es)

-- document 01's number of a reading: 0 an event, 1 or 2 refused, 255 finished; and the event's length in bytes
abbrev pub reading_number : Reading → ℕ
reading_number (Found e n) = 0
reading_number (Bad r) = refusal_number r
reading_number Finished = 255
