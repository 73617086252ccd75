-- WHAT IS PROMISED of where two logs part, each statement after its sentence. proofs/Proved.antt proves them all;
-- nothing is assumed.
use Rattle.std.specs.Prelude.{ℕ, ◌≤◌, ◌≡◌, ◌↔◌, ◌⊎◌, List, [], ◌∷◌, ◌++◌, map, false, length, take, drop}
use Rattle.laws.specs.declared.refusals.Refusal.{Refusal}
use Rattle.laws.specs.declared.refusals.Refusal.TheVariants.{Malformed, Outside}
use Rattle.definition.specs.Readings.{Reads}
use Rattle.definition.specs.declared.Event.{Event}
use Rattle.event.specs.Held.{Bytes}
use Rattle.event.specs.Wholes.{all, broken, whole_of, Broken}
use Rattle.difference.specs.Partings.{front_of, left_of, rest_of, refused, parted_of, parting_of}
use Rattle.difference.specs.Rows.{row_of, rows}

-- Reading a log whole, as a function, is `Reads`.
abbrev pub WholeIsReads : Type 0
WholeIsReads = (l : List ℕ) (es : List Event) → (whole_of l ≡ all es) ↔ Reads l es

-- A log's refusal is that of its first event that does not read: behind a front that reads, 1 or 2.
abbrev pub BrokenIsRefused : Type 0
BrokenIsRefused =
    (l : List ℕ) (es : List Event) (r : Refusal)
    → ((whole_of l ≡ broken es r) ↔ Broken l es r) × (whole_of l ≡ broken es r → (r ≡ Malformed) ⊎ (r ≡ Outside))

-- where both go on, the next events differ
abbrev pub Apart : List Event → List Event → Type 0
Apart [] ys = Unit {0}
Apart (x ∷ xs) [] = Unit {0}
Apart (x ∷ xs) (y ∷ ys) = x ≡ y → ⊥

-- what is answered of a log that reads whole as xs and one that reads whole as ys
pub record Parting (a b : List ℕ) (xs ys : List Event) : Type 0 where
  pub number : (parted_of a b).number ≡ 0
  -- the part is a tail of the second log, which begins at an event
  pub within : (parted_of a b).at ≤ length b
  pub tail : parting_of a b ≡ drop (parted_of a b).at b
  pub behind : Reads (parting_of a b) (rest_of xs ys)
  -- the bytes before it read as the events that both logs share
  pub shared_first : Reads (take (parted_of a b).at a) (front_of xs ys)
  pub shared_second : Reads (take (parted_of a b).at b) (front_of xs ys)
  pub first : xs ≡ front_of xs ys ++ left_of xs ys
  pub second : ys ≡ front_of xs ys ++ rest_of xs ys
  -- and no more: where both go on, the two next events differ
  pub apart : Apart (left_of xs ys) (rest_of xs ys)
  -- the sign says whether the logs have the same events
  pub equal : ((parted_of a b).differs ≡ false) ↔ (xs ≡ ys)
  -- equal: the part is empty; the first ends early: it is the second's rest; the second ends early: it is empty
  pub none_left : (parted_of a b).differs ≡ false → parting_of a b ≡ []
  pub first_ends : left_of xs ys ≡ [] → Reads (parting_of a b) (drop (length xs) ys)
  pub second_ends : (rest_of xs ys ≡ []) ↔ (parting_of a b ≡ [])

-- LOGS PART. Two logs that read whole part where their events do.
abbrev pub LogsPart : Type 0
LogsPart = (a b : List ℕ) (xs ys : List Event) → Reads a xs → Reads b ys → Parting a b xs ys

-- EQUAL IS EQUAL BYTES. Of logs that read whole, the sign is 0 exactly where the bytes are equal.
abbrev pub EqualIsEqualBytes : Type 0
EqualIsEqualBytes =
    (a b : List ℕ) (xs ys : List Event) → Bytes a → Bytes b → Reads a xs → Reads b ys → ((parted_of a b).differs ≡ false) ↔ (a ≡ b)

-- This needs bytes, which a lent slice has: over lists of any numbers, two lists read as one event.
abbrev pub BytesAreNeeded : Type 0
BytesAreNeeded =
    (a : List ℕ) × (b : List ℕ) × (es : List Event) × Reads a es × Reads b es × ((parted_of a b).differs ≡ false) × (a ≡ b → ⊥)

-- SAME LOG. A log and itself are equal, with an empty part.
abbrev pub SameLog : Type 0
SameLog =
    (a : List ℕ) (xs : List Event) → Reads a xs
    → (parted_of a a ≡ record { number = 0; differs = false; at = length a }) × (parting_of a a ≡ [])

-- BROKEN LOGS. A log that does not read whole is refused as the reader refuses it, the first log's number if both; the
-- sign is 0 and the part is empty. A log that reads whole is never refused.
abbrev pub BrokenLogs : Type 0
BrokenLogs =
    (a b : List ℕ) (es xs : List Event) (r : Refusal)
    → (Broken a es r → (parted_of a b ≡ refused r b) × (parting_of a b ≡ []))
    × (Reads a xs → Broken b es r → (parted_of a b ≡ refused r b) × (parting_of a b ≡ []))
    × (((parted_of a b).number ≡ 0) ↔ ((ds : List Event) × (es : List Event) × Reads a ds × Reads b es))

-- TABLE. Rows for each sentence of the request.
abbrev pub RowsHold : Type 0
RowsHold = map (λ r. row_of r.0) rows ≡ map (λ r. r.1) rows
