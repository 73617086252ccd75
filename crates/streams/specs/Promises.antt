-- WHAT IS PROMISED of a reader, each statement after its sentence. proofs/Proved.antt proves them all; nothing is assumed.
use Rattle.std.specs.Prelude.{ℕ, ◌+◌, ◌≤◌, ◌<◌, ◌≡◌, ◌⊎◌, List, [], ◌∷◌, ◌++◌, true, false, length, get_or, replicate}
use Rattle.laws.specs.Lists.{flat}
use Rattle.registers.specs.Files.{file_of, is_file}
use Rattle.record.specs.Records.{is_record}
use Rattle.definition.specs.Limits.{most_bytes}
use Rattle.definition.specs.Logs.{bytes_of}
use Rattle.definition.specs.Visits.{visit_of}
use Rattle.definition.specs.declared.Event.{Event}
use Rattle.event.specs.Held.{Bytes}
use Rattle.promises.specs.Refinement.{Extends, RefinesAll}
use Rattle.promises.specs.Rows.{Table}
use Rattle.streams.specs.Cuts.{whole, front_by, reader}
use Rattle.streams.specs.Streams.{of_file, length_of, Said, plainly, said_at, record_says, answers_of, ending_of, StreamReader, fresh, Outcome, unfinished, finishing, feed, close, driven_all}
use Rattle.streams.specs.Rows.{rows, traps}

-- However a stream is cut, the answers are those of the whole, and closing answers how the whole ends.
abbrev pub CutsTellTheWhole : Type 0
CutsTellTheWhole =
    (room : ℕ) (cs : List (List ℕ)) → most_bytes ≤ room
    → ((driven_all room fresh cs).0 ≡ answers_of (flat cs)) × ((close (driven_all room fresh cs).1).0 ≡ ending_of (flat cs))

-- So any two cuts agree.
abbrev pub AnyTwoCutsAgree : Type 0
AnyTwoCutsAgree =
    (room bigger : ℕ) (cs ds : List (List ℕ)) → most_bytes ≤ room → most_bytes ≤ bigger → flat cs ≡ flat ds
    → ((driven_all room fresh cs).0 ≡ (driven_all bigger fresh ds).0)
    × (close (driven_all room fresh cs).1 ≡ close (driven_all bigger fresh ds).1)

-- A stopped reader's 1 comes first, then the early 7; both leave the reader.
abbrev pub StoppedStays : Type 0
StoppedStays = (r : StreamReader) (c : List ℕ) (room : ℕ) → r.stopped ≡ true → feed r c room ≡ unfinished 1 0 0 r

abbrev pub EarlySeven : Type 0
EarlySeven =
    (r : StreamReader) (c : List ℕ) (room : ℕ) → r.stopped ≡ false → room < most_bytes → feed r c room ≡ unfinished 7 0 most_bytes r

-- With room for every log, how much of it there is does not matter.
abbrev pub RoomIsRoom : Type 0
RoomIsRoom = (r : StreamReader) (c : List ℕ) (room bigger : ℕ) → most_bytes ≤ room → most_bytes ≤ bigger → feed r c room ≡ feed r c bigger

-- Demand 2: a record's answer and log are visiting's own under the latest good file's bytes, in any buffer with room.
abbrev pub RecordsAreVisited : Type 0
RecordsAreVisited = (f b p : List ℕ) (s : ℕ) → s + most_bytes ≤ length p → record_says f b ≡ said_at s (visit_of b f p s)

-- the kept bytes of a reader are none, or a part of an item; its file is none, or a good one
pub record Sound (r : StreamReader) : Type 0 where
  pub parted : (length r.kept ≡ 0) ⊎ (length r.kept < length_of (get_or r.kept 0 0))
  pub latest : (r.file ≡ []) ⊎ (is_file r.file ≡ true)

-- a call takes no more than it was handed; all of it, where it answers 0 and nothing finished; something, where something finished;
-- and what finished is never answered 1, 7 or 8, so that 1 is an unknown kind's and a stopped reader's alone
pub record Taking (c : List ℕ) (o : Outcome) : Type 0 where
  pub within : o.call.taken ≤ length c
  pub all : o.call.finished ≡ false → o.call.number ≡ 0 → o.call.taken ≡ length c
  pub some : o.call.finished ≡ true → 0 < o.call.taken
  pub number : o.call.finished ≡ true → (o.call.number ≡ 1 → ⊥) × (o.call.number ≡ 7 → ⊥) × (o.call.number ≡ 8 → ⊥)

-- on 1, of a reader that had not stopped, the first byte that is not taken is of an unknown kind
abbrev pub UnknownNext : List ℕ → Outcome → Type 0
UnknownNext c o = o.call.number ≡ 1 → (o.call.taken < length c) × (length_of (get_or c o.call.taken 0) ≡ 0)

-- Every call takes as it says, and leaves a sound reader sound; a fresh one is.
abbrev pub CallsTake : Type 0
CallsTake =
    (r : StreamReader) (c : List ℕ) (room : ℕ) → Sound r
    → Taking c (feed r c room) × Sound (feed r c room).next × (r.stopped ≡ false → UnknownNext c (feed r c room))

-- Bytes stay bytes: what is kept of chunks of bytes is bytes.
abbrev pub BytesStay : Type 0
BytesStay =
    (r : StreamReader) (c : List ℕ) (room : ℕ)
    → (length r.kept ≡ 0) ⊎ (length r.kept < length_of (get_or r.kept 0 0)) → Bytes r.kept → Bytes r.file → Bytes c
    → Bytes (feed r c room).next.kept × Bytes (feed r c room).next.file

abbrev pub FreshIsSound : Type 0
FreshIsSound = Sound fresh

-- Of kept bytes that are no part of an item this fails: a finished 1. So such a reader counts as stopped (crate `reader`).
abbrev pub WildBytes : Type 0
WildBytes = feed (reader [] (0x10 ∷ replicate 45 0)) (0 ∷ []) most_bytes ≡ finishing (plainly 1) 1 fresh

-- a whole item of a file's kind that is no file
abbrev pub BadFile : List ℕ → Type 0
BadFile f = (length f ≡ length_of (get_or f 0 0)) × (of_file (get_or f 0 0) ≡ true) × (is_file f ≡ false)

abbrev pub logging : List ℕ → Said
logging l = record { number = 0; log = l; opcode = 0 }

-- Demand 3 over streams. Two streams item beside item: the same record in both; two good files, the second of which knows all that
-- the first knows; or two bad ones.
pub data Beside : List (List ℕ) → List (List ℕ) → Type 0 where
  nothing : Beside [] []
  records : {xs ys : List (List ℕ)} (b : List ℕ) → is_record b ≡ true → Beside xs ys → Beside (b ∷ xs) (b ∷ ys)
  files :
      {xs ys : List (List ℕ)} (f g : List ℕ)
      → is_file f ≡ true → is_file g ≡ true → Extends (file_of f) (file_of g) → Beside xs ys → Beside (f ∷ xs) (g ∷ ys)
  bad : {xs ys : List (List ℕ)} (f g : List ℕ) → BadFile f → BadFile g → Beside xs ys → Beside (f ∷ xs) (g ∷ ys)

-- the same answer; or two logs, the second of which refines the first
pub data SaidRefines : Said → Said → Type 0 where
  same : {a : Said} → SaidRefines a a
  logged : (ds es : List Event) → RefinesAll ds es → SaidRefines (logging (bytes_of ds)) (logging (bytes_of es))

pub data AllRefine : List Said → List Said → Type 0 where
  none : AllRefine [] []
  one : {a c : Said} {xs ys : List Said} → SaidRefines a c → AllRefine xs ys → AllRefine (a ∷ xs) (c ∷ ys)

-- The answers refine one another; and behind those items stand the same bytes, which are no whole item: nothing, a part of one, or an
-- unknown kind.
abbrev pub StreamsRefine : Type 0
StreamsRefine =
    (xs ys : List (List ℕ)) (z : List ℕ) → Beside xs ys → ((item rest : List ℕ) → front_by length_of z ≡ whole item rest → ⊥)
    → AllRefine (answers_of (flat xs ++ z)) (answers_of (flat ys ++ z))

-- The rows of the request.
abbrev pub TrapsHold : Type 0
TrapsHold = Table (λ qs. rows fresh qs) traps
