-- WHAT IS PROMISED of a log session, each statement after its sentence. proofs/Proved.antt proves them all; nothing is assumed.
use Rattle.std.specs.Prelude.{◌≡◌, ℕ, ◌+◌, ◌-◌, ◌<◌, ◌≤◌, List, [], ◌∷◌, length, take}
use Rattle.definition.specs.Addresses.{word}
use Rattle.definition.specs.Limits.{most_bytes}
use Rattle.definition.specs.Visits.{visit_of}
use Rattle.definition.specs.declared.Event.{Event}
use Rattle.event.specs.Wholes.{all, whole_of}
use Rattle.promises.specs.Bench.{P2}
use Rattle.promises.specs.Calls.{Refusal, unroomed}
use Rattle.promises.specs.Rows.{buffer}
use Rattle.session.specs.declared.appends.Session.{Session}
use Rattle.session.specs.Sessions.{empty, counts_of, Held, appended, Call, reset, after, after_all, Lent, Counted}
use Rattle.session.specs.Rows.{append, rows_from, left_by, session, calls, rows, left, past_calls, past_rows, wild_rows}

-- COUNTED ALWAYS. After a reset over any buffer, and after any calls from there on, refused or not, the counts are those of the log read
-- from its start.
abbrev pub CountedFromReset : Type 0
CountedFromReset = (p : List ℕ) (qs : List Call) → Lent (empty, p) qs → Counted (after_all (empty, p) qs).0 (after_all (empty, p) qs).1

-- So from any session that is counted.
abbrev pub CountedAlways : Type 0
CountedAlways = (h : Held) (qs : List Call) → Counted h.0 h.1 → Lent h qs → Counted (after_all h qs).0 (after_all h qs).1

-- That is what reading the log whole gives: these events, and no others.
abbrev pub CountedIsReading : Type 0
CountedIsReading =
    (s : Session) (p : List ℕ) → Counted s p
    → (es : List Event) × (whole_of (take s.used p) ≡ all es) × (s.events ≡ length es) × (s.unknown ≡ (counts_of es).unknown)

-- Nothing wraps: no count is more than the bytes used, and those are in the buffer.
abbrev pub NothingWraps : Type 0
NothingWraps = (s : Session) (p : List ℕ) → Counted s p → (s.unknown ≤ s.events) × (s.events ≤ s.used) × (s.used ≤ length p)

-- AN APPEND answers, and leaves in the buffer, what visiting does from `used` on.
abbrev pub AppendIsAVisit : Type 0
AppendIsAVisit = (b f : List ℕ) (h : Held) → ((appended b f h).0, (appended b f h).1.1) ≡ visit_of b f h.1 h.0.used

-- Refused, it changes no count and no byte.
abbrev pub RefusedAppend : Type 0
RefusedAppend = (b f : List ℕ) (h : Held) → Refusal (appended b f h).0 → (appended b f h).1 ≡ h

-- Where `used` lies past the end of the buffer lent, the append is refused: as a visit with room is, or 7 with the bytes needed.
abbrev pub PastTheEnd : Type 0
PastTheEnd =
    (b f : List ℕ) (h : Held) (q : List ℕ) (t : ℕ) → length h.1 < h.0.used → t + most_bytes ≤ length q
    → (appended b f h).0 ≡ unroomed (visit_of b f q t).0

-- A RESET makes all counts 0 and clears no byte; so the next append is a visit at the start.
abbrev pub ResetEmpties : Type 0
ResetEmpties =
    (h : Held) (b f p : List ℕ)
    → (after h reset ≡ (empty, h.1)) × (((appended b f ((after h reset).0, p)).0, (appended b f ((after h reset).0, p)).1.1) ≡ visit_of b f p 0)

-- TABLES. What is counted and what is not, and what stays in the buffer.
abbrev pub RowsHold : Type 0
RowsHold =
    (rows_from (empty, buffer 52) calls ≡ rows)
    × (left_by (empty, buffer 52) calls ≡ left)
    × (rows_from (session 51 13 2, buffer 50) past_calls ≡ past_rows)
    × (rows_from (session 0 (word - 1) (word - 1), buffer 16) (append P2 [] ∷ []) ≡ wild_rows)
