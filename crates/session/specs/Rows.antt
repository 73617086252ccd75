-- Rows of a session: calls one after the other over one buffer, and after each the answer and the three counts.
use Rattle.std.specs.Prelude.{ℕ, List, [], ◌∷◌, ◌++◌, drop}
use Rattle.definition.specs.declared.Answer.{Answer}
use Rattle.definition.specs.declared.Answer.TheVariants.{Done, Refused, Complex, Short}
use Rattle.promises.specs.Bench.{P2, P2_file, P2_log, P3_log}
use Rattle.promises.specs.Rows.{Patch, record_with, file_knowing, put, opcode, count, specs, behavior, RegRRR, Disp}
use Rattle.session.specs.declared.appends.Session.{Session}
use Rattle.session.specs.Sessions.{Held, appended, reset, after}

pub data Ask : Type 0 where
  append : List Patch → List Patch → Ask
  clear : Ask

abbrev pub Row : Type 0
Row = Answer × ℕ × ℕ × ℕ

abbrev pub row_of : Answer → Held → Row
row_of a h = (a, h.0.used, h.0.events, h.0.unknown)

unfoldable pub rows_from : Held → List Ask → List Row
rows_from h [] = []
rows_from h (append r f ∷ qs) =
    let o = appended (record_with r) (file_knowing f) h in
    row_of o.0 o.1 ∷ rows_from o.1 qs
rows_from h (clear ∷ qs) = row_of (Done 0) (after h reset) ∷ rows_from (after h reset) qs

-- the buffer that they leave
unfoldable pub left_by : Held → List Ask → List ℕ
left_by h [] = h.1
left_by h (append r f ∷ qs) = left_by (appended (record_with r) (file_knowing f) h).1 qs
left_by h (clear ∷ qs) = left_by (after h reset) qs

abbrev pub session : ℕ → ℕ → ℕ → Session
session u e k = record { used = u; events = e; unknown = k }

-- one register read; and a file with a known bit that there is not
abbrev pub one : List Patch
one = specs (RegRRR ∷ []) ∷ []

abbrev pub bad_file : List Patch
bad_file = put 4 (0x80 ∷ []) ∷ []

-- over 52 bytes
abbrev pub calls : List Ask
calls =
    append P2 P2_file
    ∷ append P2 []
    ∷ append P2 P2_file
    ∷ append one []
    ∷ append (count 5 ∷ []) []
    ∷ append P2 bad_file
    ∷ append (opcode 24 ∷ behavior 0x20 ∷ specs (Disp ∷ []) ∷ []) []
    ∷ append P2 []
    ∷ append [] []
    ∷ clear
    ∷ append P2 []
    ∷ []

unfoldable pub rows : List Row
rows =
    -- kinds 3 and 4 are at known addresses; an event is not a byte
    (Done 32, 32, 6, 0)
    -- kinds 5 and 6 are not
    ∷ (Done 16, 48, 12, 2)
    -- refused for room, with the bytes that this append needs; a shorter log has room
    ∷ (Short 32, 48, 12, 2)
    ∷ (Done 3, 51, 13, 2)
    -- refused otherwise
    ∷ (Refused 2, 51, 13, 2)
    ∷ (Refused 3, 51, 13, 2)
    ∷ (Complex 24, 51, 13, 2)
    ∷ (Short 16, 51, 13, 2)
    -- an empty log
    ∷ (Done 0, 51, 13, 2)
    -- emptied, and the room used again
    ∷ (Done 0, 0, 0, 0)
    ∷ (Done 16, 16, 6, 2)
    ∷ []

-- no byte is cleared: behind the new log stand the old ones
unfoldable pub left : List ℕ
left = P3_log ++ (drop 16 P2_log ++ (P3_log ++ (1 ∷ 0 ∷ 0 ∷ 0xEE ∷ [])))

-- `used` past the end of the buffer lent: 7 where none of 1 to 6 comes first, even for an empty log
abbrev pub past_calls : List Ask
past_calls = append P2 P2_file ∷ append [] [] ∷ append (count 5 ∷ []) [] ∷ append P2 bad_file ∷ []

unfoldable pub past_rows : List Row
past_rows = (Short 32, 51, 13, 2) ∷ (Short 0, 51, 13, 2) ∷ (Refused 2, 51, 13, 2) ∷ (Refused 3, 51, 13, 2) ∷ []

-- words that no session has: counts are modulo two to the 64
unfoldable pub wild_rows : List Row
wild_rows = (Done 16, 16, 5, 1) ∷ []
