-- Two logs each, with the number, the sign and the part that they give.
use Rattle.std.specs.Prelude.{ℕ, List, [], ◌∷◌, ◌++◌, Bool, true, false, set}
use Rattle.difference.specs.Partings.{parted_of, parting_of}

abbrev pub row_of : List ℕ × List ℕ → ℕ × Bool × List ℕ
row_of q = ((parted_of q.0 q.1).number, (parted_of q.0 q.1).differs, parting_of q.0 q.1)

-- rbx is read; 8 bytes are read at 0x1008, or at an unknown address
abbrev pub rbx : List ℕ
rbx = 1 ∷ 0 ∷ 3 ∷ []

abbrev pub load : List ℕ
load = 3 ∷ 8 ∷ 16 ∷ 0 ∷ 0 ∷ 0 ∷ 0 ∷ 0 ∷ 0 ∷ 8 ∷ []

abbrev pub unknown : List ℕ
unknown = 5 ∷ 8 ∷ []

-- an unknown kind; a size of 0
abbrev pub no_kind : List ℕ
no_kind = 7 ∷ []

abbrev pub no_size : List ℕ
no_size = 5 ∷ 0 ∷ []

unfoldable pub rows : List ((List ℕ × List ℕ) × (ℕ × Bool × List ℕ))
rows =
    -- equal: no events, and some
    (([], []), (0, false, []))
    ∷ ((rbx ++ load, rbx ++ load), (0, false, []))
    -- the first ends early, from its start or later
    ∷ (([], load), (0, true, load))
    ∷ ((rbx, rbx ++ load), (0, true, load))
    -- the second ends early
    ∷ ((load, []), (0, true, []))
    ∷ ((rbx ++ load, rbx), (0, true, []))
    -- the part begins at the event that differs: known in one and unknown in the other, both ways
    ∷ ((rbx ++ unknown ++ rbx, rbx ++ load ++ rbx), (0, true, load ++ rbx))
    ∷ ((rbx ++ load ++ rbx, rbx ++ unknown ++ rbx), (0, true, unknown ++ rbx))
    -- and never inside it: the last byte of an address, the size, the number, the bank, a read for a write
    ∷ ((rbx ++ load ++ rbx, rbx ++ set load 8 1 ++ rbx), (0, true, set load 8 1 ++ rbx))
    ∷ ((rbx ++ load ++ rbx, rbx ++ set load 9 4 ++ rbx), (0, true, set load 9 4 ++ rbx))
    ∷ ((load ++ rbx, load ++ set rbx 2 4), (0, true, set rbx 2 4))
    ∷ ((load ++ rbx, load ++ set rbx 1 1), (0, true, set rbx 1 1))
    ∷ ((load ++ rbx, set load 0 4 ++ rbx), (0, true, set load 0 4 ++ rbx))
    ∷ ((rbx ++ rbx, set rbx 0 2 ++ rbx), (0, true, set rbx 0 2 ++ rbx))
    ∷ ((unknown ++ rbx, set unknown 0 6 ++ rbx), (0, true, set unknown 0 6 ++ rbx))
    -- events that stand again behind the difference do not count
    ∷ ((rbx ++ load ++ rbx, load ++ rbx), (0, true, load ++ rbx))
    -- refused: the first, the second, and the first's number if both
    ∷ ((rbx ++ no_kind, rbx), (1, false, []))
    ∷ ((rbx, rbx ++ no_size), (2, false, []))
    ∷ ((rbx ++ no_kind, no_size), (1, false, []))
    ∷ ((no_size, rbx ++ no_kind), (2, false, []))
    -- a log that is broken both ways gives its first
    ∷ ((no_size ++ no_kind, rbx), (2, false, []))
    -- a difference at event 0 hides no broken event later, in either log
    ∷ ((rbx, unknown ++ (3 ∷ 1 ∷ [])), (1, false, []))
    ∷ ((rbx ++ (5 ∷ 65 ∷ []), unknown), (2, false, []))
    -- nor does an early end
    ∷ (([], rbx ++ no_kind), (1, false, []))
    ∷ ((rbx ++ no_kind, []), (1, false, []))
    ∷ []
