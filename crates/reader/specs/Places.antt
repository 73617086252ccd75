-- The places of a reader's bytes.
use Rattle.std.specs.Prelude.{ℕ, List, Option, Some, None, Bool, cond, not, ◌&&◌, ◌||◌, ◌++◌, length, take, drop, replicate, ltb, eqb}

-- the bytes of a place: no item is longer
abbrev pub item_room : ℕ
item_room = 160

-- the first n bytes of a place's, where they are so many as a place has and n is no more
abbrev pub front_of : List ℕ → ℕ → Option (List ℕ)
front_of b n = cond (not (eqb (length b) item_room) || ltb item_room n) None (Some (take n b))

-- whether bytes are so many as a place has, and n is no more
unfoldable pub is_front : List ℕ → ℕ → Bool
is_front b n = eqb (length b) item_room && not (ltb item_room n)

-- all bytes of a place: zeros stand behind those that are kept
abbrev pub room_of : List ℕ → List ℕ
room_of l = l ++ drop (length l) (replicate item_room 0)
