-- The specs whose access adds the base of the record's segment, by their numbers.
use Rattle.std.specs.Prelude.{ℕ, Bool, not, ◌&&◌, ltb, eqb}

-- the specs of memory, but for 20 and 22, the destination of a string instruction
unfoldable pub takes_base : ℕ → Bool
takes_base s = ltb s 36 && ltb 17 s && not (eqb s 20) && not (eqb s 22)
