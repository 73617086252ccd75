-- The walk along a listing. A cursor is a place, held as the given Rust holds it: before the explicit operands, 0 stands at the flags
-- and i + 1 at entry i of the implicit list; among the explicit operands, i stands at operand i. The record is one after fix-ups.
use Rattle.std.specs.Prelude.{ℕ, ◌+◌, ◌-◌, Option, None, Some, Bool, true, false, cond, List, [], ◌∷◌, ◌++◌, take, drop, eqb}
use Rattle.laws.specs.Lists.{each}
use Rattle.digest.specs.Digests.{flags_access}
use Rattle.implicit.specs.Lists.{implicit_of, entry_at}
use Rattle.implicit.specs.declared.Entry.{Entry}
use Rattle.record.specs.declared.Record.{Record}
use Rattle.definition.specs.declared.Item.{Item}
use Rattle.definition.specs.Listings.{entry_items, explicit_at, flag_items, items_of}
use Rattle.listing.specs.declared.AccessIter.{AccessIter}

abbrev pub place : Bool → ℕ → AccessIter
place e n = record { explicit = e; next = n }

-- The items that are left at a place: all of them at the first
unfoldable pub explicit_items : Record → List Item
explicit_items x = take x.count (explicit_at x 0 ∷ explicit_at x 1 ∷ explicit_at x 2 ∷ explicit_at x 3 ∷ [])

unfoldable pub implicit_items : Record → ℕ → List Item
implicit_items x i = each entry_items (drop i (implicit_of x.digest.extra))

unfoldable pub items_from : Record → AccessIter → List Item
items_from x c =
    cond c.explicit (drop c.next (explicit_items x))
    (cond (eqb c.next 0) (items_of x) (implicit_items x (c.next - 1) ++ explicit_items x))

-- what a step finds: an item and the place behind it, or nothing left
abbrev pub Step : Type 0
Step = Option (Item × AccessIter)

-- what is found at a place of the implicit list
abbrev pub items_at : Option Entry → List Item
items_at (Some e) = entry_items e
items_at None = []

-- The answers, by where the walk stands: the first of the items there and the place behind it; where there are none, what follows
abbrev pub first_in : List Item → AccessIter → Step → Step
first_in [] c r = r
first_in (i ∷ is) c r = Some (i, c)

unfoldable pub explicit_next : Record → ℕ → Step
explicit_next x i = first_in (drop i (explicit_items x)) (place true (i + 1)) None

unfoldable pub implicit_next : Record → ℕ → Step
implicit_next x i = first_in (items_at (entry_at x.digest.extra i)) (place false (i + 2)) (explicit_next x 0)

unfoldable pub flags_next : Record → Step
flags_next x = first_in (flag_items (flags_access x.digest)) (place false 1) (implicit_next x 0)

unfoldable pub next_of : Record → AccessIter → Step
next_of x c =
    cond c.explicit (explicit_next x c.next) (cond (eqb c.next 0) (flags_next x) (implicit_next x (c.next - 1)))

-- what an answer says of the items that were left: its item, and those left at its place; or none
abbrev pub items_by : Record → Step → List Item
items_by x (Some f) = f.0 ∷ items_from x f.1
items_by x None = []
