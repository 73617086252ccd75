-- No listing needs over most_listed bytes, whatever the record. Assumes nothing.
use Prim.Native.Nat.{ℕ, ◌≤◌, zero-le}
use native.Mathlib.Omega.{arith}
use mathlib.Core.List.{[], ◌∷◌}
use lib.ListN.{length, take}
use lib.Dec.{eqb}
use Rattle.laws.specs.Words.{little}
use Rattle.laws.specs.Lists.{flat}
use Rattle.laws.specs.Lending.{size}
use Rattle.digest.specs.Digests.{flags_access}
use Rattle.implicit.specs.Lists.{implicits, implicit_of}
use Rattle.implicit.specs.declared.Entry.{Entry}
use Rattle.record.specs.declared.Record.{Record}
use Rattle.definition.specs.Limits.{most_listed}
use Rattle.definition.specs.Listings.{entry_items, explicit_at, flag_items, items_of, operand_bytes, item_bytes, listing_of}
use Rattle.definition.specs.declared.Item.{Item}
use Rattle.definition.proofs.Weights.{cond_le, weigh, weigh_append, weigh_cond, weigh_take, weigh_each, length_each, light_at}

abbrev item_length : Item → ℕ
item_length i = length (item_bytes i)

abbrev entry_length : Entry → ℕ
entry_length e = weigh item_length (entry_items e)

-- no list lists in more than 16 bytes, which antt computes
lists_length : (l : ℕ) → weigh entry_length (implicit_of l) ≤ 16
unfolding implicit_of entry_items item_bytes operand_bytes little
lists_length l = light_at entry_length 16 implicits tt l

flags_length : (a : ℕ) → weigh item_length (flag_items a) ≤ 2
unfolding flag_items item_bytes
flags_length a = simp weigh_cond (cond_le (eqb a 0) zero-le (omega arith))

operands_length : (x : Record) → weigh item_length (take x.count (explicit_at x 0 ∷ explicit_at x 1 ∷ explicit_at x 2 ∷ explicit_at x 3 ∷ [])) ≤ 16
unfolding explicit_at item_bytes
operands_length x = weigh_take item_length x.count (explicit_at x 0 ∷ explicit_at x 1 ∷ explicit_at x 2 ∷ explicit_at x 3 ∷ [])

pub listing_bytes : (x : Record) → length (listing_of x) ≤ most_listed
unfolding items_of flat
listing_bytes x =
    simp (length_each, weigh_append)
    (omega (
      arith,
      flags_length (flags_access x.digest),
      weigh_each item_length entry_length entry_items (λ e. omega arith) (implicit_of x.digest.extra),
      lists_length x.digest.extra,
      operands_length x,
    ))

-- the same, as the room that the items need
pub items_size : (x : Record) → size item_bytes (items_of x) ≤ most_listed
unfolding size
items_size x = listing_bytes x
