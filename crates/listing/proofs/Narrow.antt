-- A listing looks at no other field of a record. Assumes nothing.
use Prim.Native.Nat.{ℕ, ◌≤◌}
use mathlib.Core.List.{List}
use mathlib.Core.Path.{◌≡◌, refl}
use Rattle.laws.specs.Lending.{size, Logged}
use Rattle.record.specs.Records.{spec_at}
use Rattle.record.specs.declared.Record.{Record}
use Rattle.definition.specs.Listings.{explicit_at, items_of, item_bytes}
use Rattle.listing.specs.Fields.{listed_of}

listed_is : (x : Record) → items_of (listed_of x.count (spec_at x 0) (spec_at x 1) (spec_at x 2) (spec_at x 3) x.digest) ≡ items_of x
unfolding items_of explicit_at listed_of
listed_is x = refl

module _ (x : Record) where
  pub narrow_room :
      {k : ℕ} → size item_bytes (items_of x) ≤ k
      → size item_bytes (items_of (listed_of x.count (spec_at x 0) (spec_at x 1) (spec_at x 2) (spec_at x 3) x.digest)) ≤ k
  narrow_room h = rw (listed_is x) h

  pub narrow_logged :
      {old new : List ℕ} {n : ℕ}
      → Logged item_bytes (items_of (listed_of x.count (spec_at x 0) (spec_at x 1) (spec_at x 2) (spec_at x 3) x.digest)) old new n
      → Logged item_bytes (items_of x) old new n
  narrow_logged l = rw (listed_is x) at l
