-- The listing of a record that passed refusals 1, 2 and 4: only the room can still refuse it.
use Rattle.std.specs.Prelude.{ℕ, List, [], ◌∷◌, length}
use Rattle.laws.specs.Tests.{first_of}
use Rattle.record.specs.declared.Record.{Record}
use Rattle.definition.specs.Refusals.{no_room}
use Rattle.definition.specs.Visits.{outcome}
use Rattle.definition.specs.Listings.{listing_of}
use Rattle.definition.specs.declared.Answer.{Answer}

unfoldable pub listed_from : Record → List ℕ → ℕ → Answer × List ℕ
listed_from x buffer start =
    outcome (first_of ((no_room (length (listing_of x)) buffer start, 7) ∷ [])) x.opcode (listing_of x) buffer start
