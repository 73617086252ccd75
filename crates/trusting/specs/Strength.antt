-- Trust says no more than is true: what may change does change, in examples that are computed.
use Rattle.std.specs.Prelude.{ℕ, ◌≡◌, List, [], ◌∷◌, Some}
use Rattle.watching.specs.Traces.{Pair, verdicts_of, watch_of}
use Rattle.watching.specs.declared.verdicts.Verdict.{Verdict}
use Rattle.watching.specs.declared.verdicts.Verdict.TheVariants.{NoWrite, AddressUnknown, NoneTouched, PartTouched, WholeTouched}
use Rattle.trusting.specs.Rows.{position, blind, stores_at, told}
use Rattle.trusting.specs.Trust.{Along, Knowing}

-- An unknown verdict can become each of the other three.
abbrev pub becomes : ℕ → Verdict → Type 0
becomes a x = Knowing blind (stores_at a) × (verdicts_of position (stores_at a) ≡ NoWrite ∷ x ∷ NoWrite ∷ [])

abbrev pub UnknownBecomes : Type 0
UnknownBecomes =
    (verdicts_of position blind ≡ NoWrite ∷ AddressUnknown ∷ NoWrite ∷ [])
    × becomes 0x2000 NoneTouched
    × becomes 0xFFC PartTouched
    × becomes 0x1000 WholeTouched

-- The first part write can get earlier, and the last whole one later.
abbrev pub seen : List Pair
seen = blind ∷ stores_at 0xFFC ∷ stores_at 0x1000 ∷ blind ∷ []

abbrev pub seen_better : List Pair
seen_better = stores_at 0x1004 ∷ stores_at 0xFFC ∷ stores_at 0x1000 ∷ stores_at 0x1000 ∷ []

abbrev pub NumbersMove : Type 0
NumbersMove =
    Along Knowing seen seen_better
    × (watch_of position seen ≡ told 4 2 0 1 1 0 (Some 1) (Some 2))
    × (watch_of position seen_better ≡ told 4 0 0 2 2 0 (Some 0) (Some 3))
