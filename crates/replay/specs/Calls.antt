-- The calls that the list has answers of, under their numbers.
use Rattle.std.specs.Prelude.{◌≡◌, ℕ, ◌<◌, ◌⊎◌, Result, MatchResult}
use Rattle.replay.specs.declared.call.Call.{Call}
use Rattle.replay.specs.declared.call.Call.TheVariants.{Visit, Listing, Digest, Privilege, Exceptions, Event}
use Rattle.replay.specs.declared.call.NoCall.{NoCall}

abbrev pub number_of : Call → ℕ
number_of Visit = 1
number_of Listing = 2
number_of Digest = 3
number_of Privilege = 4
number_of Exceptions = 5
number_of Event = 6

-- the call with this number, or the number, which no call has
abbrev pub Decodes : ℕ → Result Call NoCall → Type 0
Decodes n r = MatchResult r (λ call. number_of call ≡ n) (λ e. (e.0 ≡ n) × ((n ≡ 0) ⊎ (6 < n)))
