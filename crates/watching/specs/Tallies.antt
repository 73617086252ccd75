-- Verdicts counted.
use Rattle.std.specs.Prelude.{ℕ, ◌+◌, ◌%◌, List, [], ◌∷◌}
use Rattle.definition.specs.Addresses.{word}
use Rattle.watching.specs.declared.verdicts.Verdict.{Verdict}
use Rattle.watching.specs.declared.verdicts.Verdict.TheVariants.{NoWrite, AddressUnknown, NoneTouched, PartTouched, WholeTouched}
use Rattle.watching.specs.declared.tallies.Tally.{Tally}

abbrev pub no_tally : Tally
no_tally = record { unknown = 0; none = 0; part = 0; whole = 0 }

-- one verdict more
unfoldable pub counting : Verdict → Tally → Tally
counting NoWrite t = t
counting AddressUnknown t = record { unknown = t.unknown + 1; none = t.none; part = t.part; whole = t.whole }
counting NoneTouched t = record { unknown = t.unknown; none = t.none + 1; part = t.part; whole = t.whole }
counting PartTouched t = record { unknown = t.unknown; none = t.none; part = t.part + 1; whole = t.whole }
counting WholeTouched t = record { unknown = t.unknown; none = t.none; part = t.part; whole = t.whole + 1 }

unfoldable pub tally_of : List Verdict → Tally
tally_of [] = no_tally
tally_of (v ∷ vs) = counting v (tally_of vs)

abbrev pub total : Tally → ℕ
total t = t.unknown + t.none + t.part + t.whole

-- two tallies together, and the same modulo two to the 64
abbrev pub summed : Tally → Tally → Tally
summed s t = record { unknown = s.unknown + t.unknown; none = s.none + t.none; part = s.part + t.part; whole = s.whole + t.whole }

unfoldable pub added : Tally → Tally → Tally
added s t = record {
  unknown = (s.unknown + t.unknown) % word;
  none = (s.none + t.none) % word;
  part = (s.part + t.part) % word;
  whole = (s.whole + t.whole) % word;
}
