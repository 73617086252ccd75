-- How many events a log has.
use Rattle.std.specs.Prelude.{ℕ, List, length, Result, Ok, Err}
use Rattle.laws.specs.declared.refusals.Refusal.{Refusal}
use Rattle.definition.specs.declared.Reading.{Reading}
use Rattle.definition.specs.declared.Reading.TheVariants.{Found, Bad, Finished}
use Rattle.event.specs.Wholes.{Whole, all, broken, whole_of}

abbrev pub count_in : Whole → Result ℕ Refusal
count_in (all es) = Ok (length es)
count_in (broken es r) = Err r

-- how many events a log has, or why it does not read whole
unfoldable pub counted_of : List ℕ → Result ℕ Refusal
counted_of l = count_in (whole_of l)

-- what is answered where reading goes no further, after n events
abbrev pub end_of : Reading → ℕ → Result ℕ Refusal
end_of (Found e next) n = Ok n
end_of (Bad r) n = Err r
end_of Finished n = Ok n
