-- A log read whole, event by event, as a function.
use Rattle.std.specs.Prelude.{ℕ, zero, suc, ◌≡◌, List, [], ◌∷◌, ◌++◌, length, drop}
use Rattle.laws.specs.declared.refusals.Refusal.{Refusal}
use Rattle.definition.specs.declared.Event.{Event}
use Rattle.definition.specs.declared.Reading.{Reading}
use Rattle.definition.specs.declared.Reading.TheVariants.{Found, Bad, Finished}
use Rattle.definition.specs.Readings.{read_front, Reads}

-- a log reads whole, as these events; or behind these events it is refused so
pub data Whole : Type 0 where
  all : List Event → Whole
  broken : List Event → Refusal → Whole

-- the events up to the end, or up to the first that does not read
abbrev pub events_in : Whole → List Event
events_in (all es) = es
events_in (broken es r) = es

abbrev pub in_front : Event → Whole → Whole
in_front e (all es) = all (e ∷ es)
in_front e (broken es r) = broken (e ∷ es) r

abbrev pub onward : Reading → (ℕ → Whole) → Whole
onward (Found e n) rest = in_front e (rest n)
onward (Bad r) rest = broken [] r
onward Finished rest = all []

-- no log has more events than bytes, so its length is fuel enough
unfoldable pub read_from : ℕ → List ℕ → Whole
read_from zero l = all []
read_from (suc fuel) l = onward (read_front l) (λ n. read_from fuel (drop n l))

unfoldable pub whole_of : List ℕ → Whole
whole_of l = read_from (length l) l

-- a log is broken: some front of it reads whole, as these events, and what stands behind them is refused so
pub record Broken (l : List ℕ) (es : List Event) (r : Refusal) : Type 0 where
  pub front : List ℕ
  pub rest : List ℕ
  pub whole : l ≡ front ++ rest
  pub before : Reads front es
  pub refused : read_front rest ≡ Bad r
