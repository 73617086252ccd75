-- WHAT IS PROMISED of a watch over a trace, each statement after its sentence. proofs/Proved.antt proves them all; nothing is assumed.
-- The definitions that they speak of are those of the crate watching: verdicts over sets of bytes, and a trace as a fold of the step.
use Rattle.std.specs.Prelude.{ℕ, ◌+◌, ◌*◌, ◌%◌, ◌≤◌, ◌<◌, ◌≡◌, List, [], ◌∷◌, ◌++◌, true, false, ◌&&◌, length, get_or, take, ltb, Option, None, Some, Ok, Err}
use Rattle.laws.specs.declared.refusals.Refusal.TheVariants.{Outside}
use Rattle.laws.specs.Words.{bit}
use Rattle.laws.specs.Lists.{each}
use Rattle.laws.specs.Tests.{is_in}
use Rattle.definition.specs.Addresses.{word}
use Rattle.definition.specs.Limits.{most_events}
use Rattle.definition.specs.Readings.{read_at}
use Rattle.definition.specs.Visits.{number_of}
use Rattle.definition.specs.declared.Event.{Event}
use Rattle.definition.specs.declared.Event.TheVariants.{RegisterRead, RegisterWrite, MemoryRead, MemoryWrite, UnknownRead, UnknownWrite}
use Rattle.definition.specs.declared.Reading.TheVariants.{Found}
use Rattle.watching.specs.Verdicts.{is_length, bytes_from, verdict_of, store_touched, touched_of, name_at}
use Rattle.watching.specs.Tallies.{no_tally, tally_of, total, summed}
use Rattle.watching.specs.Traces.{Pair, most_pairs, answer_to, refusals, logged_by, verdicts_of, step_of, after_step, watch_of}
use Rattle.watching.specs.declared.verdicts.Variable.{Variable}
use Rattle.watching.specs.declared.verdicts.Naming.TheVariants.{Named}
use Rattle.watching.specs.declared.watch.Watch.{Watch}
use Rattle.watching.specs.declared.watch.Stepped.{Stepped}
use Rattle.trusting.specs.Merges.{merged}

-- a variable that `Watch::new` does not refuse
abbrev pub Watched : Variable → Type 0
Watched v = is_length v.length ≡ true

-- a trace that is not past the limit
abbrev pub Within : List Pair → Type 0
Within ps = length ps ≤ most_pairs

abbrev pub sum_of : (Pair → ℕ) → List Pair → ℕ
sum_of f [] = 0
sum_of f (p ∷ ps) = f p + sum_of f ps

-- COUNTS. After a trace a watch has taken its pairs; its four counts are those of the verdicts of all its pairs, and its refused pairs
-- are those that visiting refuses.
abbrev pub CountsAreCounts : Type 0
CountsAreCounts =
    (v : Variable) (ps : List Pair) → Watched v → Within ps
    → ((watch_of v ps).pairs ≡ length ps)
    × ((watch_of v ps).tally ≡ tally_of (each (verdicts_of v) ps))
    × ((watch_of v ps).refused ≡ sum_of (λ p. refusals (answer_to p)) ps)

-- memory writes, kinds 4 and 6, among events
unfoldable pub writes_in : List Event → ℕ
writes_in [] = 0
writes_in (RegisterRead y ∷ es) = writes_in es
writes_in (RegisterWrite y ∷ es) = writes_in es
writes_in (MemoryRead a n ∷ es) = writes_in es
writes_in (MemoryWrite a n ∷ es) = writes_in es + 1
writes_in (UnknownRead n ∷ es) = writes_in es
writes_in (UnknownWrite n ∷ es) = writes_in es + 1

-- The four counts add up to the write events of the pairs that were not refused.
abbrev pub FourAddUp : Type 0
FourAddUp = (v : Variable) (ps : List Pair) → Watched v → Within ps → total (watch_of v ps).tally ≡ writes_in (each logged_by ps)

-- how many verdicts of part, and of whole, a pair of a trace has, by its number
abbrev pub parts_at : Variable → List Pair → ℕ → ℕ
parts_at v ps i = (tally_of (verdicts_of v (get_or ps i ([], [])))).part

abbrev pub wholes_at : Variable → List Pair → ℕ → ℕ
wholes_at v ps i = (tally_of (verdicts_of v (get_or ps i ([], [])))).whole

-- the least number below n that has some, and the greatest; None where none has
abbrev pub IsFirst : (ℕ → ℕ) → ℕ → Option ℕ → Type 0
IsFirst f n (Some i) = (i < n) × (0 < f i) × ((j : ℕ) → j < i → f j ≡ 0)
IsFirst f n None = (j : ℕ) → j < n → f j ≡ 0

abbrev pub IsLast : (ℕ → ℕ) → ℕ → Option ℕ → Type 0
IsLast f n (Some i) = (i < n) × (0 < f i) × ((j : ℕ) → i < j → j < n → f j ≡ 0)
IsLast f n None = (j : ℕ) → j < n → f j ≡ 0

-- FIRST is the least number of a pair with a part verdict, LAST the greatest of one with a whole verdict.
abbrev pub FirstIsLeast : Type 0
FirstIsLeast = (v : Variable) (ps : List Pair) → Watched v → Within ps → IsFirst (parts_at v ps) (length ps) (watch_of v ps).first

abbrev pub LastIsGreatest : Type 0
LastIsGreatest = (v : Variable) (ps : List Pair) → Watched v → Within ps → IsLast (wholes_at v ps) (length ps) (watch_of v ps).last

-- An empty trace gives zeros and no numbers.
abbrev pub EmptyTrace : Type 0
EmptyTrace =
    (v : Variable) → watch_of v [] ≡ record { variable = v; pairs = 0; tally = no_tally; refused = 0; first = None; last = None }

-- NOTHING WRAPS, whatever the trace: the counts stay within the events that a million logs can have.
abbrev pub NothingWraps : Type 0
NothingWraps =
    (v : Variable) (ps : List Pair)
    → ((watch_of v ps).pairs ≤ most_pairs)
    × (total (watch_of v ps).tally ≤ most_events * most_pairs)
    × ((watch_of v ps).refused ≤ most_pairs)

-- A step's own answer says its counts: they are those of the pair's verdicts, beside what visiting answered; and by so much the watch
-- goes on, with no modulus.
abbrev pub StepTells : Type 0
StepTells =
    (v : Variable) (ps : List Pair) (p : Pair) → Watched v → length ps < most_pairs
    → (s : Stepped) × (step_of (watch_of v ps) p ≡ Ok s)
    × (s.visit ≡ answer_to p)
    × (s.tally ≡ tally_of (verdicts_of v p))
    × (s.watch.tally ≡ summed (watch_of v ps).tally s.tally)
    × (s.watch.refused ≡ (watch_of v ps).refused + refusals (answer_to p))

-- the watch with one refused pair more
abbrev pub refused_once : Watch → Watch
refused_once w =
    record { variable = w.variable; pairs = w.pairs + 1; tally = w.tally; refused = w.refused + 1; first = w.first; last = w.last }

-- A pair that visiting refuses keeps its number and is counted apart; it changes nothing else.
abbrev pub RefusedPairs : Type 0
RefusedPairs =
    (v : Variable) (ps : List Pair) (p : Pair) → Watched v → length ps < most_pairs → (number_of (answer_to p) ≡ 0 → ⊥)
    → watch_of v (ps ++ (p ∷ [])) ≡ refused_once (watch_of v ps)

-- PAST THE LIMIT, of any watch at all, a step is refused 2, says nothing else and changes nothing; so also where the length is none
-- that a variable has.
abbrev pub PastTheLimit : Type 0
PastTheLimit =
    (w : Watch) (p : Pair) → most_pairs ≤ w.pairs → (step_of w p ≡ Err Outside) × (after_step w p ≡ w)

abbrev pub NoSuchLength : Type 0
NoSuchLength =
    (w : Watch) (p : Pair) → is_length w.variable.length ≡ false
    → (step_of w p ≡ Err Outside) × (after_step w p ≡ w)

-- So a trace past the limit leaves the watch of its first 1,000,000 pairs.
abbrev pub BeyondTheLimit : Type 0
BeyondTheLimit = (v : Variable) (ps : List Pair) → Watched v → watch_of v ps ≡ watch_of v (take most_pairs ps)

-- PARTS MERGE, where both together are within the limit.
abbrev pub PartsMerge : Type 0
PartsMerge = (v : Variable) (ps qs : List Pair) → Watched v → Within (ps ++ qs) → watch_of v (ps ++ qs) ≡ merged (watch_of v ps) (watch_of v qs)

-- EVERY STORE NAMED. The event at a place of a log is named with the verdict that a step counts it by, the bytes that it wrote, and the
-- place after it.
abbrev pub NamedAsCounted : Type 0
NamedAsCounted =
    (v : Variable) (log : List ℕ) (at : ℕ) (e : Event) (next : ℕ) → Watched v → read_at log at ≡ Found e next
    → name_at v log at ≡ Named (verdict_of v e) (touched_of v e) next

-- Bit i of the bytes that a store wrote is set exactly where the variable has a byte i and it is among the store's.
abbrev pub BitsAreBytes : Type 0
BitsAreBytes =
    (v : Variable) (a n i : ℕ) → bit (store_touched v a n) i ≡ (ltb i v.length && is_in ((v.address + i) % word) (bytes_from a n))
