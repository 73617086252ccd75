-- TRUST OVER A WHOLE RECORDING: demand 3 for a watch. Two traces have the same records and are replayed against the same variable; at each
-- step both files are well-formed, and the second knows all that the first knows, with equal values. What was found in the first run
-- stands in the second. The statements hold for traces of any length. proofs/Trust.antt proves them; nothing is assumed.
use Rattle.std.specs.Prelude.{ℕ, ◌≤◌, ◌≡◌, List, [], ◌∷◌, true, Option, None, Some}
use Rattle.registers.specs.Files.{file_of, is_file}
use Rattle.definition.specs.Visits.{number_of}
use Rattle.promises.specs.Refinement.{Extends, AgreeOn}
use Rattle.watching.specs.Tallies.{total}
use Rattle.watching.specs.Traces.{Pair, answer_to, logged_by, verdicts_of, watch_of}
use Rattle.watching.specs.declared.verdicts.Variable.{Variable}
use Rattle.watching.specs.declared.verdicts.Verdict.{Verdict}
use Rattle.watching.specs.declared.verdicts.Verdict.TheVariants.{AddressUnknown, NoneTouched, PartTouched, WholeTouched}
use Rattle.watching.specs.declared.watch.Watch.{Watch}
use Rattle.trusting.specs.Promises.{Watched}

-- two lists of the same length, element by element
pub data Along {A : Type 0} (R : A → A → Type 0) : List A → List A → Type 0 where
  end : Along R [] []
  next : {x y : A} {xs ys : List A} → R x y → Along R xs ys → Along R (x ∷ xs) (y ∷ ys)

-- a pair of the first trace and the pair of the second at the same place: the same record, and a file that knows more
pub record Knowing (p q : Pair) : Type 0 where
  pub same_record : p.0 ≡ q.0
  pub first_file : is_file p.1 ≡ true
  pub second_file : is_file q.1 ≡ true
  pub more : Extends (file_of p.1) (file_of q.1)

-- a verdict stands; an unknown one may stay, or be found to be none, part or whole
pub data Stands : Verdict → Verdict → Type 0 where
  stays : {x : Verdict} → Stands x x
  found_none : Stands AddressUnknown NoneTouched
  found_part : Stands AddressUnknown PartTouched
  found_whole : Stands AddressUnknown WholeTouched

-- Both pairs are refused with the same answer, number and opcode; or neither is, and the verdicts stand, event by event.
pub data Upheld (v : Variable) (p q : Pair) : Type 0 where
  refused_alike : (number_of (answer_to p) ≡ 0 → ⊥) → answer_to p ≡ answer_to q → Upheld v p q
  stood : number_of (answer_to p) ≡ 0 → number_of (answer_to q) ≡ 0 → Along Stands (verdicts_of v p) (verdicts_of v q) → Upheld v p q

abbrev pub VerdictsStand : Type 0
VerdictsStand = (v : Variable) (ps qs : List Pair) → Along Knowing ps qs → Along (Upheld v) ps qs

-- what was found is found no later, and no earlier
abbrev pub NoLater : Option ℕ → Option ℕ → Type 0
NoLater (Some i) y = (j : ℕ) × (y ≡ Some j) × (j ≤ i)
NoLater None y = Unit {0}

abbrev pub NoEarlier : Option ℕ → Option ℕ → Type 0
NoEarlier (Some i) y = (j : ℕ) × (y ≡ Some j) × (i ≤ j)
NoEarlier None y = Unit {0}

-- What the second watch keeps of the first: the unknown count never grows; none, part and whole never fall; the write events and the
-- refused pairs are as many; a first part write is found no later, a last whole one no earlier.
pub record Trusted (s t : Watch) : Type 0 where
  pub pairs : s.pairs ≡ t.pairs
  pub unknown : t.tally.unknown ≤ s.tally.unknown
  pub none : s.tally.none ≤ t.tally.none
  pub part : s.tally.part ≤ t.tally.part
  pub whole : s.tally.whole ≤ t.tally.whole
  pub writes : total s.tally ≡ total t.tally
  pub refused : s.refused ≡ t.refused
  pub first : NoLater s.first t.first
  pub last : NoEarlier s.last t.last

abbrev pub WatchesTrusted : Type 0
WatchesTrusted = (v : Variable) (ps qs : List Pair) → Watched v → Along Knowing ps qs → Trusted (watch_of v ps) (watch_of v qs)

-- Where the files are well-formed and answer alike every register that the logs read, whatever else they know, all is equal: the five
-- counts, and both numbers.
pub record Agreeing (p q : Pair) : Type 0 where
  pub same_record : p.0 ≡ q.0
  pub first_file : is_file p.1 ≡ true
  pub second_file : is_file q.1 ≡ true
  pub agree : AgreeOn (file_of p.1) (file_of q.1) (logged_by p)

abbrev pub WatchesEqual : Type 0
WatchesEqual = (v : Variable) (ps qs : List Pair) → Along Agreeing ps qs → watch_of v ps ≡ watch_of v qs
