-- Why a call is refused, and the numbers of document 01 (1 to 7) and of document 02 (8 to 10).
use Rattle.std.specs.Prelude.{ℕ, List, [], ◌∷◌, cond, get_or, eqb, Result, Ok, Err}
use Rattle.laws.specs.declared.refusals.Refusal.{Refusal}
use Rattle.laws.specs.declared.refusals.Refusal.TheVariants.{Malformed, Outside, BadFile, Complex, Nameless, Sizeless, NoRoom, Cut, Unlisted, Full}

abbrev pub refusal_number : Refusal → ℕ
refusal_number Malformed = 1
refusal_number Outside = 2
refusal_number BadFile = 3
refusal_number (Complex o) = 4
refusal_number Nameless = 5
refusal_number Sizeless = 6
refusal_number (NoRoom n) = 7
refusal_number Cut = 8
refusal_number Unlisted = 9
refusal_number Full = 10

-- the refusal of a number, where nothing goes beside it
abbrev pub refusal_named : ℕ → Refusal
refusal_named n =
    get_or
    (Malformed ∷ Malformed ∷ Outside ∷ BadFile ∷ Complex 0 ∷ Nameless ∷ Sizeless ∷ NoRoom 0 ∷ Cut ∷ Unlisted ∷ Full ∷ [])
    n
    Malformed

-- what is answered by the number of the first test that failed, 0 for none
abbrev pub answered_by : {A : Type 0} → ℕ → A → Result A Refusal
answered_by n x = cond (eqb n 0) (Ok x) (Err (refusal_named n))

-- the number of an answer, 0 where it is not refused
abbrev pub refused_by : {A : Type 0} → Result A Refusal → ℕ
refused_by (Ok x) = 0
refused_by (Err r) = refusal_number r
