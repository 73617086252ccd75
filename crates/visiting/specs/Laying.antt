-- What was written aside, laid into a buffer from a start on.
use Rattle.std.specs.Prelude.{ℕ, ◌≤◌, List, cond, take}
use Rattle.laws.specs.Lending.{splice}
use Rattle.definition.specs.Refusals.{no_room}
use Rattle.definition.specs.declared.Answer.{Answer}
use Rattle.definition.specs.declared.Answer.TheVariants.{Done, Refused, Complex, Short}

-- an answer counts no more written bytes than so many
abbrev pub Within : Answer → ℕ → Type 0
Within (Done n) k = n ≤ k
Within (Refused m) k = Unit {0}
Within (Complex o) k = Unit {0}
Within (Short n) k = Unit {0}

-- the bytes are laid where they have room; else refusal 7 with how many they are
unfoldable pub laid_out : Answer → List ℕ → List ℕ → ℕ → Answer × List ℕ
laid_out (Done n) aside buffer start = cond (no_room n buffer start) (Short n, buffer) (Done n, splice buffer start (take n aside))
laid_out (Refused m) aside buffer start = (Refused m, buffer)
laid_out (Complex o) aside buffer start = (Complex o, buffer)
laid_out (Short n) aside buffer start = (Short n, buffer)
