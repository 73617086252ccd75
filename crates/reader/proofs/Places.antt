-- Files and their refusal. Assumes nothing.
use Rattle.std.specs.Prelude.{Result}
use Rattle.std.specs.Result.{is_ok}
use mathlib.Core.Path.{◌≡◌, refl, ◌∙◌, ap}
use mathlib.Core.List.{List}
use mathlib.Core.Bool.{Bool, true, false, cond}
use Prim.Native.Nat.{ℕ}
use Rattle.laws.specs.Refusals.{answered_by}
use Rattle.laws.specs.declared.refusals.Refusal.{Refusal}
use Rattle.registers.specs.Files.{is_file}
use Rattle.registers.specs.Told.{file_refusal}

-- a file that is not refused
pub file_passes : (b : List ℕ) {r : Result (Unit {0}) Refusal} → r ≡ answered_by (file_refusal b) tt → is_ok r ≡ is_file b
unfolding file_refusal
file_passes b {r} e = ap is_ok e ∙ go (is_file b)
  where
    go : (t : Bool) → is_ok (answered_by (cond t 0 3) (tt {0})) ≡ t
    go true = refl
    go false = refl
