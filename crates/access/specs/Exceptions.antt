-- Sets of exception vectors, a bit for each of 0 to 31, and the answers of the calls on them.
use Rattle.std.specs.Prelude.{ℕ, ◌^◌, Bool, false, not, cond, ltb, eqb, Result, Ok, Err}
use Rattle.laws.specs.Words.{bit}
use Rattle.laws.specs.Refusals.{refused_by}
use Rattle.laws.specs.declared.refusals.Refusal.{Refusal}
use Rattle.laws.specs.declared.refusals.Refusal.TheVariants.{Outside}
use Rattle.access.specs.Fields.{with_field}
use Rattle.access.specs.declared.Exception.{Exception}
use Rattle.access.specs.declared.ExceptionInfo.{ExceptionInfo}

abbrev pub exception_of : ℕ → Exception
exception_of v = record { vector = v }

abbrev pub info_of : ℕ → ExceptionInfo
info_of v = record { vectors = v }

-- some vector is in the set
abbrev pub any_of : ExceptionInfo → Bool
any_of i = not (eqb i.vectors 0)

abbrev pub none_of : ExceptionInfo → Bool
none_of i = not (any_of i)

-- the bits of a set with bit k set to b
unfoldable pub with_bit : ℕ → ℕ → Bool → ℕ
with_bit v k b = with_field v (2 ^ k) 2 (cond b 1 0)

-- a vector above 31 is refused 2
unfoldable pub set_of : ExceptionInfo → ℕ → Bool → Result ExceptionInfo Refusal
set_of i k b = cond (ltb 31 k) (Err Outside) (Ok (info_of (with_bit i.vectors k b)))

unfoldable pub may_of : ExceptionInfo → ℕ → Result Bool Refusal
may_of i k = cond (ltb 31 k) (Err Outside) (Ok (bit i.vectors k))

-- in a chain the first refusal stands
abbrev pub then_set : Result ExceptionInfo Refusal → ℕ → Bool → Result ExceptionInfo Refusal
then_set (Ok i) k b = set_of i k b
then_set (Err r) k b = Err r

-- document 01's number of an answer, and the values that it carries: 0 where it is refused
abbrev pub info_number : Result ExceptionInfo Refusal → ℕ
info_number a = refused_by a

abbrev pub info_vectors : Result ExceptionInfo Refusal → ℕ
info_vectors (Ok i) = i.vectors
info_vectors (Err r) = 0

abbrev pub may_number : Result Bool Refusal → ℕ
may_number a = refused_by a

abbrev pub may_value : Result Bool Refusal → Bool
may_value (Ok b) = b
may_value (Err r) = false
