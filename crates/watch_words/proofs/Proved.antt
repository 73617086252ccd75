-- Every statement of specs/Promises.antt, proved: each part stands at bits of its own. Assumes nothing.
use native.Mathlib.Omega.{arith}
use Prim.Native.Nat.{◌^◌, ◌<◌}
use Rattle.laws.specs.Refusals.{refusal_number}
use Rattle.laws.specs.declared.refusals.Refusal.{Refusal}
use Rattle.laws.specs.declared.refusals.Refusal.TheVariants.{Malformed, Outside, BadFile, Complex, Nameless, Sizeless, NoRoom, Cut, Unlisted, Full}
use Rattle.watching.specs.Verdicts.{verdict_number}
use Rattle.watching.specs.declared.verdicts.Verdict.{Verdict}
use Rattle.watching.specs.declared.verdicts.Verdict.TheVariants.{NoWrite, AddressUnknown, NoneTouched, PartTouched, WholeTouched}
use Rattle.watch_words.specs.Promises as promised

refusal_small : (r : Refusal) → refusal_number r < 2 ^ 8
refusal_small Malformed = omega arith
refusal_small Outside = omega arith
refusal_small BadFile = omega arith
refusal_small (Complex o) = omega arith
refusal_small Nameless = omega arith
refusal_small Sizeless = omega arith
refusal_small (NoRoom n) = omega arith
refusal_small Cut = omega arith
refusal_small Unlisted = omega arith
refusal_small Full = omega arith

pub step_unpacks : promised.StepUnpacks
step_unpacks = (
  λ s v t o. (omega arith, omega arith, omega arith, omega arith, omega arith, omega arith, omega arith),
  λ r. (omega (arith, refusal_small r), omega (arith, refusal_small r)),
)

verdict_small : (v : Verdict) → verdict_number v < 2 ^ 8
verdict_small NoWrite = omega arith
verdict_small AddressUnknown = omega arith
verdict_small NoneTouched = omega arith
verdict_small PartTouched = omega arith
verdict_small WholeTouched = omega arith

pub verdict_unpacks : promised.VerdictUnpacks
verdict_unpacks place v touched next t n =
    (omega (arith, verdict_small v), omega (arith, verdict_small v), omega (arith, verdict_small v), omega (arith, verdict_small v))
