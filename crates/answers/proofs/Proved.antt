-- Every statement of specs/Promises.antt, proved: each part stands at bits of its own. Assumes nothing.
use Prim.Native.Nat.{◌+◌}
use native.Mathlib.Omega.{arith}
use mathlib.Core.Path.{◌≡◌}
use mathlib.Core.Bool.{Bool, true, false, cond}
use Rattle.access.proofs.Laws.{level_lt}
use Rattle.definition.specs.Behaviors.{privilege_in}
use Rattle.answers.specs.Answers.{at}
use Rattle.answers.specs.Promises.{bits_at}
use Rattle.answers.specs.Promises as promised

pub answer_unpacks : promised.AnswerUnpacks
answer_unpacks a n o c = (omega arith, omega arith, omega arith)

pub digest_unpacks : promised.DigestUnpacks
digest_unpacks a n b o e = (omega arith, omega arith, omega arith, omega arith)

pub privilege_unpacks : promised.PrivilegeUnpacks
privilege_unpacks a n = (omega (arith, level_lt (privilege_in a)), omega (arith, level_lt (privilege_in a)))

pub exceptions_unpack : promised.ExceptionsUnpack
exceptions_unpack a n v = (omega arith, omega arith)

pub event_unpacks : promised.EventUnpacks
event_unpacks place r n l = (omega arith, omega arith)

pub difference_unpacks : promised.DifferenceUnpacks
difference_unpacks p n = differs p.differs
  where
    differs : (t : Bool) → (bits_at 0 8 (p.number + at 8 (cond t 1 0)) ≡ p.number) × (bits_at 8 1 (p.number + at 8 (cond t 1 0)) ≡ cond t 1 0)
    differs true = (omega arith, omega arith)
    differs false = (omega arith, omega arith)
