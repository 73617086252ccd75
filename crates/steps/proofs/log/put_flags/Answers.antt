use Rattle.std.proofs.Common.{◌≡◌, Bool, true, false, [], ◌∷◌}
use Rattle.laws.proofs.Lending.{silent}
use Rattle.access.specs.Accesses.{access_of, access_number}
use Rattle.access.specs.declared.Access.{Access}
use Rattle.digest.specs.Digests.{flags_access}
use Rattle.digest.proofs.Laws.{flags_number}
use Rattle.implicit.specs.declared.Way.{Way}
use Rattle.implicit.specs.declared.Way.TheVariants.{Read, Write}
use Rattle.record.specs.declared.Record.{Record}
use Rattle.definition.specs.Logs.{event_bytes}
use Rattle.definition.specs.Steps.{rflags}
use Rattle.event.specs.Moves.{move_event}
use Rattle.steps.specs.Whole.{goes, flags_by}
use Rattle.steps.proofs.log.put_flags.Goals as goal

module _ (x : Record) {a : Access} {b : Bool} (e : a ≡ access_of (flags_access x.digest)) where
  logged : (w : Way) → b ≡ goes w (access_number a) → b ≡ true → flags_by w x ≡ move_event w rflags ∷ []
  unfolding flags_by
  logged Read g t = rw (← flags_number x.digest e, ← g, t)
  logged Write g t = rw (← flags_number x.digest e, ← g, t)

  left : (w : Way) → b ≡ goes w (access_number a) → b ≡ false → flags_by w x ≡ []
  unfolding flags_by
  left Read g t = rw (← flags_number x.digest e, ← g, t)
  left Write g t = rw (← flags_number x.digest e, ← g, t)

pub put_register-requires : goal.put_register-requires
put_register-requires c = rw (logged c.args.x c.flags_access.ensures c.args.way c.goes.ensures c.if-goes.true) at c.requires

pub returns-then-goes : goal.returns-then-goes
returns-then-goes c = rw (logged c.args.x c.flags_access.ensures c.args.way c.goes.ensures c.if-goes.true) c.put_register.ensures

pub returns-else-goes : goal.returns-else-goes
returns-else-goes c = rw (left c.args.x c.flags_access.ensures c.args.way c.goes.ensures c.if-goes.false) (silent event_bytes c.args.log.now)
