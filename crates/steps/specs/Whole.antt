-- The events of the whole log, from what the record's addresses are made of.
use Rattle.std.specs.Prelude.{ℕ, Bool, List, [], ◌∷◌, cond}
use Rattle.laws.specs.Lists.{flat}
use Rattle.access.specs.Accesses.{reading, writing}
use Rattle.digest.specs.Digests.{flags_access}
use Rattle.implicit.specs.declared.Way.{Way}
use Rattle.implicit.specs.declared.Way.TheVariants.{Read, Write}
use Rattle.record.specs.declared.Record.{Record}
use Rattle.definition.specs.Steps.{rflags}
use Rattle.definition.specs.declared.Event.{Event}
use Rattle.definition.specs.declared.Event.TheVariants.{RegisterRead, RegisterWrite}
use Rattle.address.specs.declared.places.Sources.{Sources}
use Rattle.steps.specs.Parts.{explicit_events}
use Rattle.implied.specs.Implied.{list_events}

abbrev pub flags_read : Record → List Event
flags_read x = cond (reading (flags_access x.digest)) (RegisterRead rflags ∷ []) []

abbrev pub flags_write : Record → List Event
flags_write x = cond (writing (flags_access x.digest)) (RegisterWrite rflags ∷ []) []

-- whether an access, as its number, goes this way
abbrev pub goes : Way → ℕ → Bool
goes Read a = reading a
goes Write a = writing a

-- the flags, where their access goes this way
unfoldable pub flags_by : Way → Record → List Event
flags_by Read x = flags_read x
flags_by Write x = flags_write x

-- implicit list, flags read, flags write, explicit operands
unfoldable pub log_events : Record → Sources → List Event
log_events x at = flat (list_events x at.implied x.digest.extra ∷ flags_read x ∷ flags_write x ∷ explicit_events x at ∷ [])
