-- A record whose fields are read from its lent bytes: the parts of its operands do not look at the digest. Assumes nothing.
use Prim.Native.Nat.{ℕ, ◌≤◌}
use mathlib.Core.Path.{◌≡◌, refl}
use mathlib.Core.List.{List}
use lib.ListN.{length}
use Rattle.digest.specs.declared.BehaviorDigest.{BehaviorDigest}
use Rattle.implicit.specs.declared.Way.{Way}
use Rattle.implicit.specs.declared.Way.TheVariants.{Read, Write}
use Rattle.record.specs.Records.{everyday_bytes, record_of, with_digest}
use Rattle.record.specs.declared.Record.{Record}
use Rattle.definition.specs.Behaviors.{fixed_up}
use Rattle.address.specs.declared.places.Sources.{Sources}
use Rattle.moves.specs.Touches.{access_events, deref_events, indexed_events}
use Rattle.steps.specs.Parts.{Lent, part_events, part_segment, based_events}

undigested : (y : Record) (d : BehaviorDigest) (w : Way) (at : Sources) (s : ℕ) → based_events y w at s ≡ based_events (with_digest y d) w at s
unfolding based_events part_segment part_events access_events deref_events indexed_events
undigested y d Read at s = refl
undigested y d Write at s = refl

pub lent_part : (x y : Record) (d : BehaviorDigest) → x ≡ with_digest y d → (w : Way) (at : Sources) (s : ℕ) → based_events y w at s ≡ based_events x w at s
lent_part x y d e w at s = rw e (undigested y d w at s)

-- a record after fix-ups, of what was read from the bytes
pub lent_fixed : (b : List ℕ) {x y : Record} → everyday_bytes ≤ length b → y ≡ record_of b → x ≡ fixed_up y → Lent x b
unfolding fixed_up
lent_fixed b h p q = (h, rw (q, p))
