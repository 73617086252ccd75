use Rattle.std.proofs.Common.{arith, lt-ltb, le-ltb}
use Rattle.sets.specs.Sets.{joined}
use Rattle.registers.specs.Files.{part_of}
use Rattle.fetching.specs.Needs.{slots_of}
use Rattle.fetch.proofs.Held.{held_is, held_not}
use Rattle.fetch.proofs.slots.with_register.Goals as goal

pub with-requires : goal.with-requires
with-requires c = omega (arith, (held_is (part_of c.args.y).slot c.in-Some.slot c.in-Some.ensures).1)

pub returns-in-Some : goal.returns-in-Some
unfolding slots_of joined
returns-in-Some c =
    let h = held_is (part_of c.args.y).slot c.in-Some.slot c.in-Some.ensures in
    rw (h.0, lt-ltb _ _ h.1) c.with.ensures

pub returns-in-None : goal.returns-in-None
unfolding slots_of joined
returns-in-None c = rw (le-ltb _ _ (held_not (part_of c.args.y).slot c.in-None.ensures))
