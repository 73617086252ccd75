use Rattle.std.proofs.Common.{rules}
use Rattle.reader.proofs.Rooms.{added_long, added_zeros}
use Rattle.reader.proofs.held.Place.add.Goals as goal

pub invariant_of-self : goal.invariant_of-self
invariant_of-self c =
    let old = c.self.inside in
    let more = c.args.more.now in
    let new = c.copy_from_slice.new.self in
    let long = added_long old.used old.room c.args.self.now more new c.self.view_is c.requires c.self.invariant.0 c.self.told c.copy_from_slice.ensures.after in
    let zeros = added_zeros old.used old.room c.args.self.now more new c.self.view_is c.requires c.self.invariant.0 c.self.told c.self.invariant.2 c.copy_from_slice.ensures.after in
    search (rules, long, zeros)
