use Rattle.std.proofs.Common.{sym, ◌∙◌}
use Rattle.definition.specs.Limits.{most_listed}
use Rattle.definition.proofs.ListingBound.{listing_bytes}
use Rattle.laws.proofs.Room.{room_for_less}
use Rattle.listing.proofs.call.is_full.Goals as goal

-- where the longest listing has room, so has this one
pub returns-else-lacks_room : goal.returns-else-lacks_room
returns-else-lacks_room c =
    let a = c.args in
    sym (room_for_less most_listed _ a.start a.end (listing_bytes a.x) (sym c.lacks_room.ensures ∙ c.if-lacks_room.false))
