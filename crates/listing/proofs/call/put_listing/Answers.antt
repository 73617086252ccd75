use Rattle.listing.proofs.Narrow.{narrow_logged}
use Rattle.listing.proofs.call.put_listing.Goals as goal

pub returns : goal.returns
returns c = narrow_logged c.args.x c.put_fields.ensures
