use Rattle.std.proofs.Common.{[], drop}
use Rattle.laws.proofs.Keys.{otherwise}
use Rattle.laws.proofs.Lending.{silent}
use Rattle.definition.specs.Logs.{event_bytes}
use Rattle.implied.specs.Implied.{lists, list_events}
use Rattle.implied.proofs.put_list.Goals as goal

pub returns-in_default : goal.returns-in_default
unfolding list_events
returns-in_default c =
    rw (otherwise [] (drop 1 (lists c.args.x c.args.at)) c.args.x.digest.extra c.in_default.in_default-own.rest) (silent event_bytes c.args.log.now)
