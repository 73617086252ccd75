use Rattle.filing.specs.Feeds.{Ready}
use Rattle.sheet.proofs.Room.take_all.Given as goal

abbrev pub invariant-loop : goal.invariant-loop
invariant-loop l = Ready l.f l.self.carry
