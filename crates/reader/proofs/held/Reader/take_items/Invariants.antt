use Rattle.std.proofs.Common.{◌≡◌, ◌≤◌, length}
use Rattle.reader.specs.Items.{PartIn, onward, taking}
use Rattle.reader.specs.declared.items.Brought.TheVariants.{Nothing}
use Rattle.reader.proofs.Turns.{left}
use Rattle.reader.proofs.held.Reader.take_items.Given as goal

abbrev pub invariant-loop-self : goal.invariant-loop-self
invariant-loop-self l =
    record {
      part : PartIn l.t.brought l.self.kept;
      within : l.t.taken ≤ length l.chunk;
      stopped : l.self.stopped ≡ l.fn.self.stopped;
      means : onward l.t l.self l.chunk ≡ onward (taking Nothing 0) l.fn.self l.chunk;
    }

abbrev pub decreases-loop-self : goal.decreases-loop-self
decreases-loop-self l = left l.t (length l.chunk)
