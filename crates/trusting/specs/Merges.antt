-- One trace and then another: what their watches say together.
use Rattle.std.specs.Prelude.{ℕ, ◌+◌, Option, None, Some}
use Rattle.watching.specs.Tallies.{summed}
use Rattle.watching.specs.Traces.{earlier, later}
use Rattle.watching.specs.declared.watch.Watch.{Watch}

-- a number so much further
abbrev pub shifted : ℕ → Option ℕ → Option ℕ
shifted n (Some i) = Some (n + i)
shifted n None = None

-- counts add; the first is the earlier, the last the later; the second trace's numbers go on behind the first's
unfoldable pub merged : Watch → Watch → Watch
merged s t =
    record {
      variable = s.variable;
      pairs = s.pairs + t.pairs;
      tally = summed s.tally t.tally;
      refused = s.refused + t.refused;
      first = earlier s.first (shifted s.pairs t.first);
      last = later s.last (shifted s.pairs t.last);
    }
