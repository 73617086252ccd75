-- Logs that read whole read whole one after the other, and no log has more events than bytes. Assumes nothing.
use Prim.Native.Nat.{ℕ, ◌≤◌}
use native.Mathlib.Omega.{arith}
use mathlib.Core.List.{List, ◌++◌}
use lib.ListN.{length, drop, length-drop}
use lib.Seq.{drop-append-le}
use Rattle.definition.specs.declared.Event.{Event}
use Rattle.definition.specs.Readings.{Reads, end, next}
use Rattle.event.proofs.Fronts.{holds}
use Rattle.event.proofs.Stable.{front_stable}

pub reads_append : (a b : List ℕ) (ds es : List Event) → Reads a ds → Reads b es → Reads (a ++ b) (ds ++ es)
reads_append a b ds es end q = q
reads_append a b ds es (next {es = rest} n f r) q =
    next {es = rest ++ es} n (front_stable a b f) (rw (drop-append-le n a b (holds a f).inside) (reads_append (drop n a) b rest es r q))

pub reads_few : (a : List ℕ) (es : List Event) → Reads a es → length es ≤ length a
reads_few a es end = omega arith
reads_few a es (next {es = rest} n f r) =
    let c = holds a f in omega (arith, c.inside, c.long, reads_few (drop n a) rest r, length-drop n a)
