-- Counts of events: one more, two lists together. Assumes nothing.
use Rattle.std.proofs.Common.{◌≡◌, ◌+◌, ◌≤◌, List, [], ◌∷◌, ◌++◌, length, refl, arith}
use Rattle.definition.specs.declared.Event.{Event}
use Rattle.definition.specs.declared.Event.TheVariants.{RegisterRead, RegisterWrite, MemoryRead, MemoryWrite, UnknownRead, UnknownWrite}
use Rattle.session.specs.declared.counts.Counts.{Counts}
use Rattle.session.specs.Sessions.{unknown_in, no_counts, counting, counts_of}

-- two counts are equal where their numbers are
pub counts_are : {c d : Counts} → c.events ≡ d.events → c.unknown ≡ d.unknown → c ≡ d
counts_are e u = λ i. record { events = e i; unknown = u i }

-- two together
abbrev pub summed : Counts → Counts → Counts
summed c d = record { events = c.events + d.events; unknown = c.unknown + d.unknown }

pub summed_none : (c : Counts) → summed c no_counts ≡ c
summed_none c = counts_are (omega arith) (omega arith)

pub none_summed : (c : Counts) → summed no_counts c ≡ c
none_summed c = counts_are (omega arith) (omega arith)

-- an event may be counted in either
pub counting_over : (e : Event) (c d : Counts) → summed c (counting e d) ≡ summed (counting e c) d
counting_over e c d = counts_are (omega arith) (omega arith)

pub counts_append : (ds es : List Event) → counts_of (ds ++ es) ≡ summed (counts_of ds) (counts_of es)
unfolding counts_of
counts_append [] es = counts_are (omega arith) (omega arith)
counts_append (d ∷ ds) es =
    let h = counts_append ds es in
    rw h (counts_are (omega arith) (omega arith))

-- the events are as many as the list is long, and no more of them are unknown
pub unknown_one : (e : Event) → unknown_in e ≤ 1
unknown_one (RegisterRead y) = omega arith
unknown_one (RegisterWrite y) = omega arith
unknown_one (MemoryRead a n) = omega arith
unknown_one (MemoryWrite a n) = omega arith
unknown_one (UnknownRead n) = omega arith
unknown_one (UnknownWrite n) = omega arith

pub counts_few : (es : List Event) → ((counts_of es).events ≡ length es) × ((counts_of es).unknown ≤ length es)
unfolding counts_of
counts_few [] = (refl, omega arith)
counts_few (e ∷ es) = let h = counts_few es in (omega (arith, h.0), omega (arith, h.1, unknown_one e))
