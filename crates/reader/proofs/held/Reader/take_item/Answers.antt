use Rattle.std.proofs.Common.{arith, rules, refl, length}
use Rattle.reader.proofs.Turns.{turn, going, unknown_here, unknown_ends, below, taken_on, part_taken, whole_taken}
use Rattle.reader.proofs.held.Reader.take_item.Goals as goal

pub slice_bounds-rest-count : goal.slice_bounds-rest-count
slice_bounds-rest-count c = omega (arith, (going c.args.t (length c.args.chunk.now) c.requires.going).1)

pub slice_bounds-rest-start : goal.slice_bounds-rest-start
slice_bounds-rest-start c = let h = (going c.args.t (length c.args.chunk.now) c.requires.going).1 in search rules

pub bounds-rest-0 : goal.bounds-rest-0
bounds-rest-0 c = let h = (going c.args.t (length c.args.chunk.now) c.requires.going).1 in search rules

pub returns-then-long-eq0-clause-means : goal.returns-then-long-eq0-clause-means
returns-then-long-eq0-clause-means c =
    let u = turn c.args.t c.args.self.now c.args.chunk.now c.requires.part c.requires.going c.kind_of.ensures c.length_of-long.ensures.long in
    unknown_here u c.if-long-eq0.true

pub returns-then-long-eq0-clause-less : goal.returns-then-long-eq0-clause-less
returns-then-long-eq0-clause-less c =
    record { within = omega (arith, (going c.args.t (length c.args.chunk.now) c.requires.going).1); more = λ e. absurd (unknown_ends _ _ e) }

pub overflow_sub-long : goal.overflow_sub-long
overflow_sub-long c =
    let u = turn c.args.t c.args.self.now c.args.chunk.now c.requires.part c.requires.going c.kind_of.ensures c.length_of-long.ensures.long in
    rw c.bytes.ensures.kept (omega (arith, below u c.if-long-eq0.false))

pub returns-then-bytes-long-clause-means : goal.returns-then-bytes-long-clause-means
returns-then-bytes-long-clause-means c =
    let u = turn c.args.t c.args.self.now c.args.chunk.now c.requires.part c.requires.going c.kind_of.ensures c.length_of-long.ensures.long in
    part_taken u c.min-n.result (rw c.bytes.ensures.kept at c.min-n.ensures) c.if-long-eq0.false _ refl c.add.ensures
    (rw c.bytes-2.ensures.kept at c.if-bytes-long.true)

pub returns-then-bytes-long-clause-less : goal.returns-then-bytes-long-clause-less
returns-then-bytes-long-clause-less c =
    let u = turn c.args.t c.args.self.now c.args.chunk.now c.requires.part c.requires.going c.kind_of.ensures c.length_of-long.ensures.long in
    taken_on u c.min-n.result (rw c.bytes.ensures.kept at c.min-n.ensures) c.if-long-eq0.false _

pub returns-clause-means : goal.returns-clause-means
returns-clause-means c =
    let u = turn c.args.t c.args.self.now c.args.chunk.now c.requires.part c.requires.going c.kind_of.ensures c.length_of-long.ensures.long in
    whole_taken u c.min-n.result (rw c.bytes.ensures.kept at c.min-n.ensures) c.if-long-eq0.false
    (record { kept = c.add.new.self; file = c.args.self.now.file; stopped = c.args.self.now.stopped }) refl c.add.ensures
    (rw c.bytes-2.ensures.kept at c.if-bytes-long.false) _ _ (c.settle.ensures.means _ c.args.chunk.now)

pub returns-clause-less : goal.returns-clause-less
returns-clause-less c =
    let u = turn c.args.t c.args.self.now c.args.chunk.now c.requires.part c.requires.going c.kind_of.ensures c.length_of-long.ensures.long in
    taken_on u c.min-n.result (rw c.bytes.ensures.kept at c.min-n.ensures) c.if-long-eq0.false _
