-- What the whole block tells is what is told of the records that are left.
use Rattle.std.proofs.Common.{◌≡◌, ◌+◌, ◌/◌, ◌^◌, ◌<◌, ◌≤◌, length}
use Rattle.std.specs.Iterator.Adapters.{enumerate_source, enumerate_count}
use Rattle.std.specs.Slice.Iter.{chunks_exact_rest, chunks_exact_size}
use Rattle.registers.specs.Files.{file_of}
use Rattle.block.proofs.Turns.{tells}
use Rattle.block.proofs.blocks.visit_each.Given as goal

abbrev pub invariant-loop-i : goal.invariant-loop-i
invariant-loop-i l =
    let left = chunks_exact_rest (enumerate_source l.i-iterator) in
    let i = enumerate_count l.i-iterator in
    record {
      can_next : (goal.iterator-loop-i).can_next l.i-iterator;
      is_finite : (goal.iterator-loop-i).is_finite l.i-iterator;
      size : chunks_exact_size (enumerate_source l.i-iterator) ≡ l.list.each;
      counted : i + length left / l.list.each ≡ length l.list.bytes.now / l.list.each;
      start : l.start ≤ l.place;
      place : l.place < 2 ^ 64;
      log : length l.log ≡ length l.fn.log;
      answers : length l.answers ≡ length l.fn.answers;
      told : tells l.list.each (file_of l.file) l.start 0 l.list.bytes.now l.fn.log l.start l.fn.answers
          ≡ tells l.list.each (file_of l.file) l.start i left l.log l.place l.answers;
    }
