-- Whatever is read as a record has one of the lengths. Assumes nothing.
use Prim.Native.Nat.{ℕ, ◌<◌}
use native.Mathlib.Omega.{arith}
use mathlib.Core.Path.{◌≡◌}
use mathlib.Core.List.{List}
use mathlib.Core.Bool.{Bool, true, false, cond}
use lib.ListN.{length, get_or}
use lib.Dec.{ltb, eqb}
use borrow.Author.Tests.{eqb-true, ltb-true}
use Rattle.laws.specs.Tests.{any, is_in}
use Rattle.std.proofs.lemmas.Bool.{and_parts}
use Rattle.record.specs.Records.{record_kind, segment_kind, everyday_kind, record_bytes, segment_bytes, everyday_bytes, record_length, is_record}
use Rattle.records.specs.Lists.{record_lengths}

kind_length : (k n : ℕ) → 0 < n → n ≡ record_length k → is_in n record_lengths ≡ true
unfolding is_in any record_length
kind_length k n h e = by (eqb k record_kind) (eqb k segment_kind) (eqb k everyday_kind) e
  where
    by : (s t u : Bool) → n ≡ cond s record_bytes (cond t segment_bytes (cond u everyday_bytes 0)) → is_in n record_lengths ≡ true
    by true t u e = rw e
    by false true u e = rw e
    by false false true e = rw e
    by false false false e = absurd (omega (arith, h, e))

pub record_length_lem : (b : List ℕ) → is_record b ≡ true → is_in (length b) record_lengths ≡ true
unfolding is_record
record_length_lem b e =
    let some = ltb 0 (length b) in
    let long = eqb (length b) (record_length (get_or b 0 0)) in
    kind_length (get_or b 0 0) (length b) (ltb-true 0 (length b) ((and_parts some long e).0)) (eqb-true (length b) (record_length (get_or b 0 0)) ((and_parts some long e).1))
