-- What an event adds to each word, and how much at most. Assumes nothing.
use Prim.Native.Nat.{ℕ, ◌+◌, ◌*◌, ◌≤◌, ◌<◌}
use native.Mathlib.Omega.{arith}
use mathlib.Core.Path.{◌≡◌, refl, ap, ◌∙◌}
use mathlib.Core.Bool.{Bool, true, false, cond}
use lib.ListN.{length, get_or, get_or-eq_default}
use lib.Dec.{eqb, ltb, leb}
use borrow.Author.Tests.{eq-eqb, ne_eqb, ltb-true, ltb-false, leb-true, eqb-true, eqb-false}
use Rattle.laws.specs.Words.{little}
use Rattle.std.proofs.lemmas.Bool.{and_parts}
use Rattle.registers.specs.Banks.{logged_numbers, is_logged}
use Rattle.definition.specs.Logs.{event_bytes}
use Rattle.definition.specs.Readings.{is_size, is_event}
use Rattle.definition.specs.declared.Event.{Event}
use Rattle.definition.specs.declared.Event.TheVariants.{RegisterRead, RegisterWrite, MemoryRead, MemoryWrite, UnknownRead, UnknownWrite}
use Rattle.watching.specs.Verdicts.{store_verdict}
use Rattle.watching.specs.declared.verdicts.Variable.{Variable}
use Rattle.watching.specs.declared.verdicts.Verdict.{Verdict}
use Rattle.watching.specs.declared.verdicts.Verdict.TheVariants.{NoWrite, AddressUnknown, NoneTouched, PartTouched, WholeTouched}
use Rattle.totals.specs.Sheets.{logs_word, in_word, out_word, part_word, known_word, banks, sizes, reads_word, writes_word, size_word, parts, additions}
use Rattle.figures.specs.Counts.{one, read_of, write_of, memory_of, bytes_in, bytes_out, known_write, part_write}
use Rattle.figures.proofs.Sums.{amount}

-- a bank that a log may name has a word of its own
bank_few : (b n : ℕ) → is_logged b n ≡ true → b < banks
unfolding is_logged
bank_few b n h = go (ltb b banks) refl
  where
    go : (t : Bool) → ltb b banks ≡ t → b < banks
    go true e = ltb-true b banks e
    go false e =
        let past : length logged_numbers ≤ b = omega (arith, ltb-false b banks e) in
        let none : n < 0 = rw (get_or-eq_default logged_numbers 0 {n = b} past) at (ltb-true n (get_or logged_numbers b 0) h) in absurd (omega arith)

size_few : (n : ℕ) → is_size n ≡ true → (1 ≤ n) × (n ≤ sizes)
size_few n h = (leb-true 1 n ((and_parts (leb 1 n) (leb n sizes) h).0), leb-true n sizes ((and_parts (leb 1 n) (leb n sizes) h).1))

-- another word, and the same
skip : (i j n m : ℕ) → (i ≡ j → ⊥) → cond (eqb i j) n 0 + m ≡ m
skip i j n m h = rw (ne_eqb i j h) (omega arith)

hit : (i j n m : ℕ) → i ≡ j → cond (eqb i j) n 0 + m ≡ n + m
hit i j n m h = rw (eq-eqb i j h)

at_most : (t : Bool) (n : ℕ) → cond t n 0 ≤ n
at_most true n = omega arith
at_most false n = omega arith

shifted : (k a b : ℕ) → cond (eqb (k + a) (k + b)) 1 0 + 0 ≡ one (eqb a b)
shifted k a b = go (eqb a b) refl
  where
    go : (t : Bool) → eqb a b ≡ t → cond (eqb (k + a) (k + b)) 1 0 + 0 ≡ one t
    go true e = let s = eqb-true a b e in rw (eq-eqb (k + a) (k + b) (omega arith))
    go false e = rw (ne_eqb (k + a) (k + b) (λ s. eqb-false a b e (omega arith)))

module _ (v : Variable) where
  -- events add nothing to the watch and to the number of logs
  pub low_none : (i : ℕ) (e : Event) → i ≤ logs_word → amount i (additions v e) ≡ 0
  unfolding amount additions
  low_none i (RegisterRead y) h = skip i (reads_word y.bank) 1 0 (λ s. omega arith)
  low_none i (RegisterWrite y) h = skip i (writes_word y.bank) 1 0 (λ s. omega arith)
  low_none i (MemoryRead a n) h = skip i (size_word n) 1 _ (λ s. omega arith) ∙ skip i in_word n 0 (λ s. omega arith)
  low_none i (MemoryWrite a n) h =
      skip i (size_word n) 1 _ (λ s. omega arith) ∙ skip i out_word n _ (λ s. omega arith) ∙ skip i known_word 1 _ (λ s. omega arith)
      ∙ skip i part_word _ 0 (λ s. omega arith)
  low_none i (UnknownRead n) h = skip i (size_word n) 1 _ (λ s. omega arith) ∙ skip i in_word n 0 (λ s. omega arith)
  low_none i (UnknownWrite n) h = skip i (size_word n) 1 _ (λ s. omega arith) ∙ skip i out_word n 0 (λ s. omega arith)

part_one : (x : Verdict) → parts x ≤ 1
part_one NoWrite = omega arith
part_one AddressUnknown = omega arith
part_one NoneTouched = omega arith
part_one PartTouched = omega arith
part_one WholeTouched = omega arith

-- a size and its bytes go to two words
size_or_bytes : (i j n : ℕ) → j < size_word 1 → 1 ≤ n → n ≤ sizes → cond (eqb i (size_word n)) 1 0 + (cond (eqb i j) n 0 + 0) ≤ sizes
size_or_bytes i j n h a b = go (eqb i j) refl
  where
    go : (t : Bool) → eqb i j ≡ t → cond (eqb i (size_word n)) 1 0 + (cond t n 0 + 0) ≤ sizes
    go true e = let s = eqb-true i j e in rw (ne_eqb i (size_word n) (λ d. omega arith)) (omega arith)
    go false e = omega (arith, at_most (eqb i (size_word n)) 1)

module _ (v : Variable) (i : ℕ) where
  -- no event adds more to a word than 32 for each of its bytes
  pub event_most : (e : Event) → is_event e ≡ true → amount i (additions v e) ≤ 32 * length (event_bytes e)
  unfolding amount additions is_event event_bytes little
  event_most (RegisterRead y) h = omega (arith, at_most (eqb i (reads_word y.bank)) 1)
  event_most (RegisterWrite y) h = omega (arith, at_most (eqb i (writes_word y.bank)) 1)
  event_most (MemoryRead a n) h = let s = size_few n h in omega (arith, size_or_bytes i in_word n (omega arith) s.0 s.1)
  event_most (MemoryWrite a n) h =
      let s = size_few n h in
      omega (arith, size_or_bytes i out_word n (omega arith) s.0 s.1, at_most (eqb i known_word) 1, at_most (eqb i part_word) (parts (store_verdict v a n)), part_one (store_verdict v a n))
  event_most (UnknownRead n) h = let s = size_few n h in omega (arith, size_or_bytes i in_word n (omega arith) s.0 s.1)
  event_most (UnknownWrite n) h = let s = size_few n h in omega (arith, size_or_bytes i out_word n (omega arith) s.0 s.1)

-- what each word gets of an event
module _ (v : Variable) where
  pub reads_get : (b : ℕ) (e : Event) → b < banks → is_event e ≡ true → amount (reads_word b) (additions v e) ≡ read_of b e
  unfolding amount additions is_event read_of
  reads_get b (RegisterRead y) h g = shifted 7 b y.bank
  reads_get b (RegisterWrite y) h g = skip (reads_word b) (writes_word y.bank) 1 0 (λ s. omega arith)
  reads_get b (MemoryRead a n) h g = skip (reads_word b) (size_word n) 1 _ (λ s. omega arith) ∙ skip (reads_word b) in_word n 0 (λ s. omega arith)
  reads_get b (MemoryWrite a n) h g =
      skip (reads_word b) (size_word n) 1 _ (λ s. omega arith) ∙ skip (reads_word b) out_word n _ (λ s. omega arith)
      ∙ skip (reads_word b) known_word 1 _ (λ s. omega arith) ∙ skip (reads_word b) part_word _ 0 (λ s. omega arith)
  reads_get b (UnknownRead n) h g = skip (reads_word b) (size_word n) 1 _ (λ s. omega arith) ∙ skip (reads_word b) in_word n 0 (λ s. omega arith)
  reads_get b (UnknownWrite n) h g = skip (reads_word b) (size_word n) 1 _ (λ s. omega arith) ∙ skip (reads_word b) out_word n 0 (λ s. omega arith)

  pub writes_get : (b : ℕ) (e : Event) → b < banks → is_event e ≡ true → amount (writes_word b) (additions v e) ≡ write_of b e
  unfolding amount additions is_event write_of
  writes_get b (RegisterRead y) h g = let f = bank_few y.bank y.number g in skip (writes_word b) (reads_word y.bank) 1 0 (λ s. omega arith)
  writes_get b (RegisterWrite y) h g = shifted 21 b y.bank
  writes_get b (MemoryRead a n) h g = let f = size_few n g in skip (writes_word b) (size_word n) 1 _ (λ s. omega (arith, f.0)) ∙ skip (writes_word b) in_word n 0 (λ s. omega arith)
  writes_get b (MemoryWrite a n) h g =
      let f = size_few n g in
      skip (writes_word b) (size_word n) 1 _ (λ s. omega (arith, f.0)) ∙ skip (writes_word b) out_word n _ (λ s. omega arith)
      ∙ skip (writes_word b) known_word 1 _ (λ s. omega arith) ∙ skip (writes_word b) part_word _ 0 (λ s. omega arith)
  writes_get b (UnknownRead n) h g = let f = size_few n g in skip (writes_word b) (size_word n) 1 _ (λ s. omega (arith, f.0)) ∙ skip (writes_word b) in_word n 0 (λ s. omega arith)
  writes_get b (UnknownWrite n) h g = let f = size_few n g in skip (writes_word b) (size_word n) 1 _ (λ s. omega (arith, f.0)) ∙ skip (writes_word b) out_word n 0 (λ s. omega arith)

  pub sizes_get : (m : ℕ) (e : Event) → 1 ≤ m → is_event e ≡ true → amount (size_word m) (additions v e) ≡ memory_of m e
  unfolding amount additions is_event memory_of
  sizes_get m (RegisterRead y) h g = let f = bank_few y.bank y.number g in skip (size_word m) (reads_word y.bank) 1 0 (λ s. omega arith)
  sizes_get m (RegisterWrite y) h g = let f = bank_few y.bank y.number g in skip (size_word m) (writes_word y.bank) 1 0 (λ s. omega arith)
  sizes_get m (MemoryRead a n) h g = ap (λ (k : ℕ). cond (eqb (size_word m) (size_word n)) 1 0 + k) (skip (size_word m) in_word n 0 (λ s. omega arith)) ∙ shifted 34 m n
  sizes_get m (MemoryWrite a n) h g =
      ap (λ (k : ℕ). cond (eqb (size_word m) (size_word n)) 1 0 + k)
      (skip (size_word m) out_word n _ (λ s. omega arith) ∙ skip (size_word m) known_word 1 _ (λ s. omega arith) ∙ skip (size_word m) part_word _ 0 (λ s. omega arith))
      ∙ shifted 34 m n
  sizes_get m (UnknownRead n) h g = ap (λ (k : ℕ). cond (eqb (size_word m) (size_word n)) 1 0 + k) (skip (size_word m) in_word n 0 (λ s. omega arith)) ∙ shifted 34 m n
  sizes_get m (UnknownWrite n) h g = ap (λ (k : ℕ). cond (eqb (size_word m) (size_word n)) 1 0 + k) (skip (size_word m) out_word n 0 (λ s. omega arith)) ∙ shifted 34 m n

  pub in_gets : (e : Event) → amount in_word (additions v e) ≡ bytes_in e
  unfolding amount additions bytes_in
  in_gets (RegisterRead y) = skip in_word (reads_word y.bank) 1 0 (λ s. omega arith)
  in_gets (RegisterWrite y) = skip in_word (writes_word y.bank) 1 0 (λ s. omega arith)
  in_gets (MemoryRead a n) = skip in_word (size_word n) 1 _ (λ s. omega arith) ∙ omega arith
  in_gets (MemoryWrite a n) = skip in_word (size_word n) 1 _ (λ s. omega arith)
  in_gets (UnknownRead n) = skip in_word (size_word n) 1 _ (λ s. omega arith) ∙ omega arith
  in_gets (UnknownWrite n) = skip in_word (size_word n) 1 _ (λ s. omega arith)

  pub out_gets : (e : Event) → amount out_word (additions v e) ≡ bytes_out e
  unfolding amount additions bytes_out
  out_gets (RegisterRead y) = skip out_word (reads_word y.bank) 1 0 (λ s. omega arith)
  out_gets (RegisterWrite y) = skip out_word (writes_word y.bank) 1 0 (λ s. omega arith)
  out_gets (MemoryRead a n) = skip out_word (size_word n) 1 _ (λ s. omega arith)
  out_gets (MemoryWrite a n) = skip out_word (size_word n) 1 _ (λ s. omega arith) ∙ omega arith
  out_gets (UnknownRead n) = skip out_word (size_word n) 1 _ (λ s. omega arith)
  out_gets (UnknownWrite n) = skip out_word (size_word n) 1 _ (λ s. omega arith) ∙ omega arith

  pub known_gets : (e : Event) → amount known_word (additions v e) ≡ known_write e
  unfolding amount additions known_write
  known_gets (RegisterRead y) = skip known_word (reads_word y.bank) 1 0 (λ s. omega arith)
  known_gets (RegisterWrite y) = skip known_word (writes_word y.bank) 1 0 (λ s. omega arith)
  known_gets (MemoryRead a n) = skip known_word (size_word n) 1 _ (λ s. omega arith)
  known_gets (MemoryWrite a n) = skip known_word (size_word n) 1 _ (λ s. omega arith)
  known_gets (UnknownRead n) = skip known_word (size_word n) 1 _ (λ s. omega arith)
  known_gets (UnknownWrite n) = skip known_word (size_word n) 1 _ (λ s. omega arith)

  pub part_gets : (e : Event) → amount part_word (additions v e) ≡ part_write v e
  unfolding amount additions part_write
  part_gets (RegisterRead y) = skip part_word (reads_word y.bank) 1 0 (λ s. omega arith)
  part_gets (RegisterWrite y) = skip part_word (writes_word y.bank) 1 0 (λ s. omega arith)
  part_gets (MemoryRead a n) = skip part_word (size_word n) 1 _ (λ s. omega arith)
  part_gets (MemoryWrite a n) = skip part_word (size_word n) 1 _ (λ s. omega arith) ∙ omega arith
  part_gets (UnknownRead n) = skip part_word (size_word n) 1 _ (λ s. omega arith)
  part_gets (UnknownWrite n) = skip part_word (size_word n) 1 _ (λ s. omega arith)
