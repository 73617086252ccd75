-- When bytes are those of a reader. Assumes nothing.
use Prim.Native.Nat.{ℕ, ◌≤◌, ◌<◌}
use native.Mathlib.Omega.{arith}
use borrow.Author.Tests.{ltb-true, ltb-false, le-ltb, eqb-true, ne_eqb}
use mathlib.Core.Path.{◌≡◌, refl, sym, ap, ◌∙◌}
use mathlib.Core.Logic.{inl, inr}
use mathlib.Core.List.{List, []}
use mathlib.Core.Bool.{Bool, true, false, cond, not, ◌&&◌, ◌||◌}
use lib.ListN.{length, get_or, take, length-take}
use lib.Dec.{ltb, eqb}
use Rattle.std.proofs.lemmas.Bool.{and_parts, cond_both}
use Rattle.registers.specs.Files.{file_kind, based_kind, file_bytes, based_bytes, file_length, is_file}
use Rattle.record.specs.Records.{record_kind, segment_kind, everyday_kind, record_bytes, segment_bytes, everyday_bytes, record_length}
use Rattle.streams.specs.Cuts.{halted, closing_of}
use Rattle.streams.specs.Streams.{of_file, length_of, StreamReader}
use Rattle.reader.specs.Places.{item_room, is_front}
use Rattle.reader.specs.Items.{PartIn}
use Rattle.reader.specs.declared.items.Brought.TheVariants.{Nothing}
use Rattle.reader.specs.Held.{Inside, is_part, is_latest, holds_part, holds_file, reader_with, reader_in, checked}
use Rattle.reader.specs.Chunks.{Going, Kept}
use Rattle.reader.specs.declared.held.Numbers.{Numbers}
use Rattle.reader.specs.declared.held.Reader.{Reader}

-- no item is longer than its place
pub file_kind_short : (k : ℕ) → file_length k < item_room
unfolding file_length
file_kind_short k = by (eqb k file_kind) (eqb k based_kind)
  where
    by : (s t : Bool) → cond s file_bytes (cond t based_bytes 0) < item_room
    by true t = omega arith
    by false true = omega arith
    by false false = omega arith

pub record_kind_short : (k : ℕ) → record_length k < item_room
unfolding record_length
record_kind_short k = by (eqb k record_kind) (eqb k segment_kind) (eqb k everyday_kind)
  where
    by : (s t u : Bool) → cond s record_bytes (cond t segment_bytes (cond u everyday_bytes 0)) < item_room
    by true t u = omega arith
    by false true u = omega arith
    by false false true = omega arith
    by false false false = omega arith

pub ruleset kinds_short = (file_kind_short, record_kind_short)

pub kind_short : (k : ℕ) → length_of k < item_room
unfolding length_of
kind_short k = cond_both (of_file k) _ _ (λ n. n < item_room) (λ t. file_kind_short k) (λ t. record_kind_short k)

pub file_short : (b : List ℕ) → is_file b ≡ true → length b < item_room
unfolding is_file
file_short b h =
    let both = (and_parts (ltb 0 (length b) && eqb (length b) (file_length (get_or b 0 0))) _ h).0 in
    let long : length b ≡ file_length (get_or b 0 0) = eqb-true (length b) (file_length (get_or b 0 0)) ((and_parts (ltb 0 (length b)) _ both).1) in
    omega (arith, long, file_kind_short (get_or b 0 0))

-- bytes that are none, or a part of an item
pub part_held : (l : List ℕ) → is_part l ≡ true → PartIn Nothing l
unfolding is_part
part_held l h = go (eqb (length l) 0) refl h
  where
    go : (t : Bool) → eqb (length l) 0 ≡ t → (t || ltb (length l) (length_of (get_or l 0 0))) ≡ true → PartIn Nothing l
    go true e k = inl (eqb-true (length l) 0 e)
    go false e k = inr (ltb-true (length l) (length_of (get_or l 0 0)) k)

-- A READER IS CHECKED
module _ (r : Reader) where
  abbrev pub holds : Bool
  holds = is_part r.kept && is_latest r.file

  pub held : holds ≡ true → reader_with r ≡ checked r
  unfolding checked
  held h = rw h

  pub not_held : (k f : List ℕ) → holds ≡ false → k ≡ [] → f ≡ [] → reader_with (record { kept = k; file = f; stopped = true }) ≡ checked r
  unfolding checked
  not_held k f h z e = rw (h, z, e)

  pub goes : holds ≡ true → Going r
  goes h = record { part = λ s. part_held r.kept ((and_parts _ _ h).0) }

  -- what closing answers
  pub closes_stopped : r.stopped ≡ true → 1 ≡ closing_of (checked r)
  unfolding checked closing_of
  closes_stopped e = go holds
    where
      go : (t : Bool) → 1 ≡ closing_of (cond t (reader_with r) (halted []))
      go true = rw e
      go false = refl

  pub closes_unsound : holds ≡ false → 1 ≡ closing_of (checked r)
  unfolding checked closing_of
  closes_unsound h = rw h

  pub closes_between : holds ≡ true → r.stopped ≡ false → length r.kept ≡ 0 → 0 ≡ closing_of (checked r)
  unfolding checked closing_of
  closes_between h s z = rw (h, s, z)

  pub closes_inside : holds ≡ true → r.stopped ≡ false → (length r.kept ≡ 0 → ⊥) → 8 ≡ closing_of (checked r)
  unfolding checked closing_of
  closes_inside h s n = rw (h, s, ne_eqb (length r.kept) 0 n)

same_ends : {A : Type 0} (t : Bool) (x : A) → cond t x x ≡ x
same_ends true x = refl
same_ends false x = refl

no_more : (t : Bool) → (t && false) ≡ false
no_more true = refl
no_more false = refl

-- a reader that was checked is one
once : (r s : Reader) → reader_with s ≡ checked r → checked s ≡ reader_with s
unfolding checked
once r s e = ap of e ∙ go (is_part r.kept && is_latest r.file) refl ∙ sym e
  where
    of : StreamReader → StreamReader
    of x = cond (is_part x.kept && is_latest x.file) x (halted [])

    go : (t : Bool) → (is_part r.kept && is_latest r.file) ≡ t
        → of (cond t (reader_with r) (halted [])) ≡ cond t (reader_with r) (halted [])
    go true h = rw h
    go false h = same_ends (is_part [] && is_latest []) (halted [])

part_short : (l : List ℕ) → is_part l ≡ true → length l ≤ item_room
unfolding is_part
part_short l h = go (eqb (length l) 0) refl h
  where
    go : (t : Bool) → eqb (length l) 0 ≡ t → (t || ltb (length l) (length_of (get_or l 0 0))) ≡ true → length l ≤ item_room
    go true e k = omega (arith, eqb-true (length l) 0 e)
    go false e k = omega (arith, ltb-true (length l) (length_of (get_or l 0 0)) k, kind_short (get_or l 0 0))

latest_short : (f : List ℕ) → is_latest f ≡ true → length f ≤ item_room
unfolding is_latest
latest_short f h = go (eqb (length f) 0) refl h
  where
    go : (t : Bool) → eqb (length f) 0 ≡ t → (t || is_file f) ≡ true → length f ≤ item_room
    go true e k = omega (arith, eqb-true (length f) 0 e)
    go false e k = omega (arith, file_short f k)

-- so it keeps no more bytes than a place has
kept_short : (r : Reader) → checked r ≡ reader_with r → (length r.kept ≤ item_room) × (length r.file ≤ item_room)
unfolding checked
kept_short r e = go (is_part r.kept && is_latest r.file) refl e
  where
    go : (t : Bool) → (is_part r.kept && is_latest r.file) ≡ t → cond t (reader_with r) (halted []) ≡ reader_with r
        → (length r.kept ≤ item_room) × (length r.file ≤ item_room)
    go true h z = (part_short r.kept ((and_parts _ _ h).0), latest_short r.file ((and_parts (is_part r.kept) _ h).1))
    go false h z =
        (omega (arith, ap (λ (x : StreamReader). length x.kept) z), omega (arith, ap (λ (x : StreamReader). length x.file) z))

pub kept : (r s : Reader) → reader_with s ≡ checked r → Going s → Kept s
kept r s e g =
    let same = once r s e in
    let short = kept_short s same in
    record { inside = short.0; held = short.1; part = g.part; same = same }

-- a stopped reader without bytes
pub stopped_is : (r : Reader) → reader_with r ≡ halted [] → checked r ≡ halted []
unfolding checked
stopped_is r e = ap (λ (x : StreamReader). cond (is_part x.kept && is_latest x.file) x (halted [])) e ∙ same_ends (is_part [] && is_latest []) (halted [])

-- NUMBERS AND BYTES. A whole place is no part of an item and no file
no_part : (l : List ℕ) → length l ≡ item_room → is_part l ≡ false
unfolding is_part
no_part l e = rw (ne_eqb (length l) 0 (omega arith)) (le-ltb (length l) (length_of (get_or l 0 0)) (omega (arith, kind_short (get_or l 0 0))))

no_file_lem : (l : List ℕ) → length l ≡ item_room → is_latest l ≡ false
unfolding is_latest
no_file_lem l e = rw (ne_eqb (length l) 0 (omega arith)) (go (is_file l) refl)
  where
    go : (t : Bool) → is_file l ≡ t → t ≡ false
    go true h = absurd (omega (arith, file_short l h))
    go false h = refl

-- more bytes than a place has are all of them
too_many : (b : List ℕ) (n : ℕ) → length b ≡ item_room → item_room < n → length (take n b) ≡ item_room
too_many b n e h = length-take n b ∙ omega (arith, e)

module _ (b : List ℕ) (n : ℕ) where
  -- what is the front of a place, and what is none
  front_long : is_front b n ≡ true → eqb (length b) item_room ≡ true
  unfolding is_front
  front_long h = (and_parts _ _ h).0

  front_inside : is_front b n ≡ true → (length b ≡ item_room) × (n ≤ item_room)
  unfolding is_front
  front_inside h = (eqb-true (length b) item_room ((and_parts _ _ h).0), go (ltb item_room n) refl ((and_parts (eqb (length b) item_room) _ h).1))
    where
      go : (t : Bool) → ltb item_room n ≡ t → not t ≡ true → n ≤ item_room
      go true e z = absurd (no_false z)
        where
          no_false : false ≡ true → ⊥
          no_false y = cc
      go false e z = ltb-false item_room n e

  no_front : is_front b n ≡ false → (holds_part b n ≡ false) × (holds_file b n ≡ false)
  unfolding is_front holds_part holds_file
  no_front h = go (eqb (length b) item_room) (ltb item_room n) refl refl h
    where
      go : (s t : Bool) → eqb (length b) item_room ≡ s → ltb item_room n ≡ t → (s && not t) ≡ false
          → ((s && is_part (take n b)) ≡ false) × ((s && is_latest (take n b)) ≡ false)
      go false t d e z = (refl, refl)
      go true true d e z =
          let all = too_many b n (eqb-true (length b) item_room d) (ltb-true item_room n e) in
          (no_part (take n b) all, no_file_lem (take n b) all)
      go true false d e z = absurd (no_true z)
        where
          no_true : true ≡ false → ⊥
          no_true y = cc

module _ (m : Numbers) (item file : List ℕ) where
  abbrev pub fits : Bool
  fits = is_front item m.kept && is_front file m.file

  pub fronts_inside : is_front item m.kept ≡ true → is_front file m.file ≡ true → Inside m item file
  fronts_inside h k =
      let x = front_inside item m.kept h in
      let y = front_inside file m.file k in
      record { item_long = x.0; file_long = y.0; kept_fits = x.1; file_fits = y.1 }

  pub both_held :
      fits ≡ true → (k f : List ℕ) → k ≡ take m.kept item → f ≡ take m.file file
      → checked (record { kept = k; file = f; stopped = m.stopped }) ≡ reader_in m item file
  unfolding checked reader_in holds_part holds_file
  both_held h k f p q =
      let both = and_parts (is_front item m.kept) (is_front file m.file) h in
      rw (p, q, front_long item m.kept both.0, front_long file m.file both.1)

  pub none_held : fits ≡ false → (r : Reader) → reader_with r ≡ halted [] → checked r ≡ reader_in m item file
  unfolding reader_in
  none_held h r e = stopped_is r e ∙ go (is_front item m.kept) refl h
    where
      go : (t : Bool) → is_front item m.kept ≡ t → (t && is_front file m.file) ≡ false
          → halted [] ≡ cond (holds_part item m.kept && holds_file file m.file) (record { kept = take m.kept item; file = take m.file file; stopped = m.stopped }) (halted [])
      go false d z = rw (no_front item m.kept d).0
      go true d z = rw ((no_front file m.file z).1, no_more (holds_part item m.kept))

pub ruleset holding = (both_held, none_held)

pub ruleset checks = (held, not_held, goes)

pub ruleset closes = (closes_stopped, closes_unsound, closes_between, closes_inside)
