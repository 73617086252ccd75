-- The branches of a call: a stopped reader, too little room, and a chunk that is taken. Assumes nothing.
use Prim.Native.Nat.{ℕ, ◌+◌, ◌-◌, ◌≤◌, ◌<◌}
use native.Mathlib.Omega.{arith}
use borrow.Author.Tests.{le-ltb, ltb-true, ltb-false}
use mathlib.Core.Path.{◌≡◌, refl, sym, ap, ◌∙◌}
use mathlib.Core.List.{List, []}
use mathlib.Core.Bool.{Bool, true, false, ◌||◌}
use lib.ListN.{length}
use lib.Dec.{ltb}
use Rattle.laws.specs.Lending.{lacks_room}
use Rattle.laws.proofs.Room.{starts_inside, has_left}
use Rattle.definition.specs.Limits.{most_bytes}
use Rattle.streams.specs.Cuts.{waits, fed_from}
use Rattle.streams.specs.Streams.{length_of, meaning, StreamReader, Outcome, unfinished, outcome_of, feed}
use Rattle.streams.proofs.Proved.{stopped_stays, early_seven}
use Rattle.streams.specs.declared.Call.{Call}
use Rattle.reader.specs.Held.{reader_with, checked, Handed, handing, handed_to, left_by}
use Rattle.reader.specs.Items.{onward, closed, doing, goes_on, taking, Through}
use Rattle.reader.specs.Chunks.{calling}
use Rattle.reader.specs.declared.held.Reader.{Reader}
use Rattle.reader.specs.declared.items.Brought.{Brought}
use Rattle.reader.specs.declared.items.Brought.TheVariants.{Nothing, Unknown, BadFile, Record}
use Rattle.reader.specs.declared.items.Taking.{Taking}
use Rattle.reader.proofs.Parts.{ahead_none}
use Rattle.reader.proofs.Replies.{quietly}

-- room for every log, from a start on
pub has_room : (start end : ℕ) → lacks_room most_bytes start end ≡ false → start + most_bytes ≤ end
has_room start end h = omega (arith, starts_inside most_bytes start end h, has_left most_bytes start end h)

scant : (start end : ℕ) → lacks_room most_bytes start end ≡ true → end - start < most_bytes
scant start end h = go (ltb end start) refl h
  where
    go : (t : Bool) → ltb end start ≡ t → (t || ltb (end - start) most_bytes) ≡ true → end - start < most_bytes
    go true e h = omega (arith, ltb-true end start e)
    go false e h = ltb-true (end - start) most_bytes h

module _ (x : StreamReader) (c log : List ℕ) (start : ℕ) where
  -- what leaves the reader and the buffer
  left_alone :
      (o : Outcome) → feed x c (length log - start) ≡ o → o.log ≡ []
      → record { call = o.call; next = o.next; buffer = log } ≡ handed_to x c log start
  unfolding handed_to
  left_alone o e q = quietly o log start q ∙ ap (λ (o : Outcome). handing o log start) (sym e)

  pub stopped_reply : x.stopped ≡ true → record { call = (unfinished 1 0 0 x).call; next = x; buffer = log } ≡ handed_to x c log start
  stopped_reply h = left_alone (unfinished 1 0 0 x) (stopped_stays x c (length log - start) h) refl

  pub early_reply :
      x.stopped ≡ false → lacks_room most_bytes start (length log) ≡ true
      → record { call = (unfinished 7 0 most_bytes x).call; next = x; buffer = log } ≡ handed_to x c log start
  early_reply h k = left_alone (unfinished 7 0 most_bytes x) (early_seven x c (length log - start) h (scant start (length log) k)) refl

  -- what a chunk brought is counted by what is taken
  counted : (u : Taking) (r : Reader) → Through u (length c) → outcome_of u.taken (closed u r) ≡ outcome_of (length c) (closed u r)
  unfolding closed goes_on
  counted u r t = go u.brought refl
    where
      go : (b : Brought) → u.brought ≡ b
          → outcome_of u.taken (doing b u.taken r.file r.kept (waits r.file r.kept))
          ≡ outcome_of (length c) (doing b u.taken r.file r.kept (waits r.file r.kept))
      go Nothing e =
          let z : ltb u.taken (length c) ≡ false = rw e at t.over in
          let n : u.taken ≡ length c = omega (arith, t.within, ltb-false u.taken (length c) z) in
          ap (λ (n : ℕ). outcome_of n (waits r.file r.kept)) n
      go Unknown e = refl
      go BadFile e = refl
      go Record e = refl

  pub chunk_reply :
      (u : Taking) (r : Reader) → x.stopped ≡ false → lacks_room most_bytes start (length log) ≡ false → Through u (length c)
      → closed u r ≡ fed_from length_of meaning x.file x.kept c
      → handing (outcome_of u.taken (closed u r)) log start ≡ handed_to x c log start
  unfolding handed_to feed
  chunk_reply u r h k t e =
      let room : most_bytes ≤ length log - start = omega (arith, has_room start (length log) k) in
      rw (h, le-ltb (length log - start) most_bytes room)
      (ap (λ (o : Outcome). handing o log start) (counted u r t ∙ ap (outcome_of (length c)) e))

-- at the front of a chunk
pub begins : (r : Reader) (c : List ℕ) → onward (taking Nothing 0) r c ≡ fed_from length_of meaning r.file r.kept c
unfolding onward
begins r c = ahead_none (fed_from length_of meaning r.file r.kept c)

-- the same of a reader that was checked
module _ (r s : Reader) (c log : List ℕ) (start : ℕ) (e : reader_with s ≡ checked r) (a : Call) where
  as_checked : (h : Handed) → h ≡ handed_to (reader_with s) c log start → h ≡ handed_to (checked r) c log start
  as_checked h p = p ∙ ap (λ (x : StreamReader). handed_to x c log start) e

  pub stopped_reader : s.stopped ≡ true → a ≡ calling 1 false 0 0 0 → left_by a s log ≡ handed_to (checked r) c log start
  stopped_reader h q = as_checked _ (rw q (stopped_reply (reader_with s) c log start h))

  pub early_reader :
      s.stopped ≡ false → lacks_room most_bytes start (length log) ≡ true → a ≡ calling 7 false 0 most_bytes 0
      → left_by a s log ≡ handed_to (checked r) c log start
  early_reader h k q = as_checked _ (rw q (early_reply (reader_with s) c log start h k))

  pub chunk_reader :
      (u : Taking) (v w : Reader) (b : List ℕ) → s.stopped ≡ false → lacks_room most_bytes start (length log) ≡ false → Through u (length c)
      → closed u v ≡ onward (taking Nothing 0) s c → left_by a w b ≡ handing (outcome_of u.taken (closed u v)) log start
      → left_by a w b ≡ handed_to (checked r) c log start
  chunk_reader u v w b h k t m q = as_checked _ (q ∙ chunk_reply (reader_with s) c log start u v h k t (m ∙ begins s c))
