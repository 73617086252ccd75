-- Over files and records: the driver over the calls is the driver over the bytes; a record's answer is visiting's. Assumes nothing.
use Prim.Native.Nat.{ℕ, zero, suc, ◌+◌, ◌≤◌}
use native.Mathlib.Nat.{add-zero}
use borrow.Author.Tests.{le-ltb, eqb-true}
use mathlib.Core.Path.{◌≡◌, refl, sym, ap, ◌∙◌}
use mathlib.Core.List.{List, [], ◌∷◌, ◌++◌, append-nil}
use mathlib.Core.Bool.{Bool, true, false, cond}
use lib.ListN.{length, take, drop, take-append-drop}
use lib.Dec.{eqb}
use Rattle.laws.specs.Lending.{splice}
use Rattle.laws.specs.Lists.{flat}
use Rattle.registers.specs.declared.RegisterFile.{RegisterFile}
use Rattle.record.specs.Records.{record_of}
use Rattle.definition.specs.Limits.{most_bytes}
use Rattle.definition.specs.Refusals.{no_room}
use Rattle.definition.specs.Logs.{bytes_of}
use Rattle.definition.specs.Visits.{log_of, refusal_of, outcome, visit_by, count_of}
use Rattle.definition.specs.declared.Answer.{Answer}
use Rattle.definition.specs.declared.Answer.TheVariants.{Done, Refused, Complex, Short}
use Rattle.promises.proofs.Rooms.{room_enough, visit_has_room}
use Rattle.promises.proofs.Outcomes.{spliced}
use Rattle.streams.specs.Cuts.{tells, reader, Fed, waits, says, stops, told_of, fed_from, on_fed, handed, handed_of, handed_all, closing_of}
use Rattle.streams.specs.Streams.{length_of, Said, unknown_kind, said_at, meaning, StreamReader, fresh, Outcome, outcome_of, feed, on_call, driven, driven_all}
use Rattle.streams.proofs.Cut.{cut}

-- a call with room, of a reader that goes on
pub fed_call : (f l c : List ℕ) (room : ℕ) → most_bytes ≤ room → feed (reader f l) c room ≡ outcome_of (length c) (fed_from length_of meaning f l c)
unfolding feed
fed_call f l c room h = rw (le-ltb room most_bytes h)

module _ (room : ℕ) (h : most_bytes ≤ room) where
  by_fed : (k : ℕ) (c : List ℕ) (o : Fed (List ℕ) Said)
      → ((g d : List ℕ) → driven room k (reader g []) d ≡ handed length_of meaning unknown_kind k g [] d)
      → on_call (outcome_of (length c) o) (λ t s. driven room k s (drop t c)) ≡ on_fed unknown_kind c o (λ g rest. handed length_of meaning unknown_kind k g [] rest)
  by_fed k c (waits f l) rec = refl
  by_fed k c (says a f t) rec = ap (λ (o : List Said × StreamReader). (a ∷ o.0, o.1)) (rec f (drop t c))
  by_fed k c (stops f t) rec = refl

  driven_is : (k : ℕ) (f l c : List ℕ) → driven room k (reader f l) c ≡ handed length_of meaning unknown_kind k f l c
  unfolding driven handed
  driven_is zero f l c = refl
  driven_is (suc k) f l c =
      ap (λ (o : Outcome). on_call o (λ t s. driven room k s (drop t c))) (fed_call f l c room h)
      ∙ by_fed k c (fed_from length_of meaning f l c) (λ g d. driven_is k g [] d)

  abbrev piece_by : Bool → StreamReader → List ℕ → List Said × StreamReader
  piece_by t r c = cond t ([], r) (driven room (suc (length c)) r c)

  piece_is : (r : StreamReader) (c : List ℕ) → piece_by r.stopped r c ≡ handed_of length_of meaning unknown_kind r c
  unfolding handed_of
  piece_is r c = go r.stopped refl
    where
      go : (t : Bool) → r.stopped ≡ t
          → piece_by t r c ≡ cond t ([], r) (handed length_of meaning unknown_kind (suc (length c)) r.file r.kept c)
      go true e = refl
      go false e = ap (λ (q : StreamReader). driven room (suc (length c)) q c) (same e) ∙ driven_is (suc (length c)) r.file r.kept c
        where
          same : r.stopped ≡ false → r ≡ reader r.file r.kept
          same e = ap (λ (t : Bool). record { kept = r.kept; file = r.file; stopped = t }) e

  pub all_is : (r : StreamReader) (cs : List (List ℕ)) → driven_all room r cs ≡ handed_all length_of meaning unknown_kind r cs
  unfolding driven_all handed_all
  all_is r [] = refl
  all_is r (c ∷ cs) =
      ap (λ (o : List Said × StreamReader). (o.0 ++ (driven_all room o.1 cs).0, (driven_all room o.1 cs).1)) (piece_is r c)
      ∙ ap (λ (o : List Said × StreamReader). ((handed_of length_of meaning unknown_kind r c).0 ++ o.0, o.1)) (all_is (handed_of length_of meaning unknown_kind r c).1 cs)

  pub whole_told : (cs : List (List ℕ))
      → tells (driven_all room fresh cs).0 (closing_of (driven_all room fresh cs).1) ≡ told_of length_of meaning unknown_kind [] (flat cs)
  whole_told cs = rw (all_is fresh cs) (cut length_of meaning unknown_kind [] cs)

-- the buffer that an outcome leaves is the old one with its log laid over it, and its count is the log's length
abbrev pub Leaves : List ℕ → ℕ → Answer × List ℕ → Type 0
Leaves p s o = (o.1 ≡ splice p s (said_at s o).log) × (count_of o.0 ≡ length (said_at s o).log)

pub splice_nothing : (p : List ℕ) (s : ℕ) → splice p s [] ≡ p
unfolding splice
splice_nothing p s = rw (append-nil (take s p), add-zero s) (take-append-drop s p)

-- what an outcome says, where there is room
abbrev saying : Bool → Bool → ℕ → ℕ → List ℕ → Said
saying t u k o l = cond t (record { number = 0; log = l; opcode = 0 }) (cond u (record { number = 4; log = []; opcode = o }) (record { number = k; log = []; opcode = 0 }))

module _ (k o : ℕ) (l p : List ℕ) (s : ℕ) (room : no_room (length l) p s ≡ false) (not7 : k ≡ 7 → ⊥) where
  abbrev chosen : Bool → Bool → Bool → Answer × List ℕ
  chosen t u v = cond t (Done (length l), splice p s l) (cond u (Complex o, p) (cond v (Short (length l), p) (Refused k, p)))

  outcome_says : said_at s (outcome k o l p s) ≡ saying (eqb k 0) (eqb k 4) k o l
  unfolding outcome
  outcome_says = go (eqb k 0) (eqb k 4) (eqb k 7) refl
    where
      go : (t u v : Bool) → eqb k 7 ≡ v → said_at s (chosen t u v) ≡ saying t u k o l
      go true u v e = ap (λ (x : List ℕ). record { number = 0; log = x; opcode = 0 }) (spliced l p s room).inside
      go false true v e = refl
      go false false true e = absurd (not7 (eqb-true k 7 e))
      go false false false e = refl

  -- what it says is what it leaves in the buffer, and the count is that of its bytes
  outcome_leaves : Leaves p s (outcome k o l p s)
  unfolding outcome
  outcome_leaves = go (eqb k 0) (eqb k 4) (eqb k 7) refl
    where
      nothing : splice p s [] ≡ p
      nothing = splice_nothing p s

      go : (t u v : Bool) → eqb k 7 ≡ v → Leaves p s (chosen t u v)
      go true u v e = (ap (splice p s) (sym (spliced l p s room).inside), ap length (sym (spliced l p s room).inside))
      go false true v e = (sym nothing, refl)
      go false false true e = absurd (not7 (eqb-true k 7 e))
      go false false false e = (sym nothing, refl)

module _ (bad : Bool) (b : List ℕ) where
  same_refusal :
      (f : RegisterFile) (p q : List ℕ) (s t : ℕ) → s + most_bytes ≤ length p → t + most_bytes ≤ length q
      → refusal_of bad b f p s ≡ refusal_of bad b f q t
  unfolding refusal_of
  same_refusal f p q s t hp hq = rw (room_enough b f p s hp, room_enough b f q t hq)

  visit_says :
      (f : RegisterFile) (p : List ℕ) (s : ℕ) → s + most_bytes ≤ length p
      → said_at s (visit_by bad b f p s)
      ≡ saying (eqb (refusal_of bad b f p s) 0) (eqb (refusal_of bad b f p s) 4) (refusal_of bad b f p s) (record_of b).opcode (bytes_of (log_of b f))
  unfolding visit_by
  visit_says f p s h =
      outcome_says (refusal_of bad b f p s) (record_of b).opcode (bytes_of (log_of b f)) p s (room_enough b f p s h) (visit_has_room bad b f p s h)

  pub says_alike :
      (f : RegisterFile) (p q : List ℕ) (s t : ℕ) → s + most_bytes ≤ length p → t + most_bytes ≤ length q
      → said_at s (visit_by bad b f p s) ≡ said_at t (visit_by bad b f q t)
  says_alike f p q s t hp hq =
      visit_says f p s hp
      ∙ ap (λ (k : ℕ). saying (eqb k 0) (eqb k 4) k (record_of b).opcode (bytes_of (log_of b f))) (same_refusal f p q s t hp hq)
      ∙ sym (visit_says f q t hq)

  pub visit_leaves : (f : RegisterFile) (p : List ℕ) (s : ℕ) → s + most_bytes ≤ length p → Leaves p s (visit_by bad b f p s)
  unfolding visit_by
  visit_leaves f p s h =
      outcome_leaves (refusal_of bad b f p s) (record_of b).opcode (bytes_of (log_of b f)) p s (room_enough b f p s h) (visit_has_room bad b f p s h)
