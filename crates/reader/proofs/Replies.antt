-- What a call answers, from what visiting answered. Assumes nothing.
use Prim.Native.Nat.{ℕ, ◌+◌, ◌^◌, ◌≤◌, ◌<◌}
use mathlib.Core.Path.{◌≡◌, refl, sym, ap, ◌∙◌, subst}
use mathlib.Core.List.{List, []}
use mathlib.Core.Bool.{true, false, not}
use lib.ListN.{length}
use Rattle.laws.specs.Lending.{splice}
use Rattle.registers.specs.Files.{file_of, is_file}
use Rattle.definition.specs.Limits.{most_bytes}
use Rattle.definition.specs.Visits.{visit_of, number_of, opcode_of, count_of}
use Rattle.definition.specs.declared.Answer.{Answer}
use Rattle.answers.proofs.Counts.{visit_fits}
use Rattle.streams.specs.Cuts.{reader, halted}
use Rattle.streams.specs.Streams.{Said, bad_file, said_at, record_says, Outcome, unfinished, finishing, outcome_of}
use Rattle.streams.proofs.Driving.{Leaves, visit_leaves, splice_nothing}
use Rattle.streams.proofs.Proved.{records_are_visited}
use Rattle.streams.specs.declared.Call.{Call}
use Rattle.reader.specs.Held.{handing, left_by}
use Rattle.reader.specs.Items.{closed}
use Rattle.reader.specs.Chunks.{calling}
use Rattle.reader.specs.declared.held.Reader.{Reader}
use Rattle.reader.specs.declared.items.Brought.TheVariants.{Nothing, Unknown, BadFile, Record}
use Rattle.reader.specs.declared.items.Taking.{Taking}

module _ (f b p : List ℕ) (s : ℕ) {a : Answer} {q : List ℕ} (e : (a, q) ≡ visit_of b f p s) where
  pub count_small : count_of a < 2 ^ 32
  count_small = visit_fits (not (is_file f)) b (file_of f) p s e

  -- with room for every log, what visiting answered and left is what the record says
  pub visit_replies :
      (taken : ℕ) → s + most_bytes ≤ length p
      → record { call = calling (number_of a) true taken (count_of a) (opcode_of a); next = reader f []; buffer = q }
      ≡ handing (finishing (record_says f b) taken (reader f [])) p s
  visit_replies taken h =
      let says : said_at s (a, q) ≡ record_says f b = ap (said_at s) e ∙ sym (records_are_visited f b p s h) in
      let left : Leaves p s (a, q) = subst (Leaves p s) (sym e) (visit_leaves (not (is_file f)) b (file_of f) p s h) in
      ap (λ (n : ℕ). record { call = calling (number_of a) true taken n (opcode_of a); next = reader f []; buffer = q }) left.1
      ∙ ap (λ (x : List ℕ). record { call = (finishing (said_at s (a, q)) taken (reader f [])).call; next = reader f []; buffer = x }) left.0
      ∙ ap (λ (w : Said). handing (finishing w taken (reader f [])) p s) says

-- a call that writes no log leaves the buffer
pub quietly : (o : Outcome) (p : List ℕ) (s : ℕ) → o.log ≡ [] → record { call = o.call; next = o.next; buffer = p } ≡ handing o p s
quietly o p s e = ap (λ (x : List ℕ). record { call = o.call; next = o.next; buffer = x }) (sym (ap (splice p s) e ∙ splice_nothing p s))

-- WHAT WAS BROUGHT, as a call answers it
module _ (t : Taking) (r : Reader) (log : List ℕ) (start : ℕ) (a : Call) (goes : r.stopped ≡ false) where
  pub nothing_brought : t.brought ≡ Nothing → a ≡ calling 0 false t.taken 0 0 → left_by a r log ≡ handing (outcome_of t.taken (closed t r)) log start
  unfolding closed
  nothing_brought b e = rw (e, b, goes) (quietly (unfinished 0 t.taken 0 (reader r.file r.kept)) log start refl)

  module _ (k : List ℕ) (none : k ≡ []) where
    pub unknown_brought :
        t.brought ≡ Unknown → a ≡ calling 1 false t.taken 0 0
        → left_by a (record { kept = k; file = r.file; stopped = true }) log ≡ handing (outcome_of t.taken (closed t r)) log start
    unfolding closed
    unknown_brought b e = rw (e, b, none) (quietly (unfinished 1 t.taken 0 (halted r.file)) log start refl)

    pub bad_brought :
        t.brought ≡ BadFile → a ≡ calling 3 true t.taken 0 0
        → left_by a (record { kept = k; file = r.file; stopped = r.stopped }) log ≡ handing (outcome_of t.taken (closed t r)) log start
    unfolding closed
    bad_brought b e = rw (e, b, none, goes) (quietly (finishing bad_file t.taken (reader r.file [])) log start refl)

    pub record_brought :
        t.brought ≡ Record → (v : Answer) (q : List ℕ) → (v, q) ≡ visit_of r.kept r.file log start → start + most_bytes ≤ length log
        → a ≡ calling (number_of v) true t.taken (count_of v) (opcode_of v)
        → left_by a (record { kept = k; file = r.file; stopped = r.stopped }) q ≡ handing (outcome_of t.taken (closed t r)) log start
    unfolding closed
    record_brought b v q w h e = rw (e, b, none, goes) (visit_replies r.file r.kept log start w t.taken h)

-- what writes no log
pub ruleset brought_quietly = (nothing_brought, unknown_brought, bad_brought)
