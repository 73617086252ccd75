-- A step case by case, on plain variables. Assumes nothing.
use Rattle.std.proofs.Common.{◌≡◌, ℕ, suc, ◌<◌, ◌≤◌, Bool, true, false, ◌&&◌, not, eqb, List, [], ◌∷◌, map, length, take, Ok, Err, sym, refl, ap, ◌∙◌, arith, le-ltb, lt-ltb, eq-eqb, ne_eqb}
use Rattle.laws.specs.declared.refusals.Refusal.TheVariants.{Outside}
use Rattle.std.proofs.lemmas.Bool.{cond_both}
use Rattle.registers.specs.Files.{file_of, is_file}
use Rattle.record.specs.Records.{record_of}
use Rattle.definition.specs.Limits.{most_events, most_bytes}
use Rattle.definition.specs.Logs.{bytes_of}
use Rattle.definition.specs.Visits.{fixed_record, log_of, refusal_of, outcome, visit_by, visit_of, number_of}
use Rattle.definition.specs.declared.Answer.{Answer}
use Rattle.definition.specs.declared.Event.{Event}
use Rattle.definition.specs.declared.Answer.TheVariants.{Done}
use Rattle.definition.proofs.Bounds.{log_bytes_lem, log_events_lem}
use Rattle.promises.proofs.Outcomes.{number_is}
use Rattle.promises.proofs.Whole.{visit_written, visit_reads}
use Rattle.watching.specs.Verdicts.{is_length, verdict_of}
use Rattle.watching.specs.Tallies.{no_tally, tally_of, total}
use Rattle.watching.specs.Walks.{events_in}
use Rattle.watching.specs.Traces.{Pair, most_pairs, full, answer_to, refusals, logged_by, verdicts_of, is_taking, further, taken, step_of}
use Rattle.watching.specs.declared.verdicts.Variable.{Variable}
use Rattle.watching.specs.declared.tallies.Tally.{Tally}
use Rattle.watching.specs.declared.watch.Watch.{Watch}
use Rattle.watching.proofs.Sums.{tally_most}
use Rattle.watching.proofs.Walks.{reads_events}

-- a watch takes a pair, or it does not
pub takes : (w : Watch) → is_length w.variable.length ≡ true → w.pairs < most_pairs → is_taking w ≡ true
unfolding is_taking
takes w h l = rw (h, lt-ltb w.pairs most_pairs l)

pub full_takes : (w : Watch) → most_pairs ≤ w.pairs → is_taking w ≡ false
unfolding is_taking
full_takes w h = rw (le-ltb w.pairs most_pairs h) (and_false (is_length w.variable.length))
  where
    and_false : (t : Bool) → (t && false) ≡ false
    and_false true = refl
    and_false false = refl

pub short_takes : (w : Watch) → is_length w.variable.length ≡ false → is_taking w ≡ false
unfolding is_taking
short_takes w h = rw h

pub step_untaken : (w : Watch) (p : Pair) → is_taking w ≡ false → step_of w p ≡ Err Outside
unfolding step_of
step_untaken w p h = rw h

pub step_taken :
    (w : Watch) (p : Pair) → is_length w.variable.length ≡ true → w.pairs < most_pairs
    → step_of w p ≡ Ok (taken w (answer_to p) (refusals (answer_to p)) (tally_of (verdicts_of w.variable p)))
unfolding step_of
step_taken w p h l = rw (takes w h l)

-- an outcome whose number is 0 is that of a call that wrote
outcome_done : (k o : ℕ) (l p : List ℕ) (s : ℕ) → number_of (outcome k o l p s).0 ≡ 0 → (outcome k o l p s).0 ≡ Done (length l)
unfolding outcome
outcome_done k o l p s e = rw (eq-eqb k 0 (sym (number_is k o l p s) ∙ e))

module _ (b f : List ℕ) (a : Answer) (log : List ℕ) (visited : (a, log) ≡ visit_of b f full 0) where
  answered : answer_to (b, f) ≡ a
  unfolding answer_to
  answered = sym (ap (λ (r : Answer × List ℕ). r.0) visited)

  pub done_if : number_of a ≡ 0 → a ≡ Done (length (bytes_of (log_of b (file_of f))))
  unfolding visit_by
  done_if e =
      let same : a ≡ (visit_of b f full 0).0 = ap (λ (r : Answer × List ℕ). r.0) visited in
      same
      ∙ outcome_done (refusal_of (not (is_file f)) b (file_of f) full 0) (record_of b).opcode (bytes_of (log_of b (file_of f))) full 0
      (sym (ap number_of same) ∙ e)

  -- an answer that is not Done refuses
  abbrev pub NotDone : Type 0
  NotDone = (n : ℕ) → a ≡ Done n → ⊥

  module _ (w : Watch) (length_is : is_length w.variable.length ≡ true) (within : w.pairs < most_pairs) where
    pub step_refused : NotDone → Ok (record { visit = a; tally = no_tally; watch = further w 1 no_tally }) ≡ step_of w (b, f)
    unfolding taken verdicts_of logged_by tally_of
    step_refused t =
        sym (step_taken w (b, f) length_is within ∙ rw (answered, ne_eqb (number_of a) 0 (λ e. t _ (done_if e))))

    -- the tally of what was written
    abbrev of_log : ℕ → Tally
    of_log n = tally_of (map (verdict_of w.variable) (events_in (take n log)))

    pub step_logged : (n : ℕ) → a ≡ Done n → Ok (record { visit = Done n; tally = of_log n; watch = further w 0 (of_log n) }) ≡ step_of w (b, f)
    unfolding taken verdicts_of logged_by
    step_logged n e =
        rw (reads_events (take n log) (log_of b (file_of f)) (visit_reads (not (is_file f)) b (file_of f) full 0 n log done))
        (sym (step_taken w (b, f) length_is within ∙ rw (answered, e)))
      where
        done : visit_of b f full 0 ≡ (Done n, log)
        done = sym visited ∙ ap (λ (x : Answer). (x, log)) e

  -- the log lies within its buffer
  short : length (bytes_of (log_of b (file_of f))) ≤ most_bytes
  unfolding log_of
  short = log_bytes_lem (file_of f) (fixed_record b)

  pub fits : (n : ℕ) → a ≡ Done n → n ≤ length log
  fits n e =
      let w = visit_written (not (is_file f)) b (file_of f) full 0 n log (sym visited ∙ ap (λ (x : Answer). (x, log)) e) in
      omega (arith, w.count, w.long, short)

-- a pair has no more write events than a log has events
logged_few : (p : Pair) → length (logged_by p) ≤ most_events
unfolding logged_by log_of
logged_few p =
    cond_both (eqb (number_of (answer_to p)) 0) _ _ (λ (es : List Event). length es ≤ most_events)
    (λ t. log_events_lem (file_of p.1) (fixed_record p.0)) (λ t. omega arith)

map_length : {A B : Type 0} (f : A → B) (xs : List A) → length (map f xs) ≡ length xs
map_length f [] = refl
map_length f (x ∷ xs) = ap (λ (n : ℕ). suc n) (map_length f xs)

pub pair_few : (v : Variable) (p : Pair) → total (tally_of (verdicts_of v p)) ≤ most_events
unfolding verdicts_of
pair_few v p =
    omega (arith, tally_most (map (verdict_of v) (logged_by p)), map_length (verdict_of v) (logged_by p), logged_few p)
