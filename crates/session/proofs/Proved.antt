-- What specs/Promises.antt promises. Assumes nothing.
use Rattle.std.proofs.Common.{◌≡◌, ℕ, ◌+◌, ◌%◌, ◌<◌, ◌≤◌, not, List, [], ◌∷◌, ◌++◌, length, take, drop, sym, refl, ap, ◌∙◌, arith, length-take, length-take-le, take-add}
use Rattle.registers.specs.Files.{file_of, is_file}
use Rattle.definition.specs.Addresses.{word}
use Rattle.definition.specs.Readings.{Reads, end}
use Rattle.definition.specs.Visits.{log_of, visit_of}
use Rattle.definition.specs.declared.Answer.{Answer}
use Rattle.definition.specs.declared.Answer.TheVariants.{Done, Refused, Complex, Short}
use Rattle.definition.specs.declared.Event.{Event}
use Rattle.event.proofs.Wholes.{reads_whole}
use Rattle.event.proofs.Joined.{reads_append, reads_few}
use Rattle.promises.specs.Calls.{Refusal, by_number, by_opcode, by_room_lem}
use Rattle.promises.proofs.Proved.{refused_leaves}
use Rattle.promises.proofs.Rooms.{visit_past_end}
use Rattle.promises.proofs.Whole.{visit_written, visit_inside, visit_reads}
use Rattle.session.specs.declared.counts.Counts.{Counts}
use Rattle.session.specs.declared.appends.Session.{Session}
use Rattle.session.specs.Sessions.{empty, counts_of, further, session_after, Held, appended, append, reset, after, after_all, Lent, Counted}
use Rattle.session.specs.Promises as promised
use Rattle.session.proofs.Sums.{counts_append, counts_few}

pub nothing_wraps : promised.NothingWraps
nothing_wraps s p c =
    let few = counts_few c.log in
    let some = reads_few (take s.used p) c.log c.reads in (
      omega (arith, c.events, c.unknown, few),
      omega (arith, c.events, few, some, length-take-le s.used p c.within),
      c.within,
    )

counted_empty : (p : List ℕ) → Counted empty p
unfolding counts_of
counted_empty p = record { log = []; within = omega arith; reads = end; events = refl; unknown = refl }

-- another buffer, with the same bytes up to `used`
elsewhere : (s : Session) (p q : List ℕ) → Counted s p → take s.used q ≡ take s.used p → Counted s q
elsewhere s p q c e =
    let same : length (take s.used q) ≡ length (take s.used p) = ap length e in
    record {
      log = c.log;
      within = omega (arith, same, length-take s.used q, length-take-le s.used p c.within);
      reads = rw e c.reads;
      events = c.events;
      unknown = c.unknown;
    }

small : (n : ℕ) → n < word → n % word ≡ n
small n h = omega arith

-- an append that wrote
module _ (b f : List ℕ) (s : Session) (p : List ℕ) (n : ℕ) (new : List ℕ) (c : Counted s p) (e : visit_of b f p s.used ≡ (Done n, new)) where
  abbrev es : List Event
  es = log_of b (file_of f)

  within : s.used + n ≤ length new
  within =
      omega (arith, visit_inside (not (is_file f)) b (file_of f) p s.used n new e, (visit_written (not (is_file f)) b (file_of f) p s.used n new e).long)

  reads : Reads (take (s.used + n) new) (c.log ++ es)
  reads =
      let w = visit_written (not (is_file f)) b (file_of f) p s.used n new e in
      rw (take-add s.used n new, w.before)
      (reads_append (take s.used p) (take n (drop s.used new)) c.log es c.reads
      (visit_reads (not (is_file f)) b (file_of f) p s.used n new e))

  -- the counts of the whole log, none of which wraps
  module _ (short : length p < word) where
    few : length (c.log ++ es) < word
    few =
        let w = visit_written (not (is_file f)) b (file_of f) p s.used n new e in
        omega (arith, short, w.long, within, reads_few (take (s.used + n) new) (c.log ++ es) reads, length-take-le (s.used + n) new within)

    counted_done : Counted (further s n es) new
    unfolding further
    counted_done =
        let all = counts_few (c.log ++ es) in
        let sum = counts_append c.log es in
        let ev : (counts_of (c.log ++ es)).events ≡ s.events + (counts_of es).events = ap (λ (x : Counts). x.events) sum ∙ ap (λ (k : ℕ). k + (counts_of es).events) (sym c.events) in
        let un : (counts_of (c.log ++ es)).unknown ≡ s.unknown + (counts_of es).unknown = ap (λ (x : Counts). x.unknown) sum ∙ ap (λ (k : ℕ). k + (counts_of es).unknown) (sym c.unknown) in
        record {
          log = c.log ++ es;
          within = within;
          reads = reads;
          events = small (s.events + (counts_of es).events) (omega (arith, ev, all.0, few)) ∙ sym ev;
          unknown = small (s.unknown + (counts_of es).unknown) (omega (arith, un, all.1, few)) ∙ sym un;
        }

by_answer :
    (b f : List ℕ) (s : Session) (p : List ℕ) (a : Answer) (new : List ℕ) → Counted s p → length p < word → visit_of b f p s.used ≡ (a, new)
    → Counted (session_after s (log_of b (file_of f)) a) new
by_answer b f s p (Done n) new c h e = counted_done b f s p n new c e h
by_answer b f s p (Refused k) new c h e = rw ((refused_leaves b f p s.used (Refused k) new by_number).0 e) c
by_answer b f s p (Complex o) new c h e = rw ((refused_leaves b f p s.used (Complex o) new by_opcode).0 e) c
by_answer b f s p (Short n) new c h e = rw ((refused_leaves b f p s.used (Short n) new by_room_lem).0 e) c

pub counted_always : promised.CountedAlways
unfolding after_all after appended Lent
counted_always h [] c l = c
counted_always h (append b f p ∷ qs) c l =
    counted_always (after h (append b f p)) qs
    (by_answer b f h.0 p (visit_of b f p h.0.used).0 (visit_of b f p h.0.used).1 (elsewhere h.0 h.1 p c l.1) l.0 refl)
    l.2
counted_always h (reset ∷ qs) c l = counted_always (after h reset) qs (counted_empty h.1) l

pub counted_from_reset : promised.CountedFromReset
counted_from_reset p qs l = counted_always (empty, p) qs (counted_empty p) l

pub counted_is_reading : promised.CountedIsReading
counted_is_reading s p c = (c.log, reads_whole (take s.used p) c.log c.reads, c.events ∙ (counts_few c.log).0, c.unknown)

pub append_is_a_visit : promised.AppendIsAVisit
unfolding appended
append_is_a_visit b f h = refl

pub refused_append : promised.RefusedAppend
unfolding appended
refused_append b f h r = by (visit_of b f h.1 h.0.used).0 r refl
  where
    by :
        (a : Answer) → Refusal a → (visit_of b f h.1 h.0.used).0 ≡ a
        → ◌≡◌ {A = Held} (session_after h.0 (log_of b (file_of f)) (visit_of b f h.1 h.0.used).0, (visit_of b f h.1 h.0.used).1) h
    by a r e = rw ((refused_leaves b f h.1 h.0.used a (visit_of b f h.1 h.0.used).1 r).0 (ap (λ (x : Answer). (x, (visit_of b f h.1 h.0.used).1)) e), e) (stays a r)
      where
        stays : (a : Answer) → Refusal a → ◌≡◌ {A = Held} (session_after h.0 (log_of b (file_of f)) a, h.1) h
        stays a by_number = refl
        stays a by_opcode = refl
        stays a by_room_lem = refl

pub past_the_end : promised.PastTheEnd
unfolding appended
past_the_end b f h q t past room = visit_past_end (not (is_file f)) b (file_of f) h.1 q h.0.used t past room

pub reset_empties : promised.ResetEmpties
unfolding after appended
reset_empties h b f p = (refl, refl)
