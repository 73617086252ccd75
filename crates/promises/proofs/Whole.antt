-- What a visit wrote reads back as its events, and all else in the buffer stays. Assumes nothing.
use Prim.Native.Nat.{ℕ, ◌+◌, ◌≤◌}
use native.Mathlib.Omega.{arith}
use native.Mathlib.Nat.{add_assoc, add-zero}
use mathlib.Core.Path.{◌≡◌, sym, ap, ◌∙◌}
use mathlib.Core.List.{List, [], ◌∷◌, ◌++◌, append_assoc}
use mathlib.Core.Bool.{Bool, false, not}
use lib.Dec.{lit<}
use lib.ListN.{length, take, drop, length-append, take-append-drop}
use lib.Seq.{drop-drop, drop-append_seam}
use Rattle.laws.specs.Lists.{each}
use Rattle.laws.specs.Lending.{splice}
use Rattle.laws.proofs.Every.{Every, first_zero}
use Rattle.laws.proofs.Room.{starts_inside, has_left}
use Rattle.registers.specs.Files.{file_of, is_file}
use Rattle.registers.specs.declared.RegisterFile.{RegisterFile}
use Rattle.record.specs.Records.{record_of, record_tests}
use Rattle.definition.specs.Behaviors.{complex}
use Rattle.definition.specs.Logs.{event_bytes, bytes_of}
use Rattle.definition.specs.Refusals.{nameless, sizeless, no_room}
use Rattle.definition.specs.Visits.{fixed_record, log_of, refusal_of, visit_by, visit_of}
use Rattle.definition.specs.Listings.{listing_of, listing_refusal, listing_call}
use Rattle.definition.specs.Readings.{read_front, placed, read_at, Reads}
use Rattle.definition.specs.declared.Answer.{Answer}
use Rattle.definition.specs.declared.Answer.TheVariants.{Done}
use Rattle.definition.specs.declared.Event.{Event}
use Rattle.definition.specs.declared.Reading.TheVariants.{Found}
use Rattle.definition.proofs.RoundTrip.{round_trip, log_round_trip}
use Rattle.promises.specs.Calls.{Written, ReadsFrom, stop, step}
use Rattle.promises.proofs.Outcomes.{done_is, spliced}
use Rattle.promises.proofs.Good.{GoodEvent, fixed_sound, events_good}

-- a good event reads back, whatever stands behind it
pub good_back : (e : Event) (l : List ℕ) → GoodEvent e → read_front (event_bytes e ++ l) ≡ Found e (length (event_bytes e))
good_back e l g = round_trip GoodEvent (λ e g. g.0) (λ a n g. g.1) (λ a n g. g.1) e l g

-- good events read back from their bytes alone
reads_bytes : (es : List Event) → Every GoodEvent es → Reads (bytes_of es) es
reads_bytes es g = log_round_trip GoodEvent (λ e g. g.0) (λ a n g. g.1) (λ a n g. g.1) es g

found_at : (e : Event) (l : List ℕ) (at : ℕ) → read_front (drop at l) ≡ Found e (length (event_bytes e)) → read_at l at ≡ Found e (at + length (event_bytes e))
unfolding read_at
found_at e l at r = ap (placed at) r

-- and from a place of a larger buffer
reads_inside :
    (es : List Event) (l rest : List ℕ) (at : ℕ)
    → drop at l ≡ bytes_of es ++ rest → Every GoodEvent es → ReadsFrom l at es (at + length (bytes_of es))
unfolding each
reads_inside [] l rest at h g = rw (add-zero at) stop
reads_inside (e ∷ es) l rest at h g =
    let h' : drop at l ≡ event_bytes e ++ (bytes_of es ++ rest) = h ∙ append_assoc (event_bytes e) (bytes_of es) rest in
    let r : read_front (drop at l) ≡ Found e (length (event_bytes e)) = rw h' (good_back e (bytes_of es ++ rest) g.0) in
    let d : drop (at + length (event_bytes e)) l ≡ bytes_of es ++ rest =
    sym (drop-drop (length (event_bytes e)) at l) ∙ rw h' (drop-append_seam (event_bytes e) (bytes_of es ++ rest)) in
    rw (length-append (event_bytes e) (bytes_of es), ← add_assoc at (length (event_bytes e)) (length (bytes_of es)))
    (step (found_at e l at r) (reads_inside es l rest (at + length (event_bytes e)) d g.1))

-- a visit that wrote n bytes was refused by no test
module _ (bad : Bool) (b : List ℕ) (f : RegisterFile) (p : List ℕ) (s n : ℕ) (new : List ℕ) (done : visit_by bad b f p s ≡ (Done n, new)) where
  visit_done : (refusal_of bad b f p s ≡ 0) × (n ≡ length (bytes_of (log_of b f))) × (new ≡ splice p s (bytes_of (log_of b f)))
  unfolding visit_by
  visit_done = done_is (refusal_of bad b f p s) (record_of b).opcode (bytes_of (log_of b f)) p s n new done

  abbrev tests : List (Bool × ℕ)
  tests =
      record_tests b
      ++ ((bad, 3)
      ∷ (complex (fixed_record b), 4)
      ∷ (nameless (fixed_record b), 5)
      ∷ (sizeless (fixed_record b), 6)
      ∷ (no_room (length (bytes_of (log_of b f))) p s, 7)
      ∷ [])

  visit_tests_lem : Every (λ t. t.0 ≡ false) tests
  unfolding refusal_of
  visit_tests_lem = first_zero tests (lit< tt, (lit< tt, (lit< tt, (lit< tt, (lit< tt, (lit< tt, (lit< tt, (lit< tt, tt)))))))) visit_done.0

  pub visit_written : Written (bytes_of (log_of b f)) p new s n
  visit_written = rw (visit_done.1, visit_done.2) (spliced (bytes_of (log_of b f)) p s visit_tests_lem.1.1.1.1.1.1.1.0)

  -- within the buffer
  pub visit_inside : s + n ≤ length p
  unfolding no_room
  visit_inside =
      let m = length (bytes_of (log_of b f)) in
      let room = visit_tests_lem.1.1.1.1.1.1.1.0 in
      omega (arith, visit_done.1, starts_inside m s (length p) room, has_left m s (length p) room)

  log_good : Every GoodEvent (log_of b f)
  unfolding log_of
  log_good = events_good (fixed_record b) (fixed_sound (record_of b) visit_tests_lem.1.0) visit_tests_lem.1.1.1.1.1.0 visit_tests_lem.1.1.1.1.1.1.0 f

  pub visit_reads : Reads (take n (drop s new)) (log_of b f)
  visit_reads = rw visit_written.inside (reads_bytes (log_of b f) log_good)

  pub visit_reads_inside : ReadsFrom new s (log_of b f) (s + n)
  visit_reads_inside =
      rw visit_done.1
      (reads_inside (log_of b f) new (drop n (drop s new)) s
      (sym (take-append-drop n (drop s new)) ∙ ap (λ (l : List ℕ). l ++ drop n (drop s new)) visit_written.inside)
      log_good)

-- the same of a listing
module _ (b p : List ℕ) (s n : ℕ) (new : List ℕ) (done : listing_call b p s ≡ (Done n, new)) where
  listing_done : (listing_refusal b p s ≡ 0) × (n ≡ length (listing_of (fixed_record b))) × (new ≡ splice p s (listing_of (fixed_record b)))
  unfolding listing_call
  listing_done = done_is (listing_refusal b p s) (record_of b).opcode (listing_of (fixed_record b)) p s n new done

  abbrev listing_tests_lem : List (Bool × ℕ)
  listing_tests_lem =
      record_tests b
      ++ ((complex (fixed_record b), 4)
      ∷ (no_room (length (listing_of (fixed_record b))) p s, 7)
      ∷ [])

  listing_tested : Every (λ t. t.0 ≡ false) listing_tests_lem
  unfolding listing_refusal
  listing_tested = first_zero listing_tests_lem (lit< tt, (lit< tt, (lit< tt, (lit< tt, (lit< tt, tt))))) listing_done.0

  pub listing_written : Written (listing_of (fixed_record b)) p new s n
  listing_written = rw (listing_done.1, listing_done.2) (spliced (listing_of (fixed_record b)) p s listing_tested.1.1.1.1.0)

-- where a visit answers n, n is the length of the defined log
pub visit_count : (b f p : List ℕ) (s n : ℕ) → (visit_of b f p s).0 ≡ Done n → n ≡ length (bytes_of (log_of b (file_of f)))
visit_count b f p s n e =
    (visit_written (not (is_file f)) b (file_of f) p s n (visit_of b f p s).1 (ap (λ (a : Answer). (a, (visit_of b f p s).1)) e)).count
