-- Every statement of specs/Promises.antt, proved.
use Prim.Native.Nat.{ℕ, ◌+◌, ◌≤◌, ◌<◌}
use native.Mathlib.Omega.{arith}
use mathlib.Core.Path.{◌≡◌, refl, sym, ap, ◌∙◌}
use mathlib.Core.Bool.{Bool, true, false, cond}
use mathlib.Core.List.{List, [], ◌∷◌, ◌++◌}
use lib.ListN.{length, get_or, take, drop, set, length-set, length-take, length-drop}
use lib.Seq.{ext_get_or, get_or-set_same, get_or-set_other}
use lib.Dec.{eqb}
use borrow.Author.Tests.{le-leb, lt-leb, lt-ltb, le-ltb, eqb-true, eqb-false}
use Rattle.laws.specs.Lists.{each}
use Rattle.laws.specs.Lending.{size}
use Rattle.laws.specs.Tests.{any, is_in}
use Rattle.laws.specs.Words.{number_at}
use Rattle.registers.specs.Banks.{is_logged}
use Rattle.laws.specs.Refusals.{refusal_number, refused_by}
use Rattle.laws.specs.declared.refusals.Refusal.{Refusal}
use Rattle.definition.specs.Logs.{event_bytes}
use Rattle.definition.specs.Readings.{body_of, front_event, is_event, read_front, Reads}
use Rattle.definition.specs.declared.Event.{Event}
use Rattle.definition.specs.declared.Event.TheVariants.{RegisterRead, RegisterWrite, MemoryRead, MemoryWrite, UnknownRead, UnknownWrite}
use Rattle.event.specs.Wholes.{Broken, read_from, whole_of}
use Rattle.event.specs.Counts.{counted_of}
use Rattle.event.proofs.Cuts.{reads_cut}
use Rattle.event.proofs.Wholes.{broken_whole}
use Rattle.watching.specs.Verdicts.{bytes_from, among, judged, store_verdict, verdict_of}
use Rattle.watching.specs.Tallies.{counting, tally_of}
use Rattle.watching.specs.declared.verdicts.Variable.{Variable}
use Rattle.watching.specs.declared.verdicts.Verdict.{Verdict}
use Rattle.watching.specs.declared.verdicts.Verdict.TheVariants.{NoWrite, AddressUnknown, NoneTouched, PartTouched, WholeTouched}
use Rattle.totals.specs.Sheets.{logs_word, sheet_words, most_logs, most_log_bytes, parts, additions, log_adds, raised, raised_by, refusal_of, taken_by, add_of, fresh, new_of, sheet_from, sheet_of}
use Rattle.totals.proofs.Adding.{stays, numbered, taken_so}
use Rattle.figures.specs.Counts.{is_good, good_in, taken_in, sum_of, part_write}
use Rattle.figures.specs.Promises as promised
use Rattle.figures.specs.Promises.{Watched, figure}
use Rattle.figures.specs.Rows.{numbers_from, shown_from, new, rows}
use Rattle.figures.proofs.Sums.{sum_append, sum_any_order, sum_one, amount}
use Rattle.figures.proofs.Amounts.{reads_get, writes_get, sizes_get, in_gets, out_gets, known_gets, part_gets}
use Rattle.figures.proofs.Logs.{is_good_lem, reads_number, reads_events, adds, adds_is, adds_one}
use Rattle.figures.proofs.Taking.{left_by_lem, fresh_zero}
use Rattle.figures.proofs.Figures.{if_good, good_sum, kept, total, counts}
use Rattle.figures.proofs.Figures as figures

-- each log taken is one
logs_are : (v : Variable) (ls : List (List ℕ)) → sum_of (adds v logs_word) ls ≡ length ls
unfolding sum_of
logs_are v [] = refl
logs_are v (l ∷ ls) = omega (arith, adds_one v l, logs_are v ls)

pub totals_are_counts : promised.TotalsAreCounts
totals_are_counts v ls x =
    record {
      address = (kept v x ls).address;
      length_kept = (kept v x ls).length_is;
      logs = total v x ls logs_word (omega arith) ∙ omega (arith, fresh_zero v x logs_word (omega arith) (omega arith), logs_are v (taken_in ls));
      in_bytes = counts v x ls _ _ (λ e g. in_gets v e) (omega arith) (omega arith);
      out_bytes = counts v x ls _ _ (λ e g. out_gets v e) (omega arith) (omega arith);
      part = counts v x ls _ _ (λ e g. part_gets v e) (omega arith) (omega arith);
      known = counts v x ls _ _ (λ e g. known_gets v e) (omega arith) (omega arith);
      reads = λ b h. counts v x ls _ _ (λ e g. reads_get v b e h g) (omega arith) (omega arith);
      writes = λ b h. counts v x ls _ _ (λ e g. writes_get v b e h g) (omega arith) (omega arith);
      of_size = λ n a b. counts v x ls _ _ (λ e g. sizes_get v n e a g) (omega arith) (omega arith);
    }

-- two sheets are equal where their words are
same_sheet : (v : Variable) (x : Watched v) (ls ms : List (List ℕ)) → ((i : ℕ) → i < sheet_words → figure v ls i ≡ figure v ms i) → sheet_of v ls ≡ sheet_of v ms
same_sheet v x ls ms h =
    let a = (kept v x ls).long in
    ext_get_or 0 (sheet_of v ls) (sheet_of v ms) (a ∙ sym (kept v x ms).long) (λ i k. h i (omega arith))

-- how many are good
good_count : (ls : List (List ℕ)) → length (good_in ls) ≡ sum_of (if_good (λ (l : List ℕ). 1)) ls
good_count ls = sym (sum_one (good_in ls)) ∙ good_sum (λ (l : List ℕ). 1) ls

pub same_in_any_order : promised.SameInAnyOrder
same_in_any_order v ls ms x p h =
    let few : length (good_in ms) ≤ most_logs = omega (arith, good_count ls, good_count ms, sum_any_order (if_good (λ (l : List ℕ). 1)) p) in
    same_sheet v x ls ms
    (λ i k. figures.within v x ls h i k ∙ ap (λ (n : ℕ). get_or (fresh v) i 0 + n) (sum_any_order (if_good (adds v i)) p) ∙ sym (figures.within v x ms few i k))

pub nothing_wraps : promised.NothingWraps
nothing_wraps v ls i x low h = let k = kept v x ls in omega (arith, k.small i low h, k.few)

pub refused_changes_nothing : promised.RefusedChangesNothing
unfolding add_of
refused_changes_nothing w l h = left_by_lem w l h

-- a log that is not good stands for nothing
good_without : (ls ms : List (List ℕ)) (l : List ℕ) → is_good l ≡ false → good_in (ls ++ (l ∷ ms)) ≡ good_in (ls ++ ms)
unfolding good_in
good_without [] ms l g = rw g
good_without (k ∷ ls) ms l g = rw (good_without ls ms l g)

pub refused_left_out : promised.RefusedLeftOut
unfolding taken_in
refused_left_out v ls ms l x g =
    same_sheet v x (ls ++ (l ∷ ms)) (ls ++ ms)
    (λ i k. total v x (ls ++ (l ∷ ms)) i k ∙ ap (λ (gs : List (List ℕ)). get_or (fresh v) i 0 + sum_of (adds v i) (take most_logs gs)) (good_without ls ms l g) ∙ sym (total v x (ls ++ ms) i k))

-- a log and the two that it is cut into
module _ (v : Variable) (l : List ℕ) (xs ys : List Event) (r : Reads l (xs ++ ys)) where
  abbrev front : List ℕ
  front = take (size event_bytes xs) l

  abbrev rest : List ℕ
  rest = drop (size event_bytes xs) l

  cut_adds : (i : ℕ) → adds v i front + adds v i rest ≡ adds v i l + cond (eqb i logs_word) 1 0
  cut_adds i =
      let c = reads_cut xs ys l r in
      let f : Event → ℕ = λ e. amount i (additions v e) in
      let a : adds v i front ≡ cond (eqb i logs_word) 1 0 + sum_of f xs = adds_is v i front ∙ rw (reads_events front xs c.before) in
      let b : adds v i rest ≡ cond (eqb i logs_word) 1 0 + sum_of f ys = adds_is v i rest ∙ rw (reads_events rest ys c.behind) in
      let d : adds v i l ≡ cond (eqb i logs_word) 1 0 + sum_of f (xs ++ ys) = adds_is v i l ∙ rw (reads_events l (xs ++ ys) r) in
      omega (arith, sum_append f xs ys)

  module _ (h : length l ≤ most_log_bytes) where
    whole_good : is_good l ≡ true
    whole_good = is_good_lem l h (reads_number l (xs ++ ys) r)

    front_good : is_good front ≡ true
    front_good = is_good_lem front (omega (arith, length-take (size event_bytes xs) l)) (reads_number front xs (reads_cut xs ys l r).before)

    rest_good : is_good rest ≡ true
    rest_good = is_good_lem rest (omega (arith, length-drop (size event_bytes xs) l)) (reads_number rest ys (reads_cut xs ys l r).behind)

    -- sums over the good logs, cut and whole
    cut_sum : (f : List ℕ → ℕ) (ls ms : List (List ℕ)) → sum_of (if_good f) (ls ++ (front ∷ rest ∷ ms)) ≡ sum_of (if_good f) ls + (f front + (f rest + sum_of (if_good f) ms))
    unfolding sum_of
    cut_sum f ls ms = sum_append (if_good f) ls (front ∷ rest ∷ ms) ∙ rw (front_good, rest_good)

    whole_sum : (f : List ℕ → ℕ) (ls ms : List (List ℕ)) → sum_of (if_good f) (ls ++ (l ∷ ms)) ≡ sum_of (if_good f) ls + (f l + sum_of (if_good f) ms)
    unfolding sum_of
    whole_sum f ls ms = sum_append (if_good f) ls (l ∷ ms) ∙ rw whole_good

pub cut_adds_a_log : promised.CutAddsALog
cut_adds_a_log v ls ms l xs ys x r h few =
    let n = size event_bytes xs in
    let cut = ls ++ (take n l ∷ drop n l ∷ ms) in
    let whole = ls ++ (l ∷ ms) in
    let u : List ℕ → ℕ = λ m. 1 in
    let fewer : length (good_in whole) ≤ most_logs =
    omega (arith, good_count cut, good_count whole, cut_sum v l xs ys r h u ls ms, whole_sum v l xs ys r h u ls ms) in
    let long = (kept v x whole).long in
    let words : (i : ℕ) → i < sheet_words → figure v cut i ≡ figure v whole i + cond (eqb i logs_word) 1 0 =
    λ i k. omega (arith, figures.within v x cut few i k, figures.within v x whole fewer i k, cut_sum v l xs ys r h (adds v i) ls ms, whole_sum v l xs ys r h (adds v i) ls ms, cut_adds v l xs ys r i) in
    ext_get_or 0 (sheet_of v cut) (set (sheet_of v whole) logs_word (figure v whole logs_word + 1))
    ((kept v x cut).long ∙ sym (length-set (sheet_of v whole) logs_word _ ∙ long))
    (λ i k. by_word v whole cut i (eqb i logs_word) refl long (words i (omega (arith, (kept v x cut).long))))
  where
    by_word :
        (v : Variable) (whole cut : List (List ℕ)) (i : ℕ) (t : Bool) → eqb i logs_word ≡ t → length (sheet_of v whole) ≡ sheet_words
        → figure v cut i ≡ figure v whole i + cond (eqb i logs_word) 1 0
        → figure v cut i ≡ get_or (set (sheet_of v whole) logs_word (figure v whole logs_word + 1)) i 0
    by_word v whole cut i true e long q =
        let s = eqb-true i logs_word e in
        q ∙ rw (e, s) (sym (get_or-set_same (sheet_of v whole) logs_word _ 0 (omega arith)))
    by_word v whole cut i false e long q =
        q ∙ rw e (sym (get_or-set_other (sheet_of v whole) logs_word i _ 0 (eqb-false i logs_word e) ∙ omega arith))

pub limit_first : promised.LimitFirst
unfolding refusal_of
limit_first w l h = sym (stays w l {n = 10} (rw (le-leb most_logs (get_or w logs_word 0) h)) (λ z. omega arith))

pub then_the_length : promised.ThenTheLength
unfolding refusal_of
then_the_length w l h k = sym (stays w l {n = 2} (rw (lt-leb most_logs (get_or w logs_word 0) h, k)) (λ z. omega arith))

pub then_the_bytes : promised.ThenTheBytes
unfolding refusal_of
then_the_bytes w l h k m = sym (stays w l {n = 2} (rw (lt-leb most_logs (get_or w logs_word 0) h, k, lt-ltb most_log_bytes (length l) m)) (λ z. omega arith))

broken_number : (l : List ℕ) (es : List Event) (r : Refusal) → Broken l es r → refused_by (counted_of l) ≡ refusal_number r
unfolding counted_of
broken_number l es r b = rw (broken_whole l es r b)

pub then_its_own : promised.ThenItsOwn
then_its_own w l es r h n m b =
    let own = taken_so w l (lt-leb most_logs (get_or w logs_word 0) h) n (le-ltb most_log_bytes (length l) m) ∙ broken_number l es r b in
    sym (stays w l (sym own) (numbered r))

pub no_such_length : promised.NoSuchLength
unfolding new_of
no_such_length w a n h = rw h

part_is : (x : Verdict) → parts x ≡ (tally_of (x ∷ [])).part
unfolding tally_of counting
part_is NoWrite = refl
part_is AddressUnknown = refl
part_is NoneTouched = refl
part_is PartTouched = refl
part_is WholeTouched = refl

pub parts_are_verdicts : promised.PartsAreVerdicts
unfolding part_write verdict_of
parts_are_verdicts v (RegisterRead y) = part_is NoWrite
parts_are_verdicts v (RegisterWrite y) = part_is NoWrite
parts_are_verdicts v (MemoryRead a n) = part_is NoWrite
parts_are_verdicts v (MemoryWrite a n) = part_is (store_verdict v a n)
parts_are_verdicts v (UnknownRead n) = part_is NoWrite
parts_are_verdicts v (UnknownWrite n) = part_is AddressUnknown

pub rows_hold : promised.RowsHold
unfolding rows numbers_from shown_from new sheet_from add_of refusal_of taken_by log_adds raised raised_by additions fresh each counted_of whole_of read_from read_front body_of front_event is_event is_logged number_at store_verdict judged among bytes_from is_in any
rows_hold = refl
