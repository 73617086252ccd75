-- Each figure of a sheet as a count, and as a sum over the logs within the limit. Assumes nothing.
use Prim.Native.Nat.{ℕ, ◌+◌, ◌-◌, ◌≤◌, ◌<◌}
use native.Mathlib.Omega.{arith}
use mathlib.Core.Path.{◌≡◌, refl, sym, ap, ◌∙◌}
use mathlib.Core.Bool.{Bool, true, false, cond}
use mathlib.Core.List.{List, [], ◌∷◌}
use lib.ListN.{length, get_or, take, drop}
use lib.Seq.{take_all}
use borrow.Author.Tests.{ne_eqb}
use Rattle.laws.specs.Lists.{each}
use Rattle.laws.proofs.Every.{Every, every_take}
use Rattle.definition.specs.Readings.{is_event, Reads, end, next}
use Rattle.definition.specs.declared.Event.{Event}
use Rattle.event.proofs.Fronts.{holds}
use Rattle.watching.specs.declared.verdicts.Variable.{Variable}
use Rattle.totals.specs.Sheets.{logs_word, sheet_words, most_logs, additions, fresh, sheet_of}
use Rattle.figures.specs.Counts.{is_good, good_in, taken_in, all_events, events_of, sum_of}
use Rattle.figures.specs.Promises.{Watched, figure}
use Rattle.figures.proofs.Sums.{sum_append, amount}
use Rattle.figures.proofs.Logs.{good_is, good_reads, adds, adds_is}
use Rattle.figures.proofs.Taking.{Kept, From, kept_fresh, fresh_zero, from}

module _ {A : Type 0} where
  sum_same : (P : A → Type 0) (f g : A → ℕ) → ((x : A) → P x → f x ≡ g x) → (xs : List A) → Every P xs → sum_of f xs ≡ sum_of g xs
  unfolding sum_of
  sum_same P f g h [] p = refl
  sum_same P f g h (x ∷ xs) p = omega (arith, h x p.0, sum_same P f g h xs p.1)

  sum_each : {B : Type 0} (k : A → List B) (f : B → ℕ) (xs : List A) → sum_of f (each k xs) ≡ sum_of (λ (x : A). sum_of f (k x)) xs
  unfolding sum_of each
  sum_each k f [] = refl
  sum_each k f (x ∷ xs) = sum_append f (k x) (each k xs) ∙ ap (λ (n : ℕ). sum_of f (k x) + n) (sum_each k f xs)

-- what stands among the good logs is good
all_good : (ls : List (List ℕ)) → Every (λ (l : List ℕ). is_good l ≡ true) (good_in ls)
unfolding good_in
all_good [] = tt
all_good (l ∷ ls) = go (is_good l) refl (all_good ls)
  where
    go : (t : Bool) → is_good l ≡ t → Every (λ (m : List ℕ). is_good m ≡ true) (good_in ls) → Every (λ (m : List ℕ). is_good m ≡ true) (cond t (l ∷ good_in ls) (good_in ls))
    go true e p = (e, p)
    go false e p = p

-- the good logs' figures, as a sum over all logs
module _ (f : List ℕ → ℕ) where
  abbrev pub if_good : List ℕ → ℕ
  if_good l = cond (is_good l) (f l) 0

  pub good_sum : (ls : List (List ℕ)) → sum_of f (good_in ls) ≡ sum_of if_good ls
  unfolding sum_of good_in
  good_sum [] = refl
  good_sum (l ∷ ls) = go (is_good l) (good_sum ls)
    where
      go : (t : Bool) → sum_of f (good_in ls) ≡ sum_of if_good ls → sum_of f (cond t (l ∷ good_in ls) (good_in ls)) ≡ cond t (f l) 0 + sum_of if_good ls
      go true e = ap (λ (n : ℕ). f l + n) e
      go false e = omega arith

-- what a good log adds to a word, where each event gives it so much
module _ (v : Variable) (i : ℕ) (f : Event → ℕ) (gets : (e : Event) → is_event e ≡ true → amount i (additions v e) ≡ f e) where
  event_sum : (l : List ℕ) (es : List Event) → Reads l es → sum_of (λ (e : Event). amount i (additions v e)) es ≡ sum_of f es
  unfolding sum_of
  event_sum l es end = refl
  event_sum l es (next {e = e} {es = rest} n g r) = let k = holds l g in omega (arith, gets e k.good, event_sum (drop n l) rest r)

  log_sum : logs_word < i → (l : List ℕ) → is_good l ≡ true → adds v i l ≡ sum_of f (events_of l)
  log_sum low l g =
      let r = good_reads l (good_is l g).1 in
      adds_is v i l ∙ rw (ne_eqb i logs_word (λ e. omega arith)) (omega (arith, event_sum l (events_of l) r))

module _ (v : Variable) (x : Watched v) (ls : List (List ℕ)) where
  all_logs : From v x (fresh v) ls
  all_logs = from v x ls (fresh v) (kept_fresh v x)

  pub kept : Kept v (sheet_of v ls)
  unfolding sheet_of
  kept = all_logs.kept

  pub total : (i : ℕ) → i < sheet_words → figure v ls i ≡ get_or (fresh v) i 0 + sum_of (adds v i) (taken_in ls)
  unfolding sheet_of taken_in
  total i h = all_logs.sums i h ∙ ap (λ (n : ℕ). get_or (fresh v) i 0 + sum_of (adds v i) (take n (good_in ls))) room
    where
      room : most_logs - get_or (fresh v) logs_word 0 ≡ most_logs
      room = omega (arith, fresh_zero v x logs_word (omega arith) (omega arith))

  -- where the good logs are within the limit, all of them
  pub within : length (good_in ls) ≤ most_logs → (i : ℕ) → i < sheet_words → figure v ls i ≡ get_or (fresh v) i 0 + sum_of (if_good (adds v i)) ls
  unfolding taken_in
  within m i h = total i h ∙ ap (λ (n : ℕ). get_or (fresh v) i 0 + n) (ap (sum_of (adds v i)) (take_all most_logs (good_in ls) m) ∙ good_sum (adds v i) ls)

  -- a figure counts what each event gives its word
  pub counts :
      (i : ℕ) (f : Event → ℕ) → ((e : Event) → is_event e ≡ true → amount i (additions v e) ≡ f e) → logs_word < i → i < sheet_words
      → figure v ls i ≡ sum_of f (all_events ls)
  unfolding all_events taken_in
  counts i f gets low h =
      total i h
      ∙ ap (λ (n : ℕ). n + sum_of (adds v i) (taken_in ls)) (fresh_zero v x i (omega arith) h)
      ∙ omega arith
      ∙ sum_same (λ (l : List ℕ). is_good l ≡ true) (adds v i) (λ (l : List ℕ). sum_of f (events_of l)) (log_sum v i f gets low) (taken_in ls) (every_take (λ (l : List ℕ). is_good l ≡ true) most_logs (good_in ls) (all_good ls))
      ∙ sym (sum_each events_of f (taken_in ls))
