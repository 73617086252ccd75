-- A sheet over logs: each word is what it was and what the logs taken add to it. Assumes nothing.
use Prim.Native.Nat.{ℕ, zero, suc, ◌+◌, ◌-◌, ◌*◌, ◌^◌, ◌≤◌, ◌<◌}
use native.Mathlib.Omega.{arith}
use mathlib.Core.Path.{◌≡◌, refl, sym, ap, ap₂, ◌∙◌}
use mathlib.Core.Bool.{Bool, true, false, cond}
use mathlib.Core.List.{List, [], ◌∷◌}
use lib.ListN.{length, get_or, take, get_or-replicate}
use lib.Dec.{ltb, leb}
use borrow.Author.Tests.{eq-eqb, ne_eqb, lt-leb, ltb-true, ltb-false, leb-true, leb-false, le-ltb}
use Rattle.std.proofs.lemmas.Bool.{and_parts}
use Rattle.definition.specs.Addresses.{word}
use Rattle.watching.specs.Verdicts.{variable, is_length}
use Rattle.watching.specs.declared.verdicts.Variable.{Variable}
use Rattle.totals.specs.Sheets.{address_word, length_word, logs_word, sheet_words, most_logs, most_log_bytes, variable_in, log_adds, refusal_of, taken_by, add_of, fresh, sheet_from}
use Rattle.totals.proofs.Adding.{taken_when, taken_so}
use Rattle.figures.specs.Counts.{is_good, good_in, events_of, sum_of}
use Rattle.figures.specs.Promises.{Watched}
use Rattle.figures.proofs.Sums.{raised_by_long, raised_sum}
use Rattle.figures.proofs.Logs.{good_is, is_good_lem, adds, adds_most, adds_none, adds_one}

-- the words are left, or raised
pub left_by_lem : (w l : List ℕ) → (refusal_of w l ≡ 0 → ⊥) → (add_of w l).1 ≡ w
unfolding add_of
left_by_lem w l h = rw (ne_eqb (refusal_of w l) 0 h)

taken_by_lem : (w l : List ℕ) → refusal_of w l ≡ 0 → (add_of w l).1 ≡ taken_by w l
unfolding add_of
taken_by_lem w l h = rw (eq-eqb (refusal_of w l) 0 h)

-- the words of a sheet that began new
pub record Kept (v : Variable) (w : List ℕ) : Type 0 where
  pub long : length w ≡ sheet_words
  pub address : get_or w address_word 0 ≡ v.address
  pub length_is : get_or w length_word 0 ≡ v.length
  pub few : get_or w logs_word 0 ≤ most_logs
  pub small : (i : ℕ) → logs_word ≤ i → i < sheet_words → get_or w i 0 ≤ get_or w logs_word 0 * 2 ^ 21

module _ (v : Variable) (x : Watched v) where
  pub fresh_zero : (i : ℕ) → logs_word ≤ i → i < sheet_words → get_or (fresh v) i 0 ≡ 0
  unfolding fresh
  fresh_zero zero h k = absurd (omega arith)
  fresh_zero (suc zero) h k = absurd (omega arith)
  fresh_zero (suc (suc j)) h k = get_or-replicate 97 j 0 0 (omega arith)

  pub kept_fresh : Kept v (fresh v)
  unfolding fresh
  kept_fresh = record { long = refl; address = refl; length_is = refl; few = omega arith; small = λ i h k. omega (arith, fresh_zero i h k) }

  -- a log is taken where it is good and the limit is not reached
  module _ (w l : List ℕ) (p : Kept v w) where
    length_good : is_length (get_or w length_word 0) ≡ true
    length_good = rw p.length_is x.length_is

    takes : get_or w logs_word 0 < most_logs → is_good l ≡ true → refusal_of w l ≡ 0
    takes h g =
        let m = good_is l g in
        taken_so w l (lt-leb most_logs (get_or w logs_word 0) h) length_good (le-ltb most_log_bytes (length l) m.0) ∙ m.1

    refuses : is_good l ≡ false → refusal_of w l ≡ 0 → ⊥
    refuses g e =
        let t = taken_when w l e in
        let z : true ≡ false = sym (is_good_lem l (ltb-false most_log_bytes (length l) t.2) t.3) ∙ g in
        let o : ◌≡◌ {A = ℕ} 0 1 = ap (λ (b : Bool). cond {A = ℕ} b 0 1) z in omega arith

    full : get_or w logs_word 0 ≡ most_logs → refusal_of w l ≡ 0 → ⊥
    full h e = let t = taken_when w l e in omega (arith, leb-false most_logs (get_or w logs_word 0) t.0)

    -- no word wraps
    unwrapped : (i : ℕ) → i < sheet_words → is_good l ≡ true → get_or w i 0 + adds v i l < word
    unwrapped i h g = go (ltb i logs_word) refl
      where
        low : (i : ℕ) → i < logs_word → get_or w i 0 < word
        low zero h = omega (arith, p.address, x.address_fits)
        low (suc zero) h = omega (arith, p.length_is, length_small)
          where
            length_small : v.length ≤ 8
            length_small = leb_is v.length x.length_is
              where
                leb_is : (n : ℕ) → is_length n ≡ true → n ≤ 8
                leb_is n e = leb-true n 8 ((and_parts (leb 1 n) (leb n 8) e).1)
        low (suc (suc i)) h = absurd (omega arith)

        go : (t : Bool) → ltb i logs_word ≡ t → get_or w i 0 + adds v i l < word
        go true e = let k = ltb-true i logs_word e in omega (arith, low i k, adds_none v i l k)
        go false e = omega (arith, p.small i (ltb-false i logs_word e) h, p.few, adds_most v i l g)

    same_variable : variable_in w ≡ v
    same_variable = ap₂ variable p.address p.length_is

    taken_at : (i : ℕ) → i < sheet_words → is_good l ≡ true → get_or (taken_by w l) i 0 ≡ get_or w i 0 + adds v i l
    unfolding taken_by adds
    taken_at i h g = rw same_variable (raised_sum (log_adds v (events_of l)) w i p.long h (unwrapped i h g))

    taken_long : length (taken_by w l) ≡ length w
    unfolding taken_by
    taken_long = raised_by_long (log_adds (variable_in w) (events_of l)) w

    kept_taken : get_or w logs_word 0 < most_logs → is_good l ≡ true → Kept v (taken_by w l)
    kept_taken h g =
        let logs = taken_at logs_word (omega arith) g in
        let once = adds_one v l in
        record {
          long = taken_long ∙ p.long;
          address = taken_at address_word (omega arith) g ∙ omega (arith, adds_none v address_word l (omega arith), p.address);
          length_is = taken_at length_word (omega arith) g ∙ omega (arith, adds_none v length_word l (omega arith), p.length_is);
          few = omega arith;
          small = λ i k m. omega (arith, taken_at i m g, p.small i k m, adds_most v i l g);
        }

  -- a sheet after logs
  pub record From (w : List ℕ) (ls : List (List ℕ)) : Type 0 where
    pub kept : Kept v (sheet_from w ls)
    pub sums : (i : ℕ) → i < sheet_words → get_or (sheet_from w ls) i 0 ≡ get_or w i 0 + sum_of (adds v i) (take (most_logs - get_or w logs_word 0) (good_in ls))

  none_yet : (w : List ℕ) → Kept v w → From w []
  unfolding sheet_from good_in sum_of
  none_yet w p = record { kept = p; sums = λ i h. rw (take_none (most_logs - get_or w logs_word 0)) (omega arith) }
    where
      take_none : (n : ℕ) → ◌≡◌ {A = List (List ℕ)} (take n []) []
      take_none zero = refl
      take_none (suc n) = refl

  refused : (w l : List ℕ) (ls : List (List ℕ)) → Kept v w → is_good l ≡ false → From w ls → From w (l ∷ ls)
  unfolding sheet_from good_in
  refused w l ls p g f = let e = left_by_lem w l (refuses w l p g) in record { kept = rw e f.kept; sums = λ i h. rw (e, g) (f.sums i h) }

  past : (w l : List ℕ) (ls : List (List ℕ)) → Kept v w → get_or w logs_word 0 ≡ most_logs → From w ls → From w (l ∷ ls)
  unfolding sheet_from sum_of
  past w l ls p h f =
      let e = left_by_lem w l (full w l p h) in
      let z : most_logs - get_or w logs_word 0 ≡ 0 = omega arith in
      record { kept = rw e f.kept; sums = λ i k. rw (e, z) (rw z at (f.sums i k)) }

  took : (w l : List ℕ) (ls : List (List ℕ)) → Kept v w → get_or w logs_word 0 < most_logs → is_good l ≡ true → From (taken_by w l) ls → From w (l ∷ ls)
  unfolding sheet_from good_in sum_of
  took w l ls p h g f =
      let e = taken_by_lem w l (takes w l p h g) in
      let n = most_logs - (get_or w logs_word 0 + 1) in
      let once = adds_one v l in
      let a : most_logs - get_or w logs_word 0 ≡ suc n = omega arith in
      let b : most_logs - get_or (taken_by w l) logs_word 0 ≡ n = omega (arith, taken_at w l p logs_word (omega arith) g) in
      record { kept = rw e f.kept; sums = λ i k. rw (e, g, a) (rw b at (f.sums i k) ∙ omega (arith, taken_at w l p i k g)) }

  step : (w l : List ℕ) (ls : List (List ℕ)) → Kept v w → ((u : List ℕ) → Kept v u → From u ls) → From w (l ∷ ls)
  step w l ls p later = go (ltb (get_or w logs_word 0) most_logs) refl (is_good l) refl
    where
      go : (s : Bool) → ltb (get_or w logs_word 0) most_logs ≡ s → (t : Bool) → is_good l ≡ t → From w (l ∷ ls)
      go true e true g = let h = ltb-true (get_or w logs_word 0) most_logs e in took w l ls p h g (later (taken_by w l) (kept_taken w l p h g))
      go s e false g = refused w l ls p g (later w p)
      go false e true g = past w l ls p (omega (arith, ltb-false (get_or w logs_word 0) most_logs e, p.few)) (later w p)

  pub from : (ls : List (List ℕ)) (w : List ℕ) → Kept v w → From w ls
  from [] w p = none_yet w p
  from (l ∷ ls) w p = step w l ls p (λ u q. from ls u q)
