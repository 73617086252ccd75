-- What adding a log comes to, by its refusal. Assumes nothing.
use Rattle.std.proofs.Common.{◌≡◌, ℕ, Bool, true, false, cond, not, ltb, leb, List, length, get_or, refl, sym, ◌∙◌, arith, ne_eqb}
use Rattle.std.specs.Prelude.{Result, Ok, Err}
use Rattle.laws.specs.Lists.{each}
use Rattle.laws.specs.Refusals.{refusal_number, refused_by}
use Rattle.laws.specs.declared.refusals.Refusal.{Refusal}
use Rattle.laws.specs.declared.refusals.Refusal.TheVariants.{Malformed, Outside, BadFile, Complex, Nameless, Sizeless, NoRoom, Cut, Unlisted, Full}
use Rattle.event.specs.Wholes.{events_in, whole_of}
use Rattle.event.specs.Counts.{counted_of}
use Rattle.watching.specs.Verdicts.{is_length}
use Rattle.totals.specs.Sheets.{logs_word, length_word, most_logs, most_log_bytes, variable_in, additions, log_adds, raised, raised_by, refusal_of, taken_by, add_of}

-- none of the tests holds where a log is taken
by_tests : (a b c : Bool) (n : ℕ) → cond a 10 (cond (not b) 2 (cond c 2 n)) ≡ 0 → (a ≡ false) × (b ≡ true) × (c ≡ false) × (n ≡ 0)
by_tests true b c n e = absurd (omega arith)
by_tests false false c n e = absurd (omega arith)
by_tests false true true n e = absurd (omega arith)
by_tests false true false n e = (refl, refl, refl, e)

-- a log that is taken: the limit is not reached, the variable has a length that there is, the log is not too long and reads whole
pub taken_when :
    (w l : List ℕ) → refusal_of w l ≡ 0
    → (leb most_logs (get_or w logs_word 0) ≡ false) × (is_length (get_or w length_word 0) ≡ true) × (ltb most_log_bytes (length l) ≡ false) × (refused_by (counted_of l) ≡ 0)
unfolding refusal_of
taken_when w l e = by_tests (leb most_logs (get_or w logs_word 0)) (is_length (get_or w length_word 0)) (ltb most_log_bytes (length l)) (refused_by (counted_of l)) e

-- and back
pub taken_so :
    (w l : List ℕ) → leb most_logs (get_or w logs_word 0) ≡ false → is_length (get_or w length_word 0) ≡ true → ltb most_log_bytes (length l) ≡ false
    → refusal_of w l ≡ refused_by (counted_of l)
unfolding refusal_of
taken_so w l a b c = rw (a, b, c)

-- a refusal's number is not 0
pub numbered : (r : Refusal) → refusal_number r ≡ 0 → ⊥
numbered Malformed e = absurd (omega arith)
numbered Outside e = absurd (omega arith)
numbered BadFile e = absurd (omega arith)
numbered (Complex o) e = absurd (omega arith)
numbered Nameless e = absurd (omega arith)
numbered Sizeless e = absurd (omega arith)
numbered (NoRoom n) e = absurd (omega arith)
numbered Cut e = absurd (omega arith)
numbered Unlisted e = absurd (omega arith)
numbered Full e = absurd (omega arith)

-- refused, the words stay
pub stays : (w l : List ℕ) {n : ℕ} → n ≡ refusal_of w l → (n ≡ 0 → ⊥) → (n, w) ≡ add_of w l
unfolding add_of
stays w l {n} e h = rw (← e, ne_eqb n 0 h)

-- the two outcomes, by what the tests came to
module _ {A : Type 0} (w l : List ℕ) {c : Result A Refusal} (is : refused_by c ≡ refusal_of w l) where
  pub refused : {r : Refusal} {n : ℕ} → c ≡ Err r → n ≡ refusal_number r → (n, w) ≡ add_of w l
  refused {r} e m = stays w l (m ∙ rw e at is) (rw m (numbered r))

  pub no_refusal : {x : A} → c ≡ Ok x → refusal_of w l ≡ 0
  no_refusal e = sym (rw e at is)

  pub took : {x : A} {u : List ℕ} → c ≡ Ok x → u ≡ taken_by w l → (0, u) ≡ add_of w l
  unfolding add_of
  took e q = let k = no_refusal e in rw (k, q)

-- a log more, then its events
pub taken_steps : (w l : List ℕ) → raised_by (raised w logs_word 1) (each (additions (variable_in w)) (events_in (whole_of l))) ≡ taken_by w l
unfolding taken_by log_adds raised_by
taken_steps w l = refl
