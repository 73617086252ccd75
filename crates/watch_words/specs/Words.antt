-- A watch as the ten words that a C caller keeps: address, length, pairs taken; write events unknown, none, part, whole; refused pairs;
-- the number of the first pair with a part write and of the last with a whole one, all ones where there is none.
use Rattle.std.specs.Prelude.{ℕ, ◌-◌, ◌^◌, List, [], ◌∷◌, cond, get_or, eqb, Option, None, Some, unwrap_or, Result, Ok, Err}
use Rattle.laws.specs.Refusals.{refusal_number}
use Rattle.laws.specs.declared.refusals.Refusal.{Refusal}
use Rattle.watching.specs.Verdicts.{variable}
use Rattle.watching.specs.declared.watch.Watch.{Watch}

abbrev pub never : ℕ
never = 2 ^ 64 - 1

abbrev pub when_in : ℕ → Option ℕ
when_in n = cond (eqb n never) None (Some n)

abbrev pub when_word : Option ℕ → ℕ
when_word x = unwrap_or x never

unfoldable pub watch_in : List ℕ → Watch
watch_in l =
    record {
      variable = variable (get_or l 0 0) (get_or l 1 0);
      pairs = get_or l 2 0;
      tally = record { unknown = get_or l 3 0; none = get_or l 4 0; part = get_or l 5 0; whole = get_or l 6 0 };
      refused = get_or l 7 0;
      first = when_in (get_or l 8 0);
      last = when_in (get_or l 9 0);
    }

unfoldable pub words_of : Watch → List ℕ
words_of w =
    w.variable.address ∷ w.variable.length ∷ w.pairs
    ∷ w.tally.unknown ∷ w.tally.none ∷ w.tally.part ∷ w.tally.whole
    ∷ w.refused ∷ when_word w.first ∷ when_word w.last ∷ []

-- a new watch's number and words; refused, the old words stay
abbrev pub new_words : Result Watch Refusal → List ℕ → ℕ × List ℕ
new_words (Ok w) old = (0, words_of w)
new_words (Err r) old = (refusal_number r, old)
