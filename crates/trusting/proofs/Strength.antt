-- What may change does change, by computing. Assumes nothing.
use Rattle.std.specs.Prelude.{Some, None}
use Prim.Native.Nat.{ℕ}
use mathlib.Core.Path.{◌≡◌, refl}
use mathlib.Core.Bool.{true}
use Rattle.registers.specs.Files.{file_of, is_file, slot_of}
use Rattle.registers.specs.Values.{Value}
use Rattle.promises.specs.Refinement.{Gives}
use Rattle.promises.proofs.Opened.{opened}
use Rattle.watching.specs.Verdicts.{bytes_from, among, judged, store_verdict, verdict_of}
use Rattle.watching.specs.Tallies.{counting, tally_of, added}
use Rattle.watching.specs.Traces.{Pair, answer_to, logged_by, verdicts_of, fresh, is_taking, further, taken, step_of, after_step, run_from, watch_of}
use Rattle.trusting.specs.Rows.{blind, stores_at}
use Rattle.trusting.specs.Trust.{Along, end, next, Knowing}
use Rattle.trusting.specs.Strength.{UnknownBecomes, seen, seen_better, NumbersMove}
use Rattle.trusting.proofs.Trust.{nothing_extended}

blind_file : is_file blind.1 ≡ true
unfolding opened
blind_file = refl

known_file : (a : ℕ) → is_file (stores_at a).1 ≡ true
unfolding opened
known_file a = refl

nothing_known : (file_of blind.1).known ≡ 0
unfolding opened
nothing_known = refl

-- a file that knows nothing, and a file beside itself
blind_knowing : (a : ℕ) → Knowing blind (stores_at a)
blind_knowing a =
    record {
      same_record = refl;
      first_file = blind_file;
      second_file = known_file a;
      more = nothing_extended (file_of blind.1) (file_of (stores_at a).1) nothing_known;
    }

gives_itself : (x : Value) → Gives x x
gives_itself (Some n) = refl
gives_itself None = tt

knowing_itself : (p : Pair) → is_file p.1 ≡ true → Knowing p p
knowing_itself p h =
    record { same_record = refl; first_file = h; second_file = h; more = λ k. gives_itself (slot_of (file_of p.1) k) }

pub unknown_becomes : UnknownBecomes
unfolding opened bytes_from among judged store_verdict verdict_of answer_to logged_by verdicts_of
unknown_becomes = (refl, (blind_knowing 0x2000, refl), (blind_knowing 0xFFC, refl), (blind_knowing 0x1000, refl))

seen_along : Along Knowing seen seen_better
seen_along =
    next (blind_knowing 0x1004)
    (next (knowing_itself (stores_at 0xFFC) (known_file 0xFFC))
    (next (knowing_itself (stores_at 0x1000) (known_file 0x1000)) (next (blind_knowing 0x1000) end)))

pub numbers_move : NumbersMove
unfolding opened bytes_from among judged store_verdict verdict_of counting tally_of added answer_to logged_by verdicts_of fresh is_taking further taken step_of after_step run_from watch_of
numbers_move = (seen_along, refl, refl)
