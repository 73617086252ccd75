-- The rows of the table, by opcode: what every row keeps to. Assumes nothing.
use Rattle.std.specs.Prelude.{Result, Ok, Err}
use Prim.Native.Nat.{ℕ, ◌/◌, ◌%◌, ◌≤◌}
use mathlib.Core.Path.{◌≡◌, refl}
use mathlib.Core.List.{List, [], ◌∷◌}
use mathlib.Core.Bool.{Bool, true, false, not, cond}
use lib.Dec.{eqb, ltb, lit≤}
use borrow.Author.Tests.{eqb-true, ltb-false, not-false}
use Rattle.laws.specs.Tests.{any, some_of}
use Rattle.laws.proofs.Every.{Every, every_weaken, any_false}
use Rattle.digest.specs.Digests.{digest_in, digest_number}
use Rattle.digest.specs.declared.BehaviorDigest.{BehaviorDigest}
use Rattle.everyday.specs.Rows.{rows, lookup, everyday_digest, is_everyday}
use Rattle.everyday.specs.Codes.{code_of, code_at, digest_from}
use Rattle.laws.specs.declared.refusals.Refusal.{Refusal}
use Rattle.laws.specs.declared.refusals.Refusal.TheVariants.{Unlisted}

abbrev Row : Type 0
Row = ℕ × BehaviorDigest

-- what holds of every row and of none holds of what is found
found : (P : Result BehaviorDigest Refusal → Type 0) (o : ℕ) (rs : List Row) → Every (λ (r : Row). P (Ok r.1)) rs → P (Err Unlisted) → P (lookup o rs)
found P o [] h none = none
found P o (r ∷ rs) h none = by (eqb o r.0) (found P o rs h.1 none)
  where
    by : (t : Bool) → P (lookup o rs) → P (cond t (Ok r.1) (lookup o rs))
    by true later = h.0
    by false later = later

-- the code of an answer holds its digest, and is 0 for none alone; its list has a number up to 28
pub record Held (a : Result BehaviorDigest Refusal) : Type 0 where
  pub digest : digest_from (code_of a) ≡ digest_in a
  pub there : not (eqb (code_of a) 0) ≡ eqb (digest_number a) 0
  pub list : (digest_in a).extra ≤ 28

-- a digest that would not be held
abbrev unheld : BehaviorDigest → Bool
unheld d =
    some_of
    (not (eqb (code_of (Ok d) % 256) d.behavior)
    ∷ not (eqb (code_of (Ok d) / 256 % 256) d.operands)
    ∷ not (eqb (code_of (Ok d) / 65536) d.extra)
    ∷ eqb (code_of (Ok d)) 0
    ∷ ltb 28 d.extra
    ∷ [])

held_row : (d : BehaviorDigest) → unheld d ≡ false → Held (Ok d)
held_row d e =
    let t = any_false (λ (t : Bool). t) _ e in
    record {
      digest = rw (same (code_of (Ok d) % 256) d.behavior t.0, same (code_of (Ok d) / 256 % 256) d.operands t.1.0, same (code_of (Ok d) / 65536) d.extra t.1.1.0);
      there = rw t.1.1.1.0;
      list = ltb-false 28 d.extra t.1.1.1.1.0;
    }
  where
    same : (m n : ℕ) → not (eqb m n) ≡ false → m ≡ n
    same m n e = eqb-true m n (not-false (eqb m n) e)

-- the test of the whole table
pub held : (o : ℕ) → Held (everyday_digest o)
unfolding everyday_digest any
held o =
    found Held o rows
    (every_weaken (λ (r : Row). unheld r.1 ≡ false) (λ (r : Row). Held (Ok r.1)) (λ (r : Row). held_row r.1) rows (any_false (λ (r : Row). unheld r.1) rows refl))
    (record { digest = refl; there = refl; list = lit≤ tt })

-- an opcode's code, as the code of the table has it
pub digest_held : (o c : ℕ) → c ≡ code_at o → digest_from c ≡ digest_in (everyday_digest o)
unfolding code_at
digest_held o c e = rw e (held o).digest

pub there_held : (o c : ℕ) → c ≡ code_at o → not (eqb c 0) ≡ is_everyday o
unfolding code_at is_everyday
there_held o c e = rw e (held o).there
