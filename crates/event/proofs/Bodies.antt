-- A range of kinds has one length; past the table there is none. Assumes nothing.
use Prim.Native.Nat.{ℕ, ◌≤◌, ◌<◌}
use native.Mathlib.Omega.{arith}
use mathlib.Core.List.{[], ◌∷◌}
use mathlib.Core.Path.{◌≡◌, sym}
use lib.ListN.{get_or-eq_default}
use Rattle.laws.proofs.Span.{span_is}
use Rattle.definition.specs.Readings.{body_of}

pub register_body : (k : ℕ) → 1 ≤ k → k ≤ 2 → 2 ≡ body_of k
unfolding body_of
register_body k h g = span_is body_of 2 1 2 (tt, (tt, tt)) k h (omega arith)

pub memory_body : (k : ℕ) → 3 ≤ k → k ≤ 4 → 9 ≡ body_of k
unfolding body_of
memory_body k h g = span_is body_of 9 3 2 (tt, (tt, tt)) k h (omega arith)

pub unknown_body : (k : ℕ) → 5 ≤ k → k ≤ 6 → 1 ≡ body_of k
unfolding body_of
unknown_body k h g = span_is body_of 1 5 2 (tt, (tt, tt)) k h (omega arith)

pub no_body : (k : ℕ) → k < 1 → 0 ≡ body_of k
unfolding body_of
no_body k h = span_is body_of 0 0 1 (tt, tt) k (omega arith) h

pub past_bodies : (k : ℕ) → 7 ≤ k → 0 ≡ body_of k
unfolding body_of
past_bodies k h = sym (get_or-eq_default (0 ∷ 2 ∷ 2 ∷ 9 ∷ 9 ∷ 1 ∷ 1 ∷ []) 0 {n = k} h)
