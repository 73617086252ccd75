-- How many bytes a word takes, at most. Assumes nothing.
use Prim.Native.Nat.{ℕ, zero, suc, ◌/◌, ◌≤◌}
use native.Mathlib.Nat.{le_refl}
use native.Mathlib.Omega.{arith}
use mathlib.Core.Path.{◌≡◌}
use mathlib.Core.List.{List, [], ◌∷◌}
use lib.ListN.{length, take}
use lib.Seq.{length-take-le}
use lib.Dec.{ltb}
use Rattle.laws.specs.Lending.{size}
use Rattle.laws.proofs.OneByOne.{one_size}
use Rattle.std.proofs.lemmas.Bool.{cond_both}
use Rattle.decimal.specs.Words.{letters, decimal, places, word_bytes}
use Rattle.decimal.proofs.Numbers.{long}

places_few : (limit n : ℕ) → places limit n ≤ suc limit
unfolding places
places_few zero n = le_refl 1
places_few (suc limit) n =
    let few = places_few limit (n / 10) in
    cond_both (ltb n 10) 1 (suc (places limit (n / 10))) (λ (k : ℕ). k ≤ suc (suc limit)) (λ e. omega arith) (λ e. omega arith)

pub letters_size : (t : List ℕ) → size word_bytes (letters t ∷ []) ≡ length t
unfolding word_bytes
letters_size t = one_size word_bytes (letters t)

-- the front of a buffer that letters are copied to
pub front_long : (t out : List ℕ) → size word_bytes (letters t ∷ []) ≤ length out → length (take (length t) out) ≡ length t
front_long t out h = length-take-le (length t) out (omega (arith, letters_size t))

pub decimal_size : (n : ℕ) → size word_bytes (decimal n ∷ []) ≤ 20
unfolding word_bytes
decimal_size n = omega (arith, one_size word_bytes (decimal n), long (places 19 n) n, places_few 19 n)
