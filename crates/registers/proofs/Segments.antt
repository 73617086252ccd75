-- The bases of fs and gs: the one bank that only events name, and the values that a plain file's bytes have not. Assumes nothing.
use Prim.Native.Nat.{ℕ, zero, suc, ◌+◌, ◌≤◌, zero-le}
use native.Mathlib.Omega.{arith}
use mathlib.Core.Path.{◌≡◌, refl, sym, ◌∙◌}
use mathlib.Core.Logic.{⊎_elim, inl, inr}
use mathlib.Core.Bool.{Bool, true, false}
use mathlib.Core.List.{List}
use lib.ListN.{length, get_or, get_or-eq_default}
use lib.Dec.{ltb}
use borrow.Author.Tests.{ltb-true, ltb-false}
use Rattle.laws.specs.Words.{number_at}
use Rattle.laws.proofs.Span.{span_but}
use Rattle.registers.specs.Banks.{bank_numbers, logged_numbers}
use Rattle.registers.specs.Files.{file_bytes, based_bytes, FileLong}

-- any other bank has the registers that a record may name
pub logged_but : (b : ℕ) → (b ≡ 13 → ⊥) → get_or logged_numbers b 0 ≡ get_or bank_numbers b 0
logged_but b ne = by (ltb b 14) refl
  where
    by : (t : Bool) → ltb b 14 ≡ t → get_or logged_numbers b 0 ≡ get_or bank_numbers b 0
    by true e =
        span_but (λ (k : ℕ). get_or logged_numbers k 0 ≡ get_or bank_numbers k 0) b 0 14
        (inr refl, (inr refl, (inr refl, (inr refl, (inr refl, (inr refl, (inr refl, (inr refl, (inr refl, (inr refl, (inr refl, (inr refl, (inr refl, (inl ne, tt))))))))))))))
        zero-le (ltb-true b 14 e)
    by false e =
        let h : 14 ≤ b = ltb-false b 14 e in
        get_or-eq_default logged_numbers 0 {n = b} h ∙ sym (get_or-eq_default bank_numbers 0 {n = b} (omega arith))

-- past the end every number is 0
past_end : (b : List ℕ) (i n : ℕ) → length b ≤ i → 0 ≡ number_at b i n
unfolding number_at
past_end b i zero h = refl
past_end b i (suc n) h = omega (arith, past_end b (i + 1) n (omega arith), get_or-eq_default b 0 {n = i} h)

module _ (b : List ℕ) (long : FileLong b) (ne : length b ≡ based_bytes → ⊥) where
  pub no_fs : 0 ≡ number_at b file_bytes 8
  no_fs = ⊎_elim (λ e. past_end b file_bytes 8 (omega arith)) (λ e. absurd (ne e)) long

  pub no_gs : 0 ≡ number_at b (file_bytes + 8) 8
  no_gs = ⊎_elim (λ e. past_end b (file_bytes + 8) 8 (omega arith)) (λ e. absurd (ne e)) long
