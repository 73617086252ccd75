-- The slot of a register by its bank. Assumes nothing.
use Prim.Native.Nat.{ℕ, ◌≤◌, ◌<◌}
use Rattle.std.proofs.Common.{Option, Some, None}
use native.Mathlib.Omega.{arith}
use mathlib.Core.Path.{◌≡◌, refl}
use mathlib.Core.Logic.{inl, inr}
use mathlib.Core.Bool.{Bool, true, false, cond}
use lib.ListN.{get_or, get_or-eq_default}
use lib.Dec.{ltb}
use borrow.Author.Tests.{lt-ltb, ltb-true, ltb-false}
use Rattle.laws.proofs.Span.{span, span_but}
use Rattle.registers.specs.Banks.{reg, is_logged}
use Rattle.registers.specs.Files.{Part, nowhere, bank_parts, part_of}
use Rattle.fetching.specs.Needs.{held_registers}
use Rattle.fetch.specs.Parts.{held_slot}

below : (t : Bool) (n : ℕ) → (t ≡ true → n < held_registers) → cond t (Some n) None ≡ held_slot (cond t n held_registers)
below true n h = rw (lt-ltb n held_registers (h refl))
below false n h = refl

picked : (t : Bool) (p : Part) → (t ≡ true → p.slot < held_registers) → cond t (Some p.slot) None ≡ held_slot (cond t p nowhere).slot
picked true p h = below true p.slot h
picked false p h = refl

module _ (bank number : ℕ) where
  pub general_slot : bank ≤ 3 → cond (ltb number 16) (Some number) None ≡ held_slot (part_of (reg bank number)).slot
  unfolding part_of is_logged
  general_slot h =
      let low : ltb number 16 ≡ true → number < held_registers = λ t. omega (arith, ltb-true number 16 t) in
      span (λ (b : ℕ). cond (ltb number 16) (Some number) None ≡ held_slot (part_of (reg b number)).slot) 0 4
      (picked (ltb number 16) _ low, (picked (ltb number 16) _ low, (picked (ltb number 16) _ low, (picked (ltb number 16) _ low, tt))))
      bank (omega arith) (omega arith)

  pub pointer_slot : 9 ≤ bank → bank ≤ 10 → cond (ltb number 1) (Some 16) None ≡ held_slot (part_of (reg bank number)).slot
  unfolding part_of is_logged
  pointer_slot l h =
      span (λ (b : ℕ). cond (ltb number 1) (Some 16) None ≡ held_slot (part_of (reg b number)).slot) 9 2
      (picked (ltb number 1) _ (λ t. omega arith), (picked (ltb number 1) _ (λ t. omega arith), tt))
      bank l (omega arith)

  -- what lies nowhere, whether the bank has the number or not
  unplaced : get_or (bank_parts number) bank nowhere ≡ nowhere → None ≡ held_slot (part_of (reg bank number)).slot
  unfolding part_of
  unplaced e = rw e (either (is_logged bank number))
    where
      either : (t : Bool) → None ≡ held_slot (cond t nowhere nowhere).slot
      either true = refl
      either false = refl

  pub vector_slot : 5 ≤ bank → bank ≤ 8 → None ≡ held_slot (part_of (reg bank number)).slot
  vector_slot l h = unplaced (span (λ (b : ℕ). get_or (bank_parts number) b nowhere ≡ nowhere) 5 4 (refl, (refl, (refl, (refl, tt)))) bank l (omega arith))

  -- the bases are bank 13, the last
  pub other_slot : 11 ≤ bank → (bank ≡ 13 → ⊥) → None ≡ held_slot (part_of (reg bank number)).slot
  other_slot l ne = unplaced (by (ltb bank 14) refl)
    where
      by : (t : Bool) → ltb bank 14 ≡ t → get_or (bank_parts number) bank nowhere ≡ nowhere
      by true e =
          span_but (λ (b : ℕ). get_or (bank_parts number) b nowhere ≡ nowhere) bank 11 3 (inr refl, (inr refl, (inl ne, tt))) l (ltb-true bank 14 e)
      by false e = get_or-eq_default (bank_parts number) nowhere {n = bank} (ltb-false bank 14 e)

-- what is held is a slot's own number
pub held_is : (s k : ℕ) → Some k ≡ held_slot s → (s ≡ k) × (k < held_registers)
held_is s k e = by (ltb s held_registers) refl e
  where
    by : (t : Bool) → ltb s held_registers ≡ t → Some k ≡ cond t (Some s) None → (s ≡ k) × (k < held_registers)
    by true h e = let same : s ≡ k = cc in (same, omega (arith, same, ltb-true s held_registers h))
    by false h e = absurd cc

pub held_not : (s : ℕ) → None ≡ held_slot s → held_registers ≤ s
held_not s e = by (ltb s held_registers) refl e
  where
    by : (t : Bool) → ltb s held_registers ≡ t → ◌≡◌ {A = Option ℕ} None (cond t (Some s) None) → held_registers ≤ s
    by true h e = absurd cc
    by false h e = ltb-false s held_registers h
