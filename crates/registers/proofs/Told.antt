-- What a file tells of a register, found in parts, is what it answers of it. Assumes nothing.
use Rattle.std.specs.Prelude.{Some, None}
use Prim.Native.Nat.{ℕ, ◌+◌, ◌-◌, ◌/◌, ◌%◌, ◌^◌, ◌<◌, ◌≤◌, zero-le}
use native.Mathlib.Nat.{div-one, mod-eq_of_lt}
use native.Mathlib.Omega.{arith}
use mathlib.Core.Path.{◌≡◌, refl, sym, ap, ◌∙◌}
use mathlib.Core.Bool.{Bool, true, false, cond, ◌&&◌}
use lib.Dec.{ltb, lit≤, lit<}
use lib.ListN.{get_or, get_or-eq_default}
use borrow.Author.Tests.{lt-ltb, le-ltb, ne_eqb, ltb-true, ltb-false}
use Rattle.laws.proofs.Span.{span}
use Rattle.laws.specs.Words.{bit}
use Rattle.registers.specs.Banks.{reg, logged_numbers, is_logged}
use Rattle.registers.specs.Files.{plain_slots, file_slots, Part, part, nowhere, bank_parts, part_of, slot_of, after, part_value, value_of}
use Rattle.registers.specs.Told.{told_numbers, is_told, told_slot, told_byte, told_part}
use Rattle.registers.proofs.Parts.{whole_part}
use Rattle.registers.specs.declared.RegSpec.{RegSpec}
use Rattle.registers.specs.declared.RegisterFile.{RegisterFile}
use Rattle.registers.specs.Values.{Value}
use Rattle.std.specs.Bool.{then_some}

-- a value that is known where a test holds
chosen : (t : Bool) (v : ℕ) → then_some t v ≡ cond t (Some v) None
chosen true v = refl
chosen false v = refl

-- a part of a slot that the file has
module _ (f : RegisterFile) where
  pub slot_part :
      (k below bits v : ℕ) → k < file_slots → v ≡ get_or f.values k 0 / 2 ^ below % 2 ^ bits
      → part_value f (part k below bits) ≡ cond (bit f.known k) (Some v) None
  unfolding part_value slot_of
  slot_part k below bits v h e = rw (lt-ltb k file_slots h) (by (bit f.known k))
    where
      by : (t : Bool) → after (cond t (Some (get_or f.values k 0)) None) (λ w. Some (w / 2 ^ below % 2 ^ bits)) ≡ cond t (Some v) None
      by true = ap Some (sym e)
      by false = refl

  pub no_part : part_value f nowhere ≡ None
  unfolding part_value slot_of
  no_part = refl

  -- a bank of which a file tells the first m registers, each a part of its own slot
  told_bank :
      (n m k below bits v : ℕ) → (n < m → (k < file_slots) × (v ≡ get_or f.values k 0 / 2 ^ below % 2 ^ bits)) → (p : Part) → (n < m → p ≡ part k below bits)
      → part_value f (cond (ltb n m) p nowhere) ≡ cond (ltb n m && bit f.known k) (Some v) None
  told_bank n m k below bits v h p q = by (ltb n m) refl
    where
      by : (t : Bool) → ltb n m ≡ t → part_value f (cond t p nowhere) ≡ cond (t && bit f.known k) (Some v) None
      by true e = let l = ltb-true n m e in rw (q l) (slot_part k below bits v (h l).0 (h l).1)
      by false e = no_part

  never : (t : Bool) → part_value f (cond t nowhere nowhere) ≡ None
  never true = no_part
  never false = no_part

  -- the banks whose registers lie at the bottom of a slot
  bottom_bank :
      (n m bits : ℕ) → m ≤ 16
      → part_value f (cond (ltb n m) (part n 0 bits) nowhere)
      ≡ cond (ltb n m && bit f.known (n % 16)) (Some (get_or f.values (n % 16) 0 % 2 ^ bits)) None
  bottom_bank n m bits h =
      told_bank n m (n % 16) 0 bits (get_or f.values (n % 16) 0 % 2 ^ bits)
      (λ (l : n < m). (omega arith, rw (div-one (get_or f.values (n % 16) 0))))
      (part n 0 bits)
      (λ (l : n < m). let k : n < 16 = omega arith in rw (mod-eq_of_lt k))

  -- RIP and EIP
  pointer_bank :
      (n bits : ℕ) → part_value f (cond (ltb n 1) (part 16 0 bits) nowhere) ≡ cond (ltb n 1 && bit f.known 16) (Some (get_or f.values 16 0 % 2 ^ bits)) None
  pointer_bank n bits =
      told_bank n 1 16 0 bits (get_or f.values 16 0 % 2 ^ bits)
      (λ (l : n < 1). (omega arith, rw (div-one (get_or f.values 16 0))))
      (part 16 0 bits)
      (λ (l : n < 1). refl)

  -- the bases of fs and gs
  segment_bank :
      (n bits : ℕ)
      → part_value f (cond (ltb n 2) (part (plain_slots + n) 0 bits) nowhere)
      ≡ cond (ltb n 2 && bit f.known (plain_slots + n % 2)) (Some (get_or f.values (plain_slots + n % 2) 0 % 2 ^ bits)) None
  segment_bank n bits =
      told_bank n 2 (plain_slots + n % 2) 0 bits (get_or f.values (plain_slots + n % 2) 0 % 2 ^ bits)
      (λ (l : n < 2). (omega arith, rw (div-one (get_or f.values (plain_slots + n % 2) 0))))
      (part (plain_slots + n) 0 bits)
      (λ (l : n < 2). rw (mod-eq_of_lt l))

  byte_bank :
      (n : ℕ)
      → part_value f (cond (ltb n 8) (part (cond (ltb n 4) n (n - 4)) (cond (ltb n 4) 0 8) 8) nowhere)
      ≡ cond (ltb n 8 && bit f.known (n % 4)) (Some (told_byte n (get_or f.values (n % 4) 0))) None
  unfolding told_byte
  byte_bank n = by (ltb n 4) refl
    where
      w : ℕ
      w = get_or f.values (n % 4) 0

      by : (t : Bool) → ltb n 4 ≡ t
          → part_value f (cond (ltb n 8) (part (cond t n (n - 4)) (cond t 0 8) 8) nowhere)
          ≡ cond (ltb n 8 && bit f.known (n % 4)) (Some (cond (ltb 3 n) (w / 256 % 256) (w % 256))) None
      by true e =
          let h : n < 4 = ltb-true n 4 e in
          let g : n ≤ 3 = omega arith in
          rw (le-ltb 3 n g)
          (told_bank n 8 (n % 4) 0 8 (w % 256) (λ (l : n < 8). (omega arith, rw (div-one w))) (part n 0 8) (λ (l : n < 8). rw (mod-eq_of_lt h)))
      by false e =
          let h : 4 ≤ n = ltb-false n 4 e in
          let g : 3 < n = omega arith in
          rw (lt-ltb 3 n g)
          (told_bank n 8 (n % 4) 8 8 (w / 256 % 256) (λ (l : n < 8). (omega arith, refl)) (part (n - 4) 8 8) (λ (l : n < 8). let k : n - 4 ≡ n % 4 = omega arith in rw k))

  untold : (n : ℕ) (t s : Bool) (v : Value) → part_value f (cond t nowhere nowhere) ≡ cond (ltb n 0 && s) v None
  untold n t s v = rw (le-ltb n 0 zero-le) (never t)

  abbrev Tells : ℕ → Type 0
  Tells b =
      (n : ℕ) → get_or f.values (told_slot (reg b n)) 0 < 2 ^ 64
      → part_value f (cond (ltb n (get_or logged_numbers b 0)) (get_or (bank_parts n) b nowhere) nowhere)
      ≡ cond (is_told (reg b n) && bit f.known (told_slot (reg b n))) (Some (told_part (reg b n) (get_or f.values (told_slot (reg b n)) 0))) None

  tells_whole : Tells 0
  unfolding is_told told_numbers told_slot told_part
  tells_whole n h = rw (mod-eq_of_lt h) at (bottom_bank n 16 64 (lit≤ tt))

  tells_pointer : Tells 9
  unfolding is_told told_numbers told_slot told_part
  tells_pointer n h = rw (mod-eq_of_lt h) at (pointer_bank n 64)

  tells_base : Tells 13
  unfolding is_told told_numbers told_slot told_part
  tells_base n h = rw (mod-eq_of_lt h) at (segment_bank n 64)

  tells : (b : ℕ) → b < 14 → Tells b
  unfolding is_told told_numbers told_slot told_part
  tells b h =
      span Tells 0 14 (
        tells_whole,
        (
          (λ n h. bottom_bank n 16 32 (lit≤ tt)),
          (
            (λ n h. bottom_bank n 16 16 (lit≤ tt)),
            (
              (λ n h. bottom_bank n 16 8 (lit≤ tt)),
              (
                (λ n h. byte_bank n),
                (
                  (λ n h. untold n (ltb n 32) _ _),
                  (
                    (λ n h. untold n (ltb n 32) _ _),
                    (
                      (λ n h. untold n (ltb n 32) _ _),
                      (
                        (λ n h. untold n (ltb n 8) _ _),
                        (
                          tells_pointer,
                          (
                            (λ n h. pointer_bank n 32),
                            (
                              (λ n h. untold n (ltb n 1) _ _),
                              (
                                (λ n h. untold n (ltb n 32) _ _),
                                (
                                  tells_base,
                                  tt,
                                ),
                              ),
                            ),
                          ),
                        ),
                      ),
                    ),
                  ),
                ),
              ),
            ),
          ),
        ),
      )
      b zero-le h

  tells_none : (b : ℕ) → 14 ≤ b → Tells b
  unfolding is_told told_numbers
  tells_none b h n w =
      rw (get_or-eq_default (bank_parts n) nowhere {n = b} h, le-ltb b 4 (omega arith), ne_eqb b 4 (λ (e : b ≡ 4). omega arith), ne_eqb b 9 (λ (e : b ≡ 9). omega arith), ne_eqb b 10 (λ (e : b ≡ 10). omega arith), ne_eqb b 13 (λ (e : b ≡ 13). omega arith))
      (untold n (ltb n (get_or logged_numbers b 0)) _ _)

  -- a general register, whole
  pub whole_told : (n : ℕ) {s : Bool} {v : ℕ} → n < 16 → s ≡ bit f.known n → v ≡ get_or f.values n 0 → v < 2 ^ 64 → cond s (Some v) None ≡ value_of f (reg 0 n)
  unfolding value_of part_of is_logged
  whole_told n {s} {v} h e w k = rw (lt-ltb n 16 h, e) (sym (slot_part n 0 64 v (omega arith) (rw (← w) (whole_part 64 v k))))

  pub whole_known :
      (n : ℕ) {s : Bool} {r : Value}
      → r ≡ then_some s (get_or f.values n 0) → n < 16 → s ≡ bit f.known n → get_or f.values n 0 < 2 ^ 64 → r ≡ value_of f (reg 0 n)
  whole_known n {s} e h b k = e ∙ chosen s _ ∙ whole_told n h b refl k

  pub whole_untold : (n : ℕ) → 16 ≤ n → None ≡ value_of f (reg 0 n)
  unfolding value_of part_of is_logged
  whole_untold n h = rw (le-ltb n 16 h) (sym no_part)

  -- the base of fs and that of gs
  pub base_told :
      (n : ℕ) {s : Bool} {v : ℕ} → n < 2 → s ≡ bit f.known (plain_slots + n) → v ≡ get_or f.values (plain_slots + n) 0 → v < 2 ^ 64
      → cond s (Some v) None ≡ value_of f (reg 13 n)
  unfolding value_of part_of is_logged
  base_told n {s} {v} h e w k = rw (lt-ltb n 2 h, e) (sym (slot_part (plain_slots + n) 0 64 v (omega arith) (rw (← w) (whole_part 64 v k))))

  pub fs_known :
      (n : ℕ) {s : Bool} {r : Value}
      → r ≡ then_some s (get_or f.values 17 0) → n ≡ 0 → s ≡ bit f.known 17 → get_or f.values 17 0 < 2 ^ 64 → r ≡ value_of f (reg 13 n)
  fs_known n {s} e z b k = rw z (e ∙ chosen s _ ∙ base_told 0 (lit< tt) b refl k)

  pub gs_known :
      (n : ℕ) {s : Bool} {r : Value}
      → r ≡ then_some s (get_or f.values 18 0) → n ≡ 1 → s ≡ bit f.known 18 → get_or f.values 18 0 < 2 ^ 64 → r ≡ value_of f (reg 13 n)
  gs_known n {s} e z b k = rw z (e ∙ chosen s _ ∙ base_told 1 (lit< tt) b refl k)

  pub base_untold : (n : ℕ) → (n ≡ 0 → ⊥) → (n ≡ 1 → ⊥) → None ≡ value_of f (reg 13 n)
  unfolding value_of part_of is_logged
  base_untold n p q = rw (le-ltb n 2 (omega (arith, p, q))) (sym no_part)

  -- what is found of a register in parts is what the file answers of it
  pub told :
      (x : RegSpec) {k v : ℕ} {t s : Bool}
      → k ≡ told_slot x → v ≡ told_part x (get_or f.values k 0) → t ≡ is_told x → s ≡ bit f.known k → get_or f.values k 0 < 2 ^ 64
      → cond (t && s) (Some v) None ≡ value_of f x
  unfolding value_of part_of is_logged
  told x p q r u h = rw (q, r, u, p) (sym (by x.bank x.number (rw p at h)))
    where
      by : (b n : ℕ) → get_or f.values (told_slot (reg b n)) 0 < 2 ^ 64
          → part_value f (cond (ltb n (get_or logged_numbers b 0)) (get_or (bank_parts n) b nowhere) nowhere)
          ≡ cond (is_told (reg b n) && bit f.known (told_slot (reg b n))) (Some (told_part (reg b n) (get_or f.values (told_slot (reg b n)) 0))) None
      by b n h = within (ltb b 14) refl
        where
          within : (t : Bool) → ltb b 14 ≡ t → part_value f (cond (ltb n (get_or logged_numbers b 0)) (get_or (bank_parts n) b nowhere) nowhere) ≡ cond (is_told (reg b n) && bit f.known (told_slot (reg b n))) (Some (told_part (reg b n) (get_or f.values (told_slot (reg b n)) 0))) None
          within true e = tells b (ltb-true b 14 e) n h
          within false e = tells_none b (ltb-false b 14 e) n h

  pub told_known :
      (x : RegSpec) {k v : ℕ} {t s : Bool} {r : Value}
      → r ≡ then_some (t && s) v → k ≡ told_slot x → v ≡ told_part x (get_or f.values k 0) → t ≡ is_told x → s ≡ bit f.known k
      → get_or f.values k 0 < 2 ^ 64 → r ≡ value_of f x
  told_known x {k} {v} {t} {s} e p q m u h = e ∙ chosen (t && s) v ∙ told x p q m u h
