-- An address is unknown exactly when a register in it is. Assumes nothing.
use Rattle.std.specs.Prelude.{Some, None}
use Prim.Native.Nat.{ℕ}
use native.Mathlib.Omega.{arith}
use mathlib.Core.Path.{◌≡◌, refl, sym, ap, ◌∙◌}
use mathlib.Core.Logic.{⊎_elim, ◌⊎◌, inl, inr}
use mathlib.Core.Bool.{Bool, true, false, cond}
use lib.Dec.{eqb}
use mathlib.Core.List.Memᴰ
use mathlib.Core.List.{List, [], ◌∷◌, ◌++◌, Memᴰ}
use Rattle.registers.specs.Files.{after, value_of}
use Rattle.registers.specs.declared.RegSpec.{RegSpec}
use Rattle.registers.specs.declared.RegisterFile.{RegisterFile}
use Rattle.registers.specs.Values.{Value}
use Rattle.definition.specs.Addresses.{term_registers, registers_of, term_of, address_of, segment_register, segment_registers, based_on, based_of}
use Rattle.definition.specs.declared.Address.{Address}
use Rattle.definition.specs.declared.Term.{Term}
use Rattle.definition.specs.declared.Term.TheVariants.{Absent, Plain, Scaled}

abbrev SomeUnknown : RegisterFile → List RegSpec → Type 0
SomeUnknown f ys = (y : RegSpec) × Memᴰ y ys × (value_of f y ≡ None)

known_not : (v : ℕ) → Some v ≡ None → ⊥
known_not v e = let z : ◌≡◌ {A = ℕ} 0 1 = cc in omega arith

after_unknown : (v : Value) (k : ℕ → Value) → v ≡ None → after v k ≡ None
after_unknown v k e = rw e

-- what is unknown after a value is so by the value, or by what it gives
after_either : (v : Value) (k : ℕ → Value) → after v k ≡ None → (v ≡ None) ⊎ ((n : ℕ) × (k n ≡ None))
after_either (Some v) k e = inr (v, e)
after_either None k e = inl refl

module _ (f : RegisterFile) where
  term_to : (t : Term) → term_of f t ≡ None → SomeUnknown f (term_registers t)
  unfolding term_of term_registers
  term_to Absent e = absurd (known_not 0 e)
  term_to (Plain y) e = (y, Memᴰ.head refl, e)
  term_to (Scaled y k) e =
      ⊎_elim (λ h. (y, Memᴰ.head refl, h)) (λ h. absurd (known_not _ h.1)) (after_either (value_of f y) _ e)

  term_from : (t : Term) → SomeUnknown f (term_registers t) → term_of f t ≡ None
  unfolding term_of term_registers
  term_from Absent s = absurd (Memᴰ.not-nil s.1)
  term_from (Plain y) s = ap (value_of f) (sym (Memᴰ.eq_of_singleton s.1)) ∙ s.2
  term_from (Scaled y k) s = after_unknown (value_of f y) _ (ap (value_of f) (sym (Memᴰ.eq_of_singleton s.1)) ∙ s.2)

  second_unknown : (v : Value) (k : ℕ → Value) → ((n : ℕ) → k n ≡ None) → after v k ≡ None
  second_unknown (Some v) k h = h v
  second_unknown None k h = refl

  pub unknown_to : (a : Address) → address_of f a ≡ None → SomeUnknown f (registers_of a)
  unfolding address_of registers_of
  unknown_to a e =
      ⊎_elim
      (λ h. let s = term_to a.base h in (s.0, Memᴰ.append_left (term_registers a.index) s.1, s.2))
      (λ h. ⊎_elim
      (λ g. let s = term_to a.index g in (s.0, Memᴰ.append_right (term_registers a.base) s.1, s.2))
      (λ g. absurd (known_not _ g.1))
      (after_either (term_of f a.index) _ h.1))
      (after_either (term_of f a.base) _ e)

  pub unknown_from : (a : Address) → SomeUnknown f (registers_of a) → address_of f a ≡ None
  unfolding address_of registers_of
  unknown_from a s =
      ⊎_elim
      (λ m. after_unknown (term_of f a.base) _ (term_from a.base (s.0, m, s.2)))
      (λ m. second_unknown (term_of f a.base) _ (λ u. after_unknown (term_of f a.index) _ (term_from a.index (s.0, m, s.2))))
      (Memᴰ.append_cases (term_registers a.base) s.1)

  -- an access, by the base of its segment and its address
  based_first : (b v : Value) → based_on b v ≡ None → (b ≡ None) ⊎ (v ≡ None)
  based_first None v e = inl refl
  based_first (Some u) None e = inr refl
  based_first (Some u) (Some a) e = absurd (known_not _ e)

  pub based_to : (s : ℕ) (a : Address) → based_of f s (address_of f a) ≡ None → SomeUnknown f (segment_registers s ++ registers_of a)
  unfolding based_of segment_registers
  based_to s a e = by (eqb s 0) e
    where
      y : RegSpec
      y = segment_register s

      by : (t : Bool) → cond t (address_of f a) (based_on (value_of f y) (address_of f a)) ≡ None → SomeUnknown f (cond t [] (y ∷ []) ++ registers_of a)
      by true e = unknown_to a e
      by false e =
          ⊎_elim
          (λ h. (y, Memᴰ.head refl, h))
          (λ h. let r = unknown_to a h in (r.0, Memᴰ.append_right (y ∷ []) r.1, r.2))
          (based_first (value_of f y) (address_of f a) e)

  pub based_from : (s : ℕ) (a : Address) → SomeUnknown f (segment_registers s ++ registers_of a) → based_of f s (address_of f a) ≡ None
  unfolding based_of segment_registers
  based_from s a r = by (eqb s 0) r
    where
      y : RegSpec
      y = segment_register s

      by : (t : Bool) → SomeUnknown f (cond t [] (y ∷ []) ++ registers_of a) → cond t (address_of f a) (based_on (value_of f y) (address_of f a)) ≡ None
      by true r = unknown_from a r
      by false r =
          ⊎_elim
          (λ m. after_unknown (value_of f y) _ (ap (value_of f) (sym (Memᴰ.eq_of_singleton m)) ∙ r.2))
          (λ m. second_unknown (value_of f y) _ (λ u. after_unknown (address_of f a) _ (unknown_from a (r.0, m, r.2))))
          (Memᴰ.append_cases (y ∷ []) r.1)
