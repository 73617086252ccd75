-- Where an address lies, by what a file says of its registers. Assumes nothing.
use Rattle.std.specs.Prelude.{Some, None}
use Rattle.std.proofs.Common.{◌≡◌, ℕ, ◌+◌, ◌*◌, ◌/◌, ◌%◌, ◌^◌, Bool, true, false, refl, ap, ◌∙◌, div-one, arith, lit≤}
use Rattle.registers.specs.Files.{after, part_of, value_of}
use Rattle.registers.specs.declared.RegSpec.{RegSpec}
use Rattle.registers.specs.declared.RegisterFile.{RegisterFile}
use Rattle.registers.specs.Values.{Value}
use Rattle.registers.proofs.Values.{Below, value_word, inside}
use Rattle.registers.specs.Banks.{is_logged}
use Rattle.implicit.specs.Lists.{rdi, rsi, edi, esi}
use Rattle.definition.specs.Addresses.{word, term_of, low_if, place_of, address_of}
use Rattle.definition.specs.declared.Address.{Address}
use Rattle.definition.specs.declared.Term.TheVariants.{Absent, Plain, Scaled}
use Rattle.address.specs.Places.{plus_of, sum_of, low_of, scaled_of}

ap_low : (v : Value) → after v (λ a. Some (a / 2 ^ 0 % 2 ^ 32)) ≡ low_of v
ap_low (Some a) = ap Some (rw (div-one a))
ap_low None = refl

module _ (f : RegisterFile) where
  pub at_register : (y : RegSpec) → address_of f (record { base = Plain y; index = Absent; offset = 0; cut = false }) ≡ value_of f y
  unfolding address_of place_of term_of
  at_register y = by (value_of f y) (value_word f y)
    where
      by : (v : Value) → Below (2 ^ 64) v → after v (λ a. Some ((a + 0 + 0) % word)) ≡ v
      by (Some a) h = ap Some (omega arith)
      by None h = refl

  pub at_disp : (y : RegSpec) (n : ℕ) → address_of f (record { base = Plain y; index = Absent; offset = n; cut = false }) ≡ plus_of (value_of f y) n
  unfolding address_of place_of term_of
  at_disp y n = by (value_of f y)
    where
      by : (v : Value) → after v (λ a. Some ((a + 0 + n) % word)) ≡ after v (λ a. Some ((a + n) % word))
      by (Some a) = ap Some (omega arith)
      by None = refl

  pub at_index : (z : RegSpec) (k : ℕ) → address_of f (record { base = Absent; index = Scaled z k; offset = 0; cut = false }) ≡ scaled_of (value_of f z) k
  unfolding address_of place_of term_of
  at_index z k = by (value_of f z)
    where
      by : (v : Value) → after (after v (λ a. Some (a * k % word))) (λ b. Some ((0 + b + 0) % word)) ≡ after v (λ a. Some (a * k % word))
      by (Some a) = ap Some (omega arith)
      by None = refl

  pub at_index_disp : (z : RegSpec) (k n : ℕ) → address_of f (record { base = Absent; index = Scaled z k; offset = n; cut = false }) ≡ plus_of (scaled_of (value_of f z) k) n
  unfolding address_of place_of term_of
  at_index_disp z k n = by (value_of f z)
    where
      by : (v : Value) → after (after v (λ a. Some (a * k % word))) (λ b. Some ((0 + b + n) % word)) ≡ plus_of (after v (λ a. Some (a * k % word))) n
      by (Some a) = ap Some (omega arith)
      by None = refl

  pub at_both : (y z : RegSpec) (k : ℕ) → address_of f (record { base = Plain y; index = Scaled z k; offset = 0; cut = false }) ≡ sum_of (value_of f y) (scaled_of (value_of f z) k)
  unfolding address_of place_of term_of
  at_both y z k = by (value_of f y) (scaled_of (value_of f z) k)
    where
      by : (u v : Value) → after u (λ a. after v (λ b. Some ((a + b + 0) % word))) ≡ sum_of u v
      by (Some a) (Some b) = ap Some (omega arith)
      by (Some a) None = refl
      by None v = refl

  pub at_both_disp : (y z : RegSpec) (k n : ℕ) → address_of f (record { base = Plain y; index = Scaled z k; offset = n; cut = false }) ≡ plus_of (sum_of (value_of f y) (scaled_of (value_of f z) k)) n
  unfolding address_of place_of term_of
  at_both_disp y z k n = by (value_of f y) (scaled_of (value_of f z) k)
    where
      by : (u v : Value) → after u (λ a. after v (λ b. Some ((a + b + n) % word))) ≡ plus_of (sum_of u v) n
      by (Some a) (Some b) = ap Some (omega arith)
      by (Some a) None = refl
      by None v = refl

  pub at_number : (n : ℕ) → address_of f (record { base = Absent; index = Absent; offset = n; cut = false }) ≡ Some ((0 + n) % word)
  unfolding address_of place_of term_of
  at_number n = ap Some (omega arith)

  -- XLAT: a scale of 1 changes nothing
  pub once : (z : RegSpec) → scaled_of (value_of f z) 1 ≡ value_of f z
  once z = by (value_of f z) (value_word f z)
    where
      by : (v : Value) → Below (2 ^ 64) v → after v (λ a. Some (a * 1 % word)) ≡ v
      by (Some a) h = ap Some (omega arith)
      by None h = refl

  -- the low half of a general register
  pub low_rdi : value_of f edi ≡ low_of (value_of f rdi)
  unfolding part_of is_logged
  low_rdi = inside f edi rdi 0 refl refl (lit≤ tt) ∙ ap_low (value_of f rdi)

  pub low_rsi : value_of f esi ≡ low_of (value_of f rsi)
  unfolding part_of is_logged
  low_rsi = inside f esi rsi 0 refl refl (lit≤ tt) ∙ ap_low (value_of f rsi)

  -- an address is a word, and a base of 0 does not move it
  pub unmoved : (a : Address) → address_of f a ≡ sum_of (Some 0) (address_of f a)
  unfolding address_of place_of
  unmoved a = by a.cut (term_of f a.base) (term_of f a.index)
    where
      by : (c : Bool) (u v : Value)
          → after u (λ m. after v (λ n. Some (low_if c ((m + n + a.offset) % word))))
          ≡ plus_of (after u (λ m. after v (λ n. Some (low_if c ((m + n + a.offset) % word))))) 0
      by true (Some m) (Some n) = ap Some (omega arith)
      by false (Some m) (Some n) = ap Some (omega arith)
      by c (Some m) None = refl
      by c None v = refl
