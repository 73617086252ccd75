-- Parts of registers: laws over the width, which 1, 2, 4 and 8 bytes cite. Assumes nothing.
use Rattle.std.specs.Prelude.{Some, None}
use Prim.Native.Nat.{ℕ, ◌+◌, ◌^◌, ◌/◌, ◌%◌, ◌<◌}
use native.Mathlib.Nat.{div-one, mod-eq_of_lt}
use mathlib.Core.Path.{◌≡◌, refl, ap}
use mathlib.Core.Bool.{Bool, true, false, cond}
use lib.Pow.{shr-shr, field, mod-mod-pow}
use Rattle.registers.specs.Files.{part, nowhere, slot_of, after, part_value}
use Rattle.registers.specs.declared.RegisterFile.{RegisterFile}
use Rattle.registers.specs.Values.{Value}

-- the part at the bottom that is as wide as the number
pub whole_part : (bits v : ℕ) → v < 2 ^ bits → v ≡ v / 2 ^ 0 % 2 ^ bits
whole_part bits v h = rw (div-one v, mod-eq_of_lt h)

-- a part of a part: its `bits` bits from `up` on
pub inner_part : (v below up bits more : ℕ) → v / 2 ^ (below + up) % 2 ^ bits ≡ v / 2 ^ below % 2 ^ (more + bits + up) / 2 ^ up % 2 ^ bits
inner_part v below up bits more = rw (field (v / 2 ^ below) (more + bits) up, shr-shr v below up, mod-mod-pow (v / 2 ^ (below + up)) more bits)

-- a register past the end of its bank is unknown
pub numbered :
    (f : RegisterFile) (t : Bool) (slot below bits : ℕ)
    → after (cond t (slot_of f slot) None) (λ v. Some (v / 2 ^ below % 2 ^ bits)) ≡ part_value f (cond t (part slot below bits) nowhere)
unfolding part_value slot_of
numbered f true slot below bits = refl
numbered f false slot below bits = refl

-- what lies nowhere is unknown
pub unplaced : (f : RegisterFile) (t : Bool) → None ≡ part_value f (cond t nowhere nowhere)
unfolding part_value slot_of
unplaced f true = refl
unplaced f false = refl

-- a part of a part, as a file answers it
pub inner :
    (f : RegisterFile) (slot below up bits more : ℕ)
    → part_value f (part slot (below + up) bits) ≡ after (part_value f (part slot below (more + bits + up))) (λ v. Some (v / 2 ^ up % 2 ^ bits))
unfolding part_value
inner f slot below up bits more = by (slot_of f slot)
  where
    by : (x : Value) → after x (λ v. Some (v / 2 ^ (below + up) % 2 ^ bits)) ≡ after (after x (λ v. Some (v / 2 ^ below % 2 ^ (more + bits + up)))) (λ v. Some (v / 2 ^ up % 2 ^ bits))
    by (Some v) = ap Some (inner_part v below up bits more)
    by None = refl
