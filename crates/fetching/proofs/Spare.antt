-- Nothing of the proposed set is spare. Assumes nothing.
use Rattle.std.specs.Prelude.{Some, None}
use Prim.Native.Nat.{ℕ, ◌^◌, ◌/◌, ◌%◌, ◌<◌}
use native.Mathlib.Omega.{arith}
use mathlib.Core.Path.{◌≡◌, refl, sym, ◌∙◌}
use mathlib.Core.List.Memᴰ
use mathlib.Core.List.{◌++◌, Memᴰ}
use mathlib.Core.Bool.{true}
use lib.ListN.{get_or}
use borrow.Author.Tests.{lt-ltb}
use Rattle.laws.specs.Words.{bit}
use Rattle.registers.specs.Files.{part_of, slot_of, after, part_value, value_of}
use Rattle.registers.specs.declared.RegSpec.{RegSpec}
use Rattle.registers.specs.declared.RegisterFile.{RegisterFile}
use Rattle.registers.specs.Values.{Value}
use Rattle.implicit.specs.declared.Way.{Way}
use Rattle.definition.specs.Addresses.{registers_of, segment_registers}
use Rattle.definition.specs.Steps.{Step, reads, writes, touches, steps_of}
use Rattle.definition.specs.Visits.{fixed_record}
use Rattle.definition.specs.declared.Address.{Address}
use Rattle.promises.proofs.Unknown.{based_to, based_from}
use Rattle.sets.proofs.Bits.{bits_are}
use Rattle.fetching.specs.Needs.{held_registers, slots_of, access_needs, step_needs, needs_of}
use Rattle.fetching.specs.Judging.{all_known}
use Rattle.fetching.specs.Promises.{NothingSpare}
use Rattle.fetching.proofs.Members.{mem_each, slot_is, needs_in}
use Rattle.fetching.proofs.Judged.{proposed_in}

known_not : (v : ℕ) → Some v ≡ None → ⊥
known_not v e = let z : ◌≡◌ {A = ℕ} 0 1 = cc in omega arith

known_bit : (k : ℕ) → k < held_registers → bit all_known.known k ≡ true
unfolding all_known
known_bit k h = bits_are (λ (j : ℕ). true) 0 held_registers k ∙ rw (lt-ltb k held_registers h)

all_known_lem : (k : ℕ) → k < held_registers → slot_of all_known k ≡ None → ⊥
unfolding slot_of
all_known_lem k h e = known_not (get_or all_known.values k 0) (sym (rw (lt-ltb k held_registers h, known_bit k h)) ∙ e)

after_known : (u : Value) (f : ℕ → ℕ) → after u (λ v. Some (f v)) ≡ None → u ≡ None
after_known (Some v) f e = absurd (known_not (f v) e)
after_known None f e = refl

value_known : (y : RegSpec) → (part_of y).slot < held_registers → value_of all_known y ≡ None → ⊥
unfolding value_of part_value
value_known y h e =
    all_known_lem (part_of y).slot h (after_known (slot_of all_known (part_of y).slot) (λ v. v / 2 ^ (part_of y).below % 2 ^ (part_of y).bits) e)

value_unknown : (f : RegisterFile) (y : RegSpec) (k : ℕ) → k ≡ (part_of y).slot → slot_of f k ≡ None → value_of f y ≡ None
unfolding value_of part_value
value_unknown f y k e h = let z : slot_of f (part_of y).slot ≡ None = rw (← e) h in rw z

-- a step needs a register that is of its address, or the base of its segment
abbrev Entering : ℕ → Step → Type 0
Entering k s =
    (w : Way) × (g : ℕ) × (a : Address) × (m : ℕ) × (n : ℕ)
    × (s ≡ touches w g a m n) × ((y : RegSpec) × Memᴰ y (segment_registers g ++ registers_of a) × (k ≡ (part_of y).slot))

enters : (k : ℕ) (s : Step) → Memᴰ k (step_needs s) → Entering k s
unfolding step_needs access_needs
enters k (reads y) m = absurd (Memᴰ.not-nil m)
enters k (writes y) m = absurd (Memᴰ.not-nil m)
enters k (touches w g a x n) m =
    let r = mem_each slots_of (segment_registers g ++ registers_of a) k m in (w, g, a, x, n, refl, (r.0, r.1, (slot_is r.0 k r.2).1))

pub nothing_spare : NothingSpare
nothing_spare bs k e =
    let r = mem_each needs_of bs k (proposed_in bs k e) in
    let z = needs_in r.0 k r.2 in
    let t = mem_each step_needs (steps_of (fixed_record r.0)) k z.1 in
    let h = enters k t.0 t.2 in (
      r.0,
      h.0,
      h.1,
      h.2,
      h.3,
      h.4,
      r.1,
      z.0,
      Memᴰ.cast (sym h.5) t.1,
      λ f u. based_from f h.1 h.2 (h.6.0, h.6.1, value_unknown f h.6.0 k h.6.2 u),
      λ held u. let q = based_to all_known h.1 h.2 u in value_known q.0 (held q.0 q.1) q.2,
    )
