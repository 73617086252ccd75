-- No log needs over most_events events or most_bytes bytes: one bound over what a register event and a memory event cost. It holds for every
-- record, refused or not, and every file. Assumes nothing.
use Rattle.std.specs.Prelude.{Some, None}
use Prim.Native.Nat.{ℕ, ◌+◌, ◌*◌, ◌≤◌, zero-le}
use native.Mathlib.Omega.{arith}
use native.Mathlib.Nat.{le_refl}
use mathlib.Core.Path.{◌≡◌, refl}
use mathlib.Core.List.{List, [], ◌∷◌}
use mathlib.Core.Bool.{Bool, true, false, cond}
use lib.ListN.{length}
use lib.Dec.{T, eqb}
use Rattle.laws.specs.Words.{little}
use Rattle.laws.specs.Tests.{is_in}
use Rattle.laws.specs.Lists.{each, flat}
use Rattle.laws.specs.Lending.{size}
use Rattle.access.specs.Accesses.{reading, writing}
use Rattle.registers.specs.declared.RegSpec.{RegSpec}
use Rattle.registers.specs.declared.RegisterFile.{RegisterFile}
use Rattle.registers.specs.Values.{Value}
use Rattle.digest.specs.Digests.{flags_access}
use Rattle.implicit.specs.Lists.{implicits, implicit_of}
use Rattle.implicit.specs.declared.Way.{Way}
use Rattle.implicit.specs.declared.Way.TheVariants.{Read, Write}
use Rattle.implicit.specs.declared.ImplicitOperand.{ImplicitOperand}
use Rattle.implicit.specs.declared.ImplicitOperand.TheVariants as implied
use Rattle.implicit.specs.declared.Entry.{Entry}
use Rattle.implicit.specs.declared.Entry.TheVariants as entries
use Rattle.record.specs.Records.{spec_at}
use Rattle.record.specs.declared.Record.{Record}
use Rattle.definition.specs.Limits.{most_events, most_bytes}
use Rattle.definition.specs.Tables.{shape_of, string_specs}
use Rattle.definition.specs.Behaviors.{Operand, operand_at, operands_of}
use Rattle.definition.specs.Addresses.{term_registers, registers_of, address_of, base_of, operand_address, segment_registers, based_of, segment_of}
use Rattle.definition.specs.Steps.{Step, reads, writes, touches, register_step, mask_registers, mask_for, is_lea, rflags, read_part, write_part, operand_steps, shape_base, slot_registers, implicit_step, entry_steps, flag_steps, steps_of}
use Rattle.definition.specs.Logs.{memory_event, step_events, events_of, event_bytes, bytes_of, step_bytes}
use Rattle.definition.specs.declared.Address.{Address}
use Rattle.definition.specs.declared.Term.{Term}
use Rattle.definition.specs.declared.Term.TheVariants.{Absent, Plain, Scaled}
use Rattle.definition.specs.declared.Shape.{Shape}
use Rattle.definition.specs.declared.Shape.TheVariants.{Nothing, Register, Fourth, Immediate, Memory}
use Rattle.definition.specs.declared.Event.{Event}
use Rattle.definition.specs.declared.Event.TheVariants.{RegisterRead, RegisterWrite, MemoryRead, MemoryWrite, UnknownRead, UnknownWrite}
use Rattle.definition.proofs.Weights.{cond_le, weigh, weigh_append, weigh_cond, weigh_le, weigh_take, weigh_map, weigh_each, length_each, light, light_at}
use Rattle.definition.proofs.Events.{steps_bytes}

-- what an event, a step and an entry of a list cost, where a register event costs n and a memory event m
abbrev event_cost : ℕ → ℕ → Event → ℕ
event_cost n m (RegisterRead y) = n
event_cost n m (RegisterWrite y) = n
event_cost n m (MemoryRead a s) = m
event_cost n m (MemoryWrite a s) = m
event_cost n m (UnknownRead s) = m
event_cost n m (UnknownWrite s) = m

abbrev step_cost : ℕ → ℕ → Step → ℕ
step_cost n m (reads y) = n
step_cost n m (writes y) = n
step_cost n m (touches w g a k s) = weigh (λ y. n) (segment_registers g) + (weigh (λ y. n) (registers_of a) + (weigh (λ y. n) (mask_registers k) + m))

abbrev operand_cost : ℕ → ℕ → ImplicitOperand → ℕ
operand_cost n m (implied.Register y) = n
operand_cost n m (implied.MemDeref y) = n + m
operand_cost n m (implied.Disp y k) = n + m
operand_cost n m (implied.MemBaseIndexScale y z k) = n + n + m

abbrev entry_cost : ℕ → ℕ → Entry → ℕ
entry_cost n m (entries.Operand o w) = operand_cost n m o
entry_cost n m (entries.Slot i w) = n

module _ (n m : ℕ) where
  memory_cost : (w : Way) (v : Value) (s : ℕ) → event_cost n m (memory_event w v s) ≡ m
  unfolding memory_event
  memory_cost Read (Some a) s = refl
  memory_cost Read None s = refl
  memory_cost Write (Some a) s = refl
  memory_cost Write None s = refl

  step_cost_lem : (f : RegisterFile) (s : Step) → weigh (event_cost n m) (step_events f s) ≤ step_cost n m s
  unfolding step_events flat
  step_cost_lem f (reads y) = omega arith
  step_cost_lem f (writes y) = omega arith
  step_cost_lem f (touches w g a k s) = simp (weigh_append, weigh_map, memory_cost w (based_of f g (address_of f a)) s) (omega arith)

  mask_cost : (k : ℕ) → weigh (λ y. n) (mask_registers k) ≤ n
  unfolding mask_registers
  mask_cost k = simp weigh_cond (cond_le (eqb k 0) zero-le (omega arith))

  segment_cost : (g : ℕ) → weigh (λ y. n) (segment_registers g) ≤ n
  unfolding segment_registers
  segment_cost g = simp weigh_cond (cond_le (eqb g 0) zero-le (omega arith))

  term_cost : (t : Term) → weigh (λ y. n) (term_registers t) ≤ n
  unfolding term_registers
  term_cost Absent = zero-le
  term_cost (Plain y) = omega arith
  term_cost (Scaled y k) = omega arith

  address_cost : (a : Address) → weigh (λ y. n) (registers_of a) ≤ n + n
  unfolding registers_of
  address_cost a =
      omega (arith, weigh_append (λ y. n) (term_registers a.base) (term_registers a.index), term_cost a.base, term_cost a.index)

  read_cost : (x : Record) (s : Shape) → weigh (step_cost n m) (read_part x s) ≤ 4 * n + m
  unfolding read_part
  read_cost x Nothing = zero-le
  read_cost x (Register i k) = simp weigh_map (omega (arith, mask_cost (mask_for x k)))
  read_cost x Fourth = omega arith
  read_cost x Immediate = zero-le
  read_cost x (Memory b i d k) =
      simp (weigh_cond, weigh_append, weigh_map)
      (cond_le (is_lea x)
      (omega (arith, address_cost (operand_address x b i d), mask_cost (mask_for x k)))
      (omega (arith, segment_cost (segment_of x b), address_cost (operand_address x b i d), mask_cost (mask_for x k))))

  write_cost : (x : Record) (s : Shape) → weigh (step_cost n m) (write_part x s) ≤ 4 * n + m
  unfolding write_part
  write_cost x Nothing = zero-le
  write_cost x (Register i false) = omega arith
  write_cost x (Register i true) = simp (weigh_append, weigh_map) (omega (arith, mask_cost x.mask))
  write_cost x Fourth = omega arith
  write_cost x Immediate = zero-le
  write_cost x (Memory b i d k) = omega (arith, segment_cost (segment_of x b), address_cost (operand_address x b i d), mask_cost (mask_for x k))

  operand_cost_lem : (x : Record) (o : Operand) → weigh (step_cost n m) (operand_steps x o) ≤ 2 * (4 * n + m)
  unfolding operand_steps flat
  operand_cost_lem x o =
      simp (weigh_append, weigh_cond)
      (omega (
        arith,
        cond_le (reading o.access) (read_cost x o.shape) zero-le,
        cond_le (writing o.access) (write_cost x o.shape) zero-le,
      ))

  operands_cost : (x : Record) → weigh (step_cost n m) (each (operand_steps x) (operands_of x)) ≤ 8 * (4 * n + m)
  unfolding operands_of
  operands_cost x =
      omega (
        arith,
        weigh_each (step_cost n m) (λ o. 2 * (4 * n + m)) (operand_steps x) (operand_cost_lem x) (operands_of x),
        weigh_take (λ (o : Operand). 2 * (4 * n + m)) x.count (operand_at x 0 ∷ operand_at x 1 ∷ operand_at x 2 ∷ operand_at x 3 ∷ []),
      )

  one_cost : (t : Bool) (s : Step) → step_cost n m s ≤ n → weigh (step_cost n m) (cond t (s ∷ []) []) ≤ n
  one_cost true s h = omega arith
  one_cost false s h = zero-le

  flags_cost : (a : ℕ) → weigh (step_cost n m) (flag_steps a) ≤ 2 * n
  unfolding flag_steps flat
  flags_cost a =
      simp weigh_append
      (omega (arith, one_cost (reading a) (reads rflags) (le_refl n), one_cost (writing a) (writes rflags) (le_refl n)))

  slot_cost : (x : Record) (i : ℕ) → weigh (λ y. n) (slot_registers x i) ≤ n
  unfolding slot_registers
  slot_cost x i =
      simp weigh_cond (cond_le (is_in (spec_at x i) string_specs) (term_cost (base_of x (shape_base (shape_of (spec_at x i))))) zero-le)

  register_step_cost : (w : Way) (y : RegSpec) → step_cost n m (register_step w y) ≡ n
  register_step_cost Read y = refl
  register_step_cost Write y = refl

  implied_cost : (size : ℕ) (w : Way) (o : ImplicitOperand) → step_cost n m (implicit_step size w o) ≤ operand_cost n m o
  unfolding implicit_step segment_registers registers_of term_registers mask_registers
  implied_cost size w (implied.Register y) = simp register_step_cost (le_refl n)
  implied_cost size w (implied.MemDeref y) = omega arith
  implied_cost size w (implied.Disp y k) = omega arith
  implied_cost size w (implied.MemBaseIndexScale y z k) = omega arith

  entry_cost_lem : (x : Record) (e : Entry) → weigh (step_cost n m) (entry_steps x e) ≤ entry_cost n m e
  unfolding entry_steps
  entry_cost_lem x (entries.Operand o w) = omega (arith, implied_cost x.size w o)
  entry_cost_lem x (entries.Slot i w) = simp (weigh_map, register_step_cost) (slot_cost x i)

  -- where no implicit list costs over k, which antt computes
  lists_cost : (k : ℕ) → T (light (entry_cost n m) k implicits) → (l : ℕ) → weigh (entry_cost n m) (implicit_of l) ≤ k
  unfolding implicit_of
  lists_cost k t l = light_at (entry_cost n m) k implicits t l

  steps_cost : (k : ℕ) → T (light (entry_cost n m) k implicits) → (x : Record) → weigh (step_cost n m) (steps_of x) ≤ k + 2 * n + 8 * (4 * n + m)
  unfolding steps_of flat
  steps_cost k t x =
      simp weigh_append
      (omega (
        arith,
        weigh_each (step_cost n m) (entry_cost n m) (entry_steps x) (entry_cost_lem x) (implicit_of x.digest.extra),
        lists_cost k t x.digest.extra,
        flags_cost (flags_access x.digest),
        operands_cost x,
      ))

  events_cost : (k : ℕ) → T (light (entry_cost n m) k implicits) → (f : RegisterFile) (x : Record) → weigh (event_cost n m) (events_of f (steps_of x)) ≤ k + 2 * n + 8 * (4 * n + m)
  events_cost k t f x =
      omega (arith, steps_cost k t x, weigh_each (event_cost n m) (step_cost n m) (step_events f) (step_cost_lem f) (steps_of x))

event_length : (e : Event) → length (event_bytes e) ≤ event_cost 3 10 e
unfolding event_bytes little
event_length (RegisterRead y) = omega arith
event_length (RegisterWrite y) = omega arith
event_length (MemoryRead a n) = omega arith
event_length (MemoryWrite a n) = omega arith
event_length (UnknownRead n) = omega arith
event_length (UnknownWrite n) = omega arith

one_event : (e : Event) → 1 ≤ event_cost 1 1 e
one_event (RegisterRead y) = omega arith
one_event (RegisterWrite y) = omega arith
one_event (MemoryRead a n) = omega arith
one_event (MemoryWrite a n) = omega arith
one_event (UnknownRead n) = omega arith
one_event (UnknownWrite n) = omega arith

length_weigh : (es : List Event) → length es ≡ weigh (λ e. 1) es
length_weigh [] = refl
length_weigh (e ∷ es) = omega (arith, length_weigh es)

-- 19 bytes of a list, 6 of flags, 22 of each part of four operands
pub log_bytes_lem : (f : RegisterFile) (x : Record) → length (bytes_of (events_of f (steps_of x))) ≤ most_bytes
log_bytes_lem f x =
    omega (
      arith,
      length_each event_bytes (events_of f (steps_of x)),
      weigh_le event_length (events_of f (steps_of x)),
      events_cost 3 10 19 tt f x,
    )

-- the same, as the room that the steps of a log need
pub steps_fit : (f : RegisterFile) (x : Record) → size (step_bytes f) (steps_of x) ≤ most_bytes
unfolding size
steps_fit f x = rw (steps_bytes f (steps_of x)) (log_bytes_lem f x)

-- 4 events of a list, 2 of flags, 5 of each part of four operands
pub log_events_lem : (f : RegisterFile) (x : Record) → length (events_of f (steps_of x)) ≤ most_events
log_events_lem f x = omega (arith, length_weigh (events_of f (steps_of x)), weigh_le one_event (events_of f (steps_of x)), events_cost 1 1 4 tt f x)
