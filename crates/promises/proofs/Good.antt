-- Every event of the log of a record that is not refused is one that the reader takes. Assumes nothing.
use Rattle.std.specs.Prelude.{Some, None}
use Prim.Native.Nat.{ℕ, zero, suc, ◌^◌, ◌/◌, ◌%◌, ◌<◌, ◌≤◌}
use native.Mathlib.Omega.{arith}
use native.Mathlib.Nat.{mod-lt}
use borrow.Author.Tests.{ltb-true, ltb-false, eqb-true, eqb-false, le-leb, lt-ltb, not-true, not-false}
use mathlib.Core.Path.{◌≡◌, refl, sym, ◌∙◌}
use mathlib.Core.List.{List, [], ◌∷◌, ◌++◌, map}
use mathlib.Core.Bool.{Bool, true, false, not, cond, ◌&&◌, ◌||◌}
use lib.ListN.{get_or}
use Rattle.registers.proofs.Segments.{logged_but}
use lib.Dec.{eqb, ltb, lit<, eqb-suc-zero}
use Rattle.laws.specs.Words.{bit}
use Rattle.laws.specs.Tests.{any, is_in}
use Rattle.laws.specs.Lists.{each, flat}
use Rattle.std.proofs.lemmas.Bool.{and_parts, or_parts}
use Rattle.laws.proofs.Every.{Every, every_append, every_take, every_at, every_cond, every_unless, every_if, every_weaken, any_false, every_map, every_each, at}
use Rattle.access.specs.Accesses.{reading, writing}
use Rattle.registers.specs.Banks.{reg, logged_numbers, fs, gs, is_register, is_logged}
use Rattle.registers.specs.Files.{after, value_of}
use Rattle.registers.specs.declared.RegSpec.{RegSpec}
use Rattle.registers.specs.declared.RegisterFile.{RegisterFile}
use Rattle.registers.specs.Values.{Value}
use Rattle.digest.specs.Digests.{flags_access}
use Rattle.implicit.specs.Lists.{implicits, implicit_of}
use Rattle.implicit.specs.declared.Way.{Way}
use Rattle.implicit.specs.declared.Way.TheVariants.{Read, Write}
use Rattle.implicit.specs.declared.ImplicitOperand.{ImplicitOperand}
use Rattle.implicit.specs.declared.ImplicitOperand.TheVariants as implied
use Rattle.implicit.specs.declared.Entry.{Entry}
use Rattle.implicit.specs.declared.Entry.TheVariants as entries
use Rattle.record.specs.Records.{outside, spec_at, reg_at}
use Rattle.record.specs.declared.Record.{Record}
use Rattle.definition.specs.Tables.{shapes, shape_of, string_specs}
use Rattle.definition.specs.Behaviors.{fixed_up, Operand, operand_at, operands_of, is_memory}
use Rattle.definition.specs.Addresses.{term_registers, registers_of, term_of, low_if, place_of, address_of, base_of, index_of, operand_address, segment_register, segment_registers, based_on, based_of, segment_of}
use Rattle.definition.specs.Steps.{Step, reads, writes, touches, register_step, mask_registers, mask_for, mask_steps, is_lea, fourth_of, widened, read_part, write_part, operand_steps, shape_base, slot_registers, implicit_step, entry_steps, rflags, flag_steps, steps_of}
use Rattle.definition.specs.Logs.{memory_event, step_events, events_of}
use Rattle.definition.specs.Refusals.{accessed, unnamed, nameless, sizeless}
use Rattle.definition.specs.Readings.{is_event, is_size}
use Rattle.definition.specs.declared.Address.{Address}
use Rattle.definition.specs.declared.Base.{Base}
use Rattle.definition.specs.declared.Base.TheVariants.{NoBase, Based, Named, Destination}
use Rattle.definition.specs.declared.Displacement.{Displacement}
use Rattle.definition.specs.declared.Shape.{Shape}
use Rattle.definition.specs.declared.Shape.TheVariants.{Nothing, Register, Fourth, Immediate, Memory}
use Rattle.definition.specs.declared.Event.{Event}
use Rattle.definition.specs.declared.Event.TheVariants.{RegisterRead}
use Rattle.promises.specs.Calls.{Addressable}

abbrev pub GoodEvent : Event → Type 0
GoodEvent e = (is_event e ≡ true) × Addressable e

abbrev Good : RegSpec → Type 0
Good y = is_logged y.bank y.number ≡ true

abbrev GoodStep : Step → Type 0
GoodStep (reads y) = Good y
GoodStep (writes y) = Good y
GoodStep (touches w s a m n) = Every Good (segment_registers s) × Every Good (registers_of a) × Every Good (mask_registers m) × (is_size n ≡ true)

-- what a record may name a log may name
may_log : (b n : ℕ) → is_register b n ≡ true → is_logged b n ≡ true
unfolding is_register is_logged
may_log b n h = by (eqb b 13) refl
  where
    by : (t : Bool) → eqb b 13 ≡ t → ltb n (get_or logged_numbers b 0) ≡ true
    by true e = absurd (omega (arith, ltb-true n 0 (rw (eqb-true b 13 e) at h)))
    by false e = rw (logged_but b (eqb-false b 13 e)) h

-- Steps and events: an address is below two to the 64
abbrev Small : Value → Type 0
Small (Some v) = v < 2 ^ 64
Small None = Unit {0}

after_small : (v : Value) (k : ℕ → Value) → ((n : ℕ) → Small (k n)) → Small (after v k)
after_small (Some v) k h = h v
after_small None k h = tt

low_small : (c : Bool) (n : ℕ) → n < 2 ^ 64 → low_if c n < 2 ^ 64
low_small true n h = omega arith
low_small false n h = h

address_small : (f : RegisterFile) (a : Address) → Small (address_of f a)
unfolding address_of place_of
address_small f a = after_small (term_of f a.base) _ (λ u. after_small (term_of f a.index) _ (λ v. low_small a.cut _ (mod-lt _ (lit< tt))))

based_small : (f : RegisterFile) (s : ℕ) (v : Value) → Small v → Small (based_of f s v)
unfolding based_of
based_small f s v h = by (eqb s 0)
  where
    by : (t : Bool) → Small (cond t v (based_on (value_of f (segment_register s)) v))
    by true = h
    by false = after_small (value_of f (segment_register s)) _ (λ u. after_small v _ (λ a. mod-lt _ (lit< tt)))

memory_good : (w : Way) (v : Value) (n : ℕ) → Small v → is_size n ≡ true → GoodEvent (memory_event w v n)
unfolding is_event memory_event
memory_good Read (Some a) n h s = (s, h)
memory_good Read None n h s = (s, tt)
memory_good Write (Some a) n h s = (s, h)
memory_good Write None n h s = (s, tt)

reads_good : (ys : List RegSpec) → Every Good ys → Every GoodEvent (map RegisterRead ys)
unfolding is_event
reads_good [] p = tt
reads_good (y ∷ ys) p = ((p.0, tt), reads_good ys p.1)

step_good : (f : RegisterFile) (s : Step) → GoodStep s → Every GoodEvent (step_events f s)
unfolding step_events is_event flat
step_good f (reads y) g = ((g, tt), tt)
step_good f (writes y) g = ((g, tt), tt)
step_good f (touches w s a m n) g =
    every_append GoodEvent (map RegisterRead (segment_registers s)) _ (reads_good (segment_registers s) g.0)
    (every_append GoodEvent (map RegisterRead (registers_of a)) _ (reads_good (registers_of a) g.1)
    (every_append GoodEvent (map RegisterRead (mask_registers m)) _ (reads_good (mask_registers m) g.2)
    (memory_good w (based_of f s (address_of f a)) n (based_small f s (address_of f a) (address_small f a)) g.3, tt)))

-- Tables: the shapes and lists name good registers, and only the lists of refusal 6 touch memory
abbrev register_test : RegSpec → Bool
register_test y = is_logged y.bank y.number

abbrev base_test : Base → Bool
base_test NoBase = true
base_test Based = true
base_test (Named y) = register_test y
base_test (Destination y) = register_test y

abbrev shape_test : Shape → Bool
shape_test Nothing = true
shape_test (Register i m) = true
shape_test Fourth = true
shape_test Immediate = true
shape_test (Memory b i d m) = base_test b

abbrev memory_lists : List ℕ
memory_lists = 15 ∷ 16 ∷ 26 ∷ 27 ∷ 28 ∷ []

abbrev operand_test : ℕ → ImplicitOperand → Bool
operand_test l (implied.Register y) = register_test y
operand_test l (implied.MemDeref y) = register_test y && is_in l memory_lists
operand_test l (implied.Disp y n) = register_test y && is_in l memory_lists
operand_test l (implied.MemBaseIndexScale y z n) = (register_test y && register_test z) && is_in l memory_lists

abbrev entry_test : ℕ → Entry → Bool
entry_test l (entries.Operand o w) = operand_test l o
entry_test l (entries.Slot i w) = true

list_good : (l : ℕ) → any (λ (e : Entry). not (entry_test l e)) (implicit_of l) ≡ false
unfolding implicit_of any is_logged is_in
list_good l = not-true _ (at (λ k es. not (any (λ (e : Entry). not (entry_test k e)) es)) implicits [] refl (λ k. refl) l)

shape_good : (s : ℕ) → shape_test (shape_of s) ≡ true
unfolding shape_of is_logged
shape_good s = at (λ k. shape_test) shapes Nothing refl (λ k. refl) s

shape_base_lem : (s : Shape) → shape_test s ≡ true → base_test (shape_base s) ≡ true
unfolding shape_base
shape_base_lem Nothing t = refl
shape_base_lem (Register i m) t = refl
shape_base_lem Fourth t = refl
shape_base_lem Immediate t = refl
shape_base_lem (Memory b i d m) t = t

some_access : (a k : ℕ) → 0 / 2 ^ k % 2 ≡ 0 → bit a k ≡ true → eqb a 0 ≡ false
unfolding bit
some_access zero k z h = let e : ◌≡◌ {A = ℕ} 0 1 = sym z ∙ eqb-true (0 / 2 ^ k % 2) 1 h in let f : ⊥ = omega arith in absurd f
some_access (suc a) k z h = eqb-suc-zero a

-- what refusal 2 leaves of a record: its registers, its mask, its size. Fix-ups change none of them.
pub record Sound (x : Record) : Type 0 where
  registers : Every Good x.regs
  mask : x.mask ≤ 7
  size : x.size ≤ 64

sound : (x : Record) → outside x ≡ false → Sound x
unfolding outside
sound x inside =
    let tests = any_false (λ t. t) _ inside in
    record {
      registers = goods x.regs (any_false _ x.regs tests.1.1.0);
      mask = ltb-false 7 x.mask tests.1.1.1.1.1.0;
      size = ltb-false 64 x.size tests.1.1.1.0;
    }
  where
    goods : (ys : List RegSpec) → Every (λ y. not (is_register y.bank y.number) ≡ false) ys → Every Good ys
    goods [] p = tt
    goods (y ∷ ys) p = (may_log y.bank y.number (not-false _ p.0), goods ys p.1)

pub fixed_sound : (x : Record) → outside x ≡ false → Sound (fixed_up x)
unfolding fixed_up
fixed_sound x inside = let s = sound x inside in record { registers = s.registers; mask = s.mask; size = s.size }

module _ (x : Record) (s : Sound x) where
  reg_good : (i : ℕ) → Good (reg_at x i)
  unfolding is_logged
  reg_good i = every_at Good x.regs (reg 0 0) s.registers refl i

  mask_good : (k : ℕ) → k ≤ 7 → Every Good (mask_registers k)
  unfolding mask_registers is_logged
  mask_good k h = every_unless Good (eqb k 0) (reg 8 k ∷ []) (λ e. (lt-ltb k 8 (omega arith), tt))

  segment_good : (n : ℕ) → Every Good (segment_registers n)
  unfolding segment_registers segment_register is_logged
  segment_good n = every_unless Good (eqb n 0) (segment_register n ∷ []) (λ e. (by (eqb n 1), tt))
    where
      by : (t : Bool) → Good (cond t fs gs)
      by true = refl
      by false = refl

  mask_for_lem : (m : Bool) → mask_for x m ≤ 7
  mask_for_lem true = s.mask
  mask_for_lem false = omega arith

  size_good : eqb x.size 0 ≡ false → is_size x.size ≡ true
  size_good h = rw (le-leb 1 x.size (omega (arith, eqb-false x.size 0 h)), le-leb x.size 64 s.size)

  base_good : (b : Base) → base_test b ≡ true → Every Good (term_registers (base_of x b))
  unfolding base_of term_registers
  base_good NoBase h = tt
  base_good Based h = (reg_good 1, tt)
  base_good (Named y) h = (h, tt)
  base_good (Destination y) h = (h, tt)

  index_good : (i : Bool) → Every Good (term_registers (index_of x i))
  unfolding index_of term_registers
  index_good false = tt
  index_good true = (reg_good 2, tt)

  address_good : (b : Base) (i : Bool) (d : Displacement) → base_test b ≡ true → Every Good (registers_of (operand_address x b i d))
  unfolding registers_of operand_address
  address_good b i d h = every_append Good (term_registers (base_of x b)) (term_registers (index_of x i)) (base_good b h) (index_good i)

  all_read : (ys : List RegSpec) → Every Good ys → Every GoodStep (map reads ys)
  all_read ys p = every_map GoodStep reads ys p

  mask_steps_lem : (m : Bool) → Every GoodStep (mask_steps (mask_for x m))
  mask_steps_lem m = all_read (mask_registers (mask_for x m)) (mask_good (mask_for x m) (mask_for_lem m))

  widened_good : (y : RegSpec) → Good y → Good (widened y)
  unfolding widened is_logged
  widened_good y g = go (eqb y.bank 1) refl
    where
      go : (t : Bool) → eqb y.bank 1 ≡ t → Good (cond t (reg 0 y.number) y)
      go true e = rw (eqb-true y.bank 1 e) at g
      go false e = g

  -- an operand's parts, where refusal 5 does not hold of it and refusal 6 leaves a size
  abbrev PartGood : (Shape → List Step) → Type 0
  PartGood part = (h : Shape) → shape_test h ≡ true → unnamed x h ≡ false → (is_memory h ≡ true → is_size x.size ≡ true) → Every GoodStep (part h)

  read_good : PartGood (read_part x)
  unfolding read_part unnamed is_memory
  read_good Nothing t n z = tt
  read_good (Register i m) t n z = (reg_good i, mask_steps_lem m)
  read_good Fourth t n z = (may_log _ _ (not-false _ n), tt)
  read_good Immediate t n z = tt
  read_good (Memory b i d m) t n z =
      every_if GoodStep (is_lea x) (map reads (registers_of (operand_address x b i d)) ++ mask_steps (mask_for x m)) _
      (every_append GoodStep (map reads (registers_of (operand_address x b i d))) _ (all_read (registers_of (operand_address x b i d)) (address_good b i d t)) (mask_steps_lem m))
      ((segment_good (segment_of x b), address_good b i d t, mask_good (mask_for x m) (mask_for_lem m), z refl), tt)

  write_good : PartGood (write_part x)
  unfolding write_part unnamed is_memory
  write_good Nothing t n z = tt
  write_good (Register i false) t n z = (widened_good (reg_at x i) (reg_good i), tt)
  write_good (Register i true) t n z = every_append GoodStep (mask_steps x.mask) _ (mask_steps_lem true) (reg_good i, tt)
  write_good Fourth t n z = (widened_good (fourth_of x) (may_log _ _ (not-false _ n)), tt)
  write_good Immediate t n z = tt
  write_good (Memory b i d m) t n z = ((segment_good (segment_of x b), address_good b i d t, mask_good (mask_for x m) (mask_for_lem m), z refl), tt)

  module _ (named : nameless x ≡ false) (sized : sizeless x ≡ false) where
    -- where size is 0, refusal 6 says that no memory is touched
    none_sized : eqb x.size 0 ≡ true → (accessed is_memory x || is_in x.digest.extra memory_lists) ≡ false
    unfolding sizeless
    none_sized e = rw e at sized

    operand_sized :
        (a : ℕ) (h : Shape)
        → eqb a 0 ≡ false → (eqb x.size 0 ≡ true → (not (eqb a 0) && is_memory h) ≡ false) → is_memory h ≡ true → is_size x.size ≡ true
    operand_sized a h n k m = go (eqb x.size 0) refl
      where
        go : (t : Bool) → eqb x.size 0 ≡ t → is_size x.size ≡ true
        go true e = cc (rw (n, m) at (k e))
        go false e = size_good e

    operand_good :
        (o : Operand)
        → shape_test o.shape ≡ true
        → (not (eqb o.access 0) && unnamed x o.shape) ≡ false
        → (eqb x.size 0 ≡ true → (not (eqb o.access 0) && is_memory o.shape) ≡ false)
        → Every GoodStep (operand_steps x o)
    unfolding operand_steps flat
    operand_good o t n z =
        every_append GoodStep (cond (reading o.access) (read_part x o.shape) []) _
        (every_cond GoodStep (reading o.access) (read_part x o.shape) (λ e. part (read_part x) read_good (some_access o.access 0 refl e)))
        (every_append GoodStep (cond (writing o.access) (write_part x o.shape) []) []
        (every_cond GoodStep (writing o.access) (write_part x o.shape) (λ e. part (write_part x) write_good (some_access o.access 1 refl e)))
        tt)
      where
        part : (p : Shape → List Step) → PartGood p → eqb o.access 0 ≡ false → Every GoodStep (p o.shape)
        part p g h = g o.shape t (rw h at n) (operand_sized o.access o.shape h z)

    operands_good :
        (os : List Operand)
        → Every (λ o. shape_test o.shape ≡ true) os
        → Every (λ o. (not (eqb o.access 0) && unnamed x o.shape) ≡ false) os
        → (eqb x.size 0 ≡ true → Every (λ o. (not (eqb o.access 0) && is_memory o.shape) ≡ false) os)
        → Every GoodStep (each (operand_steps x) os)
    unfolding each
    operands_good [] t n z = tt
    operands_good (o ∷ os) t n z =
        every_append GoodStep (operand_steps x o) (each (operand_steps x) os)
        (operand_good o t.0 n.0 (λ e. (z e).0))
        (operands_good os t.1 n.1 (λ e. (z e).1))

    all_operands_good : Every GoodStep (each (operand_steps x) (operands_of x))
    unfolding operands_of nameless accessed
    all_operands_good =
        operands_good (operands_of x)
        (every_take (λ o. shape_test o.shape ≡ true) x.count (operand_at x 0 ∷ operand_at x 1 ∷ operand_at x 2 ∷ operand_at x 3 ∷ [])
        (shape_good (spec_at x 0), (shape_good (spec_at x 1), (shape_good (spec_at x 2), (shape_good (spec_at x 3), tt)))))
        (any_false _ (operands_of x) (any_false (λ t. t) _ named).0)
        (λ e. any_false _ (operands_of x) ((or_parts _ (is_in x.digest.extra memory_lists) (none_sized e)).0))

    list_sized : is_in x.digest.extra memory_lists ≡ true → is_size x.size ≡ true
    list_sized h = go (eqb x.size 0) refl
      where
        go : (t : Bool) → eqb x.size 0 ≡ t → is_size x.size ≡ true
        go true e = cc ((or_parts (accessed is_memory x) (is_in x.digest.extra memory_lists) (none_sized e)).1)
        go false e = size_good e

    register_step_good : (w : Way) (y : RegSpec) → Good y → GoodStep (register_step w y)
    register_step_good Read y g = g
    register_step_good Write y g = g

    implied_good : (w : Way) (o : ImplicitOperand) → operand_test x.digest.extra o ≡ true → GoodStep (implicit_step x.size w o)
    unfolding implicit_step segment_registers registers_of term_registers mask_registers
    implied_good w (implied.Register y) h = register_step_good w y h
    implied_good w (implied.MemDeref y) h = (tt, ((and_parts (register_test y) _ h).0, tt), tt, list_sized ((and_parts (register_test y) _ h).1))
    implied_good w (implied.Disp y n) h = (tt, ((and_parts (register_test y) _ h).0, tt), tt, list_sized ((and_parts (register_test y) _ h).1))
    implied_good w (implied.MemBaseIndexScale y z n) h =
        let both = (and_parts (register_test y && register_test z) (is_in x.digest.extra memory_lists) h).0 in (
          tt,
          ((and_parts (register_test y) (register_test z) both).0, ((and_parts (register_test y) (register_test z) both).1, tt)),
          tt,
          list_sized ((and_parts (register_test y && register_test z) (is_in x.digest.extra memory_lists) h).1),
        )

    slot_good : (i : ℕ) → Every Good (slot_registers x i)
    unfolding slot_registers
    slot_good i =
        every_cond Good (is_in (spec_at x i) string_specs) (term_registers (base_of x (shape_base (shape_of (spec_at x i)))))
        (λ e. base_good (shape_base (shape_of (spec_at x i))) (shape_base_lem (shape_of (spec_at x i)) (shape_good (spec_at x i))))

    entry_good : (e : Entry) → entry_test x.digest.extra e ≡ true → Every GoodStep (entry_steps x e)
    unfolding entry_steps
    entry_good (entries.Operand o w) h = (implied_good w o h, tt)
    entry_good (entries.Slot i w) h = every_map GoodStep (register_step w) (slot_registers x i) (every_weaken Good _ (register_step_good w) (slot_registers x i) (slot_good i))

    flags_good : (a : ℕ) → Every GoodStep (flag_steps a)
    unfolding flag_steps is_logged flat
    flags_good a =
        every_append GoodStep (cond (reading a) (reads rflags ∷ []) []) _
        (every_cond GoodStep (reading a) (reads rflags ∷ []) (λ e. (refl, tt)))
        (every_append GoodStep (cond (writing a) (writes rflags ∷ []) []) []
        (every_cond GoodStep (writing a) (writes rflags ∷ []) (λ e. (refl, tt)))
        tt)

    steps_good : Every GoodStep (steps_of x)
    unfolding steps_of flat
    steps_good =
        every_append GoodStep (each (entry_steps x) (implicit_of x.digest.extra)) _
        (every_each _ GoodStep (entry_steps x) (λ e h. entry_good e (not-false _ h)) (implicit_of x.digest.extra) (any_false _ (implicit_of x.digest.extra) (list_good x.digest.extra)))
        (every_append GoodStep (flag_steps (flags_access x.digest)) _ (flags_good (flags_access x.digest))
        (every_append GoodStep (each (operand_steps x) (operands_of x)) [] all_operands_good tt))

    -- every event of the log is one that the reader takes
    pub events_good : (f : RegisterFile) → Every GoodEvent (events_of f (steps_of x))
    events_good f = every_each GoodStep GoodEvent (step_events f) (step_good f) (steps_of x) steps_good
