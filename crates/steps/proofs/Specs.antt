-- A part of an operand, by its spec: the steps of the definition under a file are the events that the writers write from what the
-- file says of the record's registers. Assumes nothing.
use Rattle.std.specs.Prelude.{Some}
use Prim.Native.Nat.{ℕ, ◌%◌, ◌^◌, ◌≤◌, zero-le}
use mathlib.Core.Path.{◌≡◌, refl, sym, ap, ◌∙◌}
use mathlib.Core.Bool.{Bool, true, false, cond}
use mathlib.Core.List.{List, [], ◌∷◌, ◌++◌, map, append-nil}
use lib.Dec.{eqb, ltb}
use lib.ListN.{get_or-eq_default}
use borrow.Author.Tests.{ltb-true, ltb-false, le-ltb}
use Rattle.laws.specs.Lists.{each, flat}
use Rattle.laws.proofs.Lists.{each_append}
use Rattle.laws.proofs.Span.{all, span}
use Rattle.registers.specs.declared.RegSpec.{RegSpec}
use Rattle.registers.specs.declared.RegisterFile.{RegisterFile}
use Rattle.registers.specs.Files.{value_of}
use Rattle.registers.specs.Values.{Value}
use Rattle.implicit.specs.Lists.{rdi, rsi, edi, esi}
use Rattle.implicit.specs.declared.Way.{Way}
use Rattle.implicit.specs.declared.Way.TheVariants.{Read, Write}
use Rattle.record.specs.Records.{reg_at}
use Rattle.record.specs.declared.Record.{Record}
use Rattle.definition.specs.Tables.{shapes, shape_of}
use Rattle.definition.specs.Addresses.{signed32, term_registers, registers_of, uncut, address_of, base_of, index_of, offset_of, operand_address, segment_register, segment_registers, based_on, based_of, segment_of}
use Rattle.definition.specs.Steps.{Step, reads, writes, touches, mask_registers, mask_steps, mask_for, is_lea, fourth_of, read_part, write_part}
use Rattle.definition.specs.Logs.{step_events, events_of, memory_event}
use Rattle.definition.specs.declared.Address.{Address}
use Rattle.definition.specs.declared.Base.{Base}
use Rattle.definition.specs.declared.Base.TheVariants.{NoBase, Based, Named, Destination}
use Rattle.definition.specs.declared.Displacement.{Displacement}
use Rattle.definition.specs.declared.Displacement.TheVariants.{NoDisp, Disp32, DispU64, DispU32}
use Rattle.definition.specs.declared.Shape.{Shape}
use Rattle.definition.specs.declared.Shape.TheVariants.{Nothing, Register, Fourth, Immediate, Memory}
use Rattle.definition.specs.declared.Event.{Event}
use Rattle.definition.specs.declared.Event.TheVariants.{RegisterRead}
use Rattle.definition.proofs.CutLast.{cut_last}
use Rattle.address.specs.Places.{sum_of, sources_of}
use Rattle.address.proofs.Sums.{at_register, at_disp, at_index, at_index_disp, at_both, at_both_disp, at_number, low_rdi, low_rsi, unmoved}
use Rattle.event.specs.Moves.{moved}
use Rattle.moves.specs.Touches.{stops, plain_events, masked_events, access_events, deref_events, indexed_events}
use Rattle.steps.specs.Parts.{parts, part_events, part_segment, added_by, based_events}
use Rattle.operand.specs.Bases.{takes_base}
use Rattle.moves.proofs.Registers.{events_moved}

unfoldable pub part_steps : Way → Record → Shape → List Step
part_steps Read x s = read_part x s
part_steps Write x s = write_part x s

module _ (f : RegisterFile) (x : Record) where
  plain : (w : Way) (k : ℕ) → events_of f (part_steps w x (Register k false)) ≡ plain_events w (reg_at x k)
  unfolding part_steps read_part write_part plain_events mask_registers each step_events
  plain Read k = refl
  plain Write k = refl

  fourth : (w : Way) → events_of f (part_steps w x Fourth) ≡ plain_events w (fourth_of x)
  unfolding part_steps read_part write_part plain_events each step_events
  fourth Read = refl
  fourth Write = refl

  masked : (w : Way) (k : ℕ) → events_of f (part_steps w x (Register k true)) ≡ masked_events w (reg_at x k) x.mask
  unfolding part_steps read_part write_part masked_events each step_events flat
  masked Read k = rw (events_moved f Read (mask_registers x.mask), append-nil (moved Read (mask_registers x.mask)))
  masked Write k =
      each_append (step_events f) (mask_steps x.mask) (writes (reg_at x k) ∷ []) ∙ rw (events_moved f Read (mask_registers x.mask))

  nothing : (w : Way) → events_of f (part_steps w x Nothing) ≡ []
  unfolding part_steps read_part write_part each
  nothing Read = refl
  nothing Write = refl

  immediate : (w : Way) → events_of f (part_steps w x Immediate) ≡ []
  unfolding part_steps read_part write_part each
  immediate Read = refl
  immediate Write = refl

  -- a part that touches no memory asks for no base
  alone : (w : Way) (es : List Event) → es ≡ flat (moved Read (segment_registers (cond (stops x w) 0 0)) ∷ es ∷ [])
  unfolding flat moved segment_registers
  alone w es = by (stops x w)
    where
      by : (t : Bool) → es ≡ flat (moved Read (segment_registers (cond t 0 0)) ∷ es ∷ [])
      by true = sym (append-nil es)
      by false = sym (append-nil es)

  -- the base of the record's segment, and what a segment adds to an address
  abbrev base : Value
  base = value_of f (segment_register x.segment)

  abbrev Adds : ℕ → Type 0
  Adds s = (a : Address) → based_of f s (address_of f a) ≡ sum_of (added_by s base) (address_of f a)

  own : Adds x.segment
  unfolding based_of
  own a = by (eqb x.segment 0)
    where
      by : (t : Bool) → cond t (address_of f a) (based_on base (address_of f a)) ≡ sum_of (cond t (Some 0) base) (address_of f a)
      by true = unmoved f a
      by false = refl

  none : Adds 0
  unfolding based_of
  none a = unmoved f a

  -- memory: the registers of the address, the mask, the access
  abbrev memory_events : Way → List RegSpec → ℕ → Value → Value → List Event
  memory_events w ys m v g = flat (moved Read ys ∷ moved Read (mask_registers m) ∷ access_events x w v g ∷ [])

  stopped :
      (ys ms : List RegSpec) → events_of f (map reads ys ++ map reads ms) ≡ flat (moved Read ys ∷ moved Read ms ∷ [] ∷ [])
  unfolding flat
  stopped ys ms =
      each_append (step_events f) (map reads ys) (map reads ms)
      ∙ rw (events_moved f Read ys, events_moved f Read ms, append-nil (moved Read ms))

  touched :
      (w : Way) (s : ℕ) (a : Address) (m n : ℕ)
      → events_of f (touches w s a m n ∷ [])
      ≡ flat (moved Read (segment_registers s) ∷ flat (moved Read (registers_of a) ∷ moved Read (mask_registers m) ∷ (memory_event w (based_of f s (address_of f a)) n ∷ []) ∷ []) ∷ [])
  unfolding each step_events flat moved
  touched w s a m n =
      let rest = flat (moved Read (registers_of a) ∷ moved Read (mask_registers m) ∷ (memory_event w (based_of f s (address_of f a)) n ∷ []) ∷ []) in
      append-nil (moved Read (segment_registers s) ++ rest) ∙ ap (λ (l : List Event). moved Read (segment_registers s) ++ l) (sym (append-nil rest))

  unbased : {es : List Event} (ds : List Event) → es ≡ ds → es ≡ flat (moved Read (segment_registers 0) ∷ ds ∷ [])
  unfolding flat moved segment_registers
  unbased ds e = e ∙ sym (append-nil ds)

  memory :
      (w : Way) (b : Base) (i : Bool) (d : Displacement) (m : Bool) {s : ℕ} {ys : List RegSpec} {v : Value}
      → segment_of x b ≡ s → Adds s → registers_of (operand_address x b i d) ≡ ys → address_of f (uncut (operand_address x b i d)) ≡ v
      → events_of f (part_steps w x (Memory b i d m))
      ≡ flat (moved Read (segment_registers (cond (stops x w) 0 s)) ∷ memory_events w ys (mask_for x m) v (added_by (cond (stops x w) 0 s) base) ∷ [])
  unfolding part_steps read_part write_part access_events
  memory Read b i d m {s} e h p q = rw (e, ← p, ← q, ← cut_last f x b i d) (by (is_lea x))
    where
      a : Address
      a = operand_address x b i d

      by : (t : Bool)
          → events_of f (cond t (map reads (registers_of a) ++ map reads (mask_registers (mask_for x m))) (touches Read s a (mask_for x m) x.size ∷ []))
          ≡ flat (
          moved Read (segment_registers (cond t 0 s))
          ∷ flat (moved Read (registers_of a) ∷ moved Read (mask_registers (mask_for x m)) ∷ cond t [] (memory_event Read (sum_of (added_by (cond t 0 s) base) (address_of f a)) x.size ∷ []) ∷ [])
          ∷ []
          )
      by true = unbased _ (stopped (registers_of a) (mask_registers (mask_for x m)))
      by false = rw (← h a) (touched Read s a (mask_for x m) x.size)
  memory Write b i d m {s} e h p q =
      rw (e, ← p, ← q, ← cut_last f x b i d, ← h (operand_address x b i d)) (touched Write s (operand_address x b i d) (mask_for x m) x.size)

  -- in the pieces in which they are written
  one_register : (w : Way) (y : RegSpec) (m : ℕ) (v g : Value) → memory_events w (y ∷ []) m v g ≡ deref_events x w y m v g
  unfolding deref_events moved
  one_register w y m v g = refl

  two_registers : (w : Way) (m : ℕ) (v g : Value) → memory_events w (reg_at x 1 ∷ reg_at x 2 ∷ []) m v g ≡ indexed_events x w m v g
  unfolding indexed_events deref_events moved flat
  two_registers w m v g =
      ap (λ (l : List Event). RegisterRead (reg_at x 1) ∷ RegisterRead (reg_at x 2) ∷ l) (sym (append-nil (moved Read (mask_registers m) ++ (access_events x w v g ++ []))))

  no_register : (w : Way) (v g : Value) → memory_events w [] 0 v g ≡ access_events x w v g
  unfolding moved flat mask_registers
  no_register w v g = append-nil (access_events x w v g)

  -- the segment of a part of memory, and the base before its events
  abbrev before : Way → ℕ → List Event → List Event
  before w s es = flat (moved Read (segment_registers (cond (stops x w) 0 s)) ∷ es ∷ [])

  abbrev added : Way → ℕ → Value
  added w s = added_by (cond (stops x w) 0 s) base

  deref :
      (w : Way) (b : Base) (i : Bool) (d : Displacement) (m : Bool) {s : ℕ} (y : RegSpec) (v : Value)
      → segment_of x b ≡ s → Adds s → registers_of (operand_address x b i d) ≡ y ∷ [] → address_of f (uncut (operand_address x b i d)) ≡ v
      → events_of f (part_steps w x (Memory b i d m)) ≡ before w s (deref_events x w y (mask_for x m) v (added w s))
  deref w b i d m {s} y v e h p q = memory w b i d m e h p q ∙ ap (before w s) (one_register w y (mask_for x m) v (added w s))

  indexed :
      (w : Way) (d : Displacement) (m : Bool) (v : Value) → address_of f (uncut (operand_address x Based true d)) ≡ v
      → events_of f (part_steps w x (Memory Based true d m)) ≡ before w x.segment (indexed_events x w (mask_for x m) v (added w x.segment))
  unfolding registers_of operand_address base_of index_of term_registers segment_of
  indexed w d m v q = memory w Based true d m refl own refl q ∙ ap (before w x.segment) (two_registers w (mask_for x m) v (added w x.segment))

  absolute :
      (w : Way) (d : Displacement) (v : Value) → address_of f (uncut (operand_address x NoBase false d)) ≡ v
      → events_of f (part_steps w x (Memory NoBase false d false)) ≡ before w x.segment (access_events x w v (added w x.segment))
  unfolding registers_of operand_address base_of index_of term_registers segment_of
  absolute w d v q = memory w NoBase false d false refl own refl q ∙ ap (before w x.segment) (no_register w v (added w x.segment))

  abbrev Part : Way → ℕ → Type 0
  Part w s = events_of f (part_steps w x (shape_of s)) ≡ based_events x w (sources_of f x) s

  each_part : (w : Way) → all (Part w) 0 36
  unfolding shape_of based_events part_segment takes_base part_events sources_of segment_of registers_of operand_address base_of index_of offset_of term_registers
  each_part w = (
    nothing w ∙ alone w _,
    (
      plain w 0 ∙ alone w _,
      (
        plain w 1 ∙ alone w _,
        (
          plain w 3 ∙ alone w _,
          (
            fourth w ∙ alone w _,
            (
              masked w 0 ∙ alone w _,
              (
                masked w 0 ∙ alone w _,
                (
                  masked w 0 ∙ alone w _,
                  (
                    masked w 1 ∙ alone w _,
                    (
                      masked w 1 ∙ alone w _,
                      (
                        masked w 3 ∙ alone w _,
                        (
                          immediate w ∙ alone w _,
                          (
                            immediate w ∙ alone w _,
                            (
                              immediate w ∙ alone w _,
                              (
                                immediate w ∙ alone w _,
                                (
                                  immediate w ∙ alone w _,
                                  (
                                    immediate w ∙ alone w _,
                                    (
                                      immediate w ∙ alone w _,
                                      (
                                        deref w Based false NoDisp false y _ refl own refl (at_register f y),
                                        (
                                          deref w Based false NoDisp true y _ refl own refl (at_register f y),
                                          (
                                            deref w (Destination rdi) false NoDisp false rdi _ refl none refl (at_register f rdi),
                                            (
                                              deref w (Named rsi) false NoDisp false rsi _ refl own refl (at_register f rsi),
                                              (
                                                deref w (Destination edi) false NoDisp false edi _ refl none refl (at_register f edi ∙ low_rdi f),
                                                (
                                                  deref w (Named esi) false NoDisp false esi _ refl own refl (at_register f esi ∙ low_rsi f),
                                                  (
                                                    deref w Based false Disp32 false y _ refl own refl (at_disp f y n),
                                                    (
                                                      deref w Based false Disp32 true y _ refl own refl (at_disp f y n),
                                                      (
                                                        deref w NoBase true NoDisp false z _ refl own refl (at_index f z k),
                                                        (
                                                          deref w NoBase true NoDisp true z _ refl own refl (at_index f z k),
                                                          (
                                                            deref w NoBase true Disp32 false z _ refl own refl (at_index_disp f z k n),
                                                            (
                                                              deref w NoBase true Disp32 true z _ refl own refl (at_index_disp f z k n),
                                                              (
                                                                indexed w NoDisp false _ (at_both f y z k),
                                                                (
                                                                  indexed w NoDisp true _ (at_both f y z k),
                                                                  (
                                                                    indexed w Disp32 false _ (at_both_disp f y z k n),
                                                                    (
                                                                      indexed w Disp32 true _ (at_both_disp f y z k n),
                                                                      (
                                                                        absolute w DispU64 _ (at_number f x.disp),
                                                                        (
                                                                          absolute w DispU32 _ (at_number f (x.disp % 2 ^ 32)),
                                                                          tt,
                                                                        ),
                                                                      ),
                                                                    ),
                                                                  ),
                                                                ),
                                                              ),
                                                            ),
                                                          ),
                                                        ),
                                                      ),
                                                    ),
                                                  ),
                                                ),
                                              ),
                                            ),
                                          ),
                                        ),
                                      ),
                                    ),
                                  ),
                                ),
                              ),
                            ),
                          ),
                        ),
                      ),
                    ),
                  ),
                ),
              ),
            ),
          ),
        ),
      ),
    ),
  )
    where
      y : RegSpec
      y = reg_at x 1

      z : RegSpec
      z = reg_at x 2

      k : ℕ
      k = x.scale

      n : ℕ
      n = signed32 x.disp

  past_last : (w : Way) (s : ℕ) → 36 ≤ s → events_of f (part_steps w x (shape_of s)) ≡ based_events x w (sources_of f x) s
  unfolding shape_of based_events part_segment takes_base part_events
  past_last w s h =
      rw (get_or-eq_default shapes Nothing {n = s} h, get_or-eq_default (parts x w (sources_of f x) _) [] {n = s} h, le-ltb s 36 h) (nothing w ∙ alone w [])

  pub part_is : (w : Way) (s : ℕ) → events_of f (part_steps w x (shape_of s)) ≡ based_events x w (sources_of f x) s
  part_is w s = by (ltb s 36) refl
    where
      by : (t : Bool) → ltb s 36 ≡ t → events_of f (part_steps w x (shape_of s)) ≡ based_events x w (sources_of f x) s
      by true e = span (Part w) 0 36 (each_part w) s zero-le (ltb-true s 36 e)
      by false e = past_last w s (ltb-false s 36 e)
