-- The implicit lists: the steps of each under a file are the events that are written from where its memory lies. Assumes nothing.
use Prim.Native.Nat.{ℕ, ◌≤◌, zero-le}
use mathlib.Core.Path.{◌≡◌, refl, ◌∙◌}
use mathlib.Core.Bool.{Bool, true, false}
use mathlib.Core.List.{[], ◌∷◌, ◌++◌, map, append-nil}
use lib.Dec.{ltb}
use lib.ListN.{get_or-eq_default}
use borrow.Author.Tests.{ltb-true, ltb-false}
use Rattle.laws.specs.Lists.{each, flat}
use Rattle.laws.proofs.Lists.{each_append}
use Rattle.laws.proofs.Span.{all, span}
use Rattle.registers.specs.declared.RegisterFile.{RegisterFile}
use Rattle.implicit.specs.Lists.{implicits, implicit_of}
use Rattle.implicit.specs.declared.Way.TheVariants.{Read, Write}
use Rattle.implicit.specs.declared.Entry.TheVariants.{Slot}
use Rattle.record.specs.declared.Record.{Record}
use Rattle.definition.specs.Addresses.{term_registers, registers_of, segment_registers, based_of}
use Rattle.definition.specs.Steps.{register_step, mask_registers, slot_registers, implicit_step, entry_steps}
use Rattle.definition.specs.Logs.{step_events, events_of}
use Rattle.address.specs.Places.{operand_place, entry_place, list_place, implied_place}
use Rattle.event.specs.Moves.{moved}
use Rattle.implied.specs.Implied.{slot_events, slots_events, lists, list_events}
use Rattle.moves.proofs.Registers.{events_moved}

module _ (f : RegisterFile) (x : Record) where
  slot : (i : ℕ) → events_of f (each (entry_steps x) (Slot i Read ∷ Slot i Write ∷ [])) ≡ slot_events x i
  unfolding each entry_steps slot_events flat
  slot i =
      each_append (step_events f) (map (register_step Read) (slot_registers x i)) (map (register_step Write) (slot_registers x i) ++ [])
      ∙ rw (append-nil (map (register_step Write) (slot_registers x i)), events_moved f Read (slot_registers x i), events_moved f Write (slot_registers x i), append-nil (moved Write (slot_registers x i)))

  slots : events_of f (each (entry_steps x) (Slot 0 Read ∷ Slot 0 Write ∷ Slot 1 Read ∷ Slot 1 Write ∷ [])) ≡ slots_events x
  unfolding slots_events flat
  slots =
      rw (each_append (entry_steps x) (Slot 0 Read ∷ Slot 0 Write ∷ []) (Slot 1 Read ∷ Slot 1 Write ∷ []))
      (each_append (step_events f) (each (entry_steps x) (Slot 0 Read ∷ Slot 0 Write ∷ [])) (each (entry_steps x) (Slot 1 Read ∷ Slot 1 Write ∷ []))
      ∙ rw (slot 0, slot 1, append-nil (slot_events x 1)))

  abbrev Listed : ℕ → Type 0
  Listed l = events_of f (each (entry_steps x) (implicit_of l)) ≡ list_events x (implied_place f l) l

  each_list : all Listed 0 29
  unfolding implicit_of list_events implied_place list_place entry_place operand_place entry_steps implicit_step each step_events flat registers_of term_registers segment_registers based_of mask_registers
  each_list = (
    refl,
    (
      refl,
      (
        refl,
        (
          refl,
          (
            refl,
            (
              refl,
              (
                refl,
                (
                  refl,
                  (
                    refl,
                    (
                      refl,
                      (
                        refl,
                        (
                          refl,
                          (
                            refl,
                            (
                              refl,
                              (
                                refl,
                                (
                                  refl,
                                  (
                                    refl,
                                    (
                                      refl,
                                      (
                                        refl,
                                        (
                                          refl,
                                          (
                                            refl,
                                            (
                                              refl,
                                              (
                                                refl,
                                                (
                                                  refl,
                                                  (
                                                    slot 0,
                                                    (
                                                      slots,
                                                      (
                                                        refl,
                                                        (
                                                          refl,
                                                          (
                                                            refl,
                                                            tt,
                                                          ),
                                                        ),
                                                      ),
                                                    ),
                                                  ),
                                                ),
                                              ),
                                            ),
                                          ),
                                        ),
                                      ),
                                    ),
                                  ),
                                ),
                              ),
                            ),
                          ),
                        ),
                      ),
                    ),
                  ),
                ),
              ),
            ),
          ),
        ),
      ),
    ),
  )

  past_last : (l : ℕ) → 29 ≤ l → Listed l
  unfolding implicit_of list_events each
  past_last l h = rw (get_or-eq_default implicits [] {n = l} h, get_or-eq_default (lists x (implied_place f l)) [] {n = l} h)

  pub list_is : (l : ℕ) → events_of f (each (entry_steps x) (implicit_of l)) ≡ list_events x (implied_place f l) l
  list_is l = by (ltb l 29) refl
    where
      by : (t : Bool) → ltb l 29 ≡ t → Listed l
      by true e = span Listed 0 29 each_list l zero-le (ltb-true l 29 e)
      by false e = past_last l (ltb-false l 29 e)
