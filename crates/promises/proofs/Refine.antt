-- Demand 3 over lists of steps: a file that knows more gives events that refine, and files that agree on the registers read give
-- the same events. Assumes nothing.
use Rattle.std.specs.Prelude.{Some, None}
use Prim.Native.Nat.{ℕ}
use mathlib.Core.Path.{◌≡◌, refl, ap₂}
use mathlib.Core.Bool.{Bool, true, false, cond}
use mathlib.Core.List.Memᴰ
use mathlib.Core.List.{List, [], ◌∷◌, ◌++◌, map, Memᴰ}
use lib.Dec.{eqb}
use Rattle.laws.specs.Lists.{each, flat}
use Rattle.registers.specs.Files.{part_of, slot_of, after, part_value, value_of}
use Rattle.registers.specs.declared.RegSpec.{RegSpec}
use Rattle.registers.specs.declared.RegisterFile.{RegisterFile}
use Rattle.registers.specs.Values.{Value}
use Rattle.implicit.specs.declared.Way.{Way}
use Rattle.implicit.specs.declared.Way.TheVariants.{Read, Write}
use Rattle.definition.specs.Addresses.{term_registers, registers_of, term_of, address_of, segment_register, segment_registers, based_on, based_of}
use Rattle.definition.specs.Steps.{mask_registers, Step, reads, writes, touches}
use Rattle.definition.specs.Logs.{memory_event, step_events, events_of}
use Rattle.definition.specs.declared.Address.{Address}
use Rattle.definition.specs.declared.Term.{Term}
use Rattle.definition.specs.declared.Term.TheVariants.{Absent, Plain, Scaled}
use Rattle.definition.specs.declared.Event.{Event}
use Rattle.definition.specs.declared.Event.TheVariants.{RegisterRead}
use Rattle.promises.specs.Refinement.{Gives, Extends, Refines, same, found_read, found_write, RefinesAll, none, one, AgreeOn}

gives_refl : (v : Value) → Gives v v
gives_refl (Some v) = refl
gives_refl None = tt

gives_after : (v u : Value) (k l : ℕ → Value) → Gives v u → ((n : ℕ) → Gives (k n) (l n)) → Gives (after v k) (after u l)
gives_after (Some v) u k l e h = rw e (h v)
gives_after None u k l e h = tt

all_refl : (es : List Event) → RefinesAll es es
all_refl [] = none
all_refl (e ∷ es) = one same (all_refl es)

all_append : {a b c d : List Event} → RefinesAll a b → RefinesAll c d → RefinesAll (a ++ c) (b ++ d)
all_append none q = q
all_append (one h p) q = one h (all_append p q)

memory_refines : (w : Way) (v u : Value) (n : ℕ) → Gives v u → Refines (memory_event w v n) (memory_event w u n)
unfolding memory_event
memory_refines Read (Some a) u n e = rw e same
memory_refines Read None (Some a) n e = found_read
memory_refines Read None None n e = same
memory_refines Write (Some a) u n e = rw e same
memory_refines Write None (Some a) n e = found_write
memory_refines Write None None n e = same

-- the first half
module _ (f g : RegisterFile) (more : Extends f g) where
  value_gives : (y : RegSpec) → Gives (value_of f y) (value_of g y)
  unfolding value_of part_value
  value_gives y = gives_after (slot_of f (part_of y).slot) (slot_of g (part_of y).slot) _ _ (more (part_of y).slot) (λ n. refl)

  term_gives : (t : Term) → Gives (term_of f t) (term_of g t)
  unfolding term_of
  term_gives Absent = refl
  term_gives (Plain y) = value_gives y
  term_gives (Scaled y k) = gives_after (value_of f y) (value_of g y) _ _ (value_gives y) (λ n. refl)

  address_gives : (a : Address) → Gives (address_of f a) (address_of g a)
  unfolding address_of
  address_gives a =
      gives_after (term_of f a.base) (term_of g a.base) _ _ (term_gives a.base)
      (λ u. gives_after (term_of f a.index) (term_of g a.index) _ _ (term_gives a.index) (λ v. refl))

  based_gives : (s : ℕ) (u v : Value) → Gives u v → Gives (based_of f s u) (based_of g s v)
  unfolding based_of
  based_gives s u v h = by (eqb s 0)
    where
      y : RegSpec
      y = segment_register s

      by : (t : Bool) → Gives (cond t u (based_on (value_of f y) u)) (cond t v (based_on (value_of g y) v))
      by true = h
      by false = gives_after (value_of f y) (value_of g y) _ _ (value_gives y) (λ n. gives_after u v _ _ h (λ k. refl))

  step_refines : (s : Step) → RefinesAll (step_events f s) (step_events g s)
  unfolding step_events flat
  step_refines (reads y) = all_refl _
  step_refines (writes y) = all_refl _
  step_refines (touches w s a m n) =
      all_append (all_refl (map RegisterRead (segment_registers s)))
      (all_append (all_refl (map RegisterRead (registers_of a)))
      (all_append (all_refl (map RegisterRead (mask_registers m)))
      (one (memory_refines w _ _ n (based_gives s (address_of f a) (address_of g a) (address_gives a))) none)))

  pub steps_refine : (ss : List Step) → RefinesAll (events_of f ss) (events_of g ss)
  unfolding each
  steps_refine [] = none
  steps_refine (s ∷ ss) = all_append (step_refines s) (steps_refine ss)

-- the second half
module _ (f g : RegisterFile) where
  abbrev pub agree : List RegSpec → Type 0
  agree ys = (y : RegSpec) → Memᴰ y ys → value_of f y ≡ value_of g y

  term_agrees : (t : Term) → agree (term_registers t) → term_of f t ≡ term_of g t
  unfolding term_of term_registers
  term_agrees Absent h = refl
  term_agrees (Plain y) h = h y (Memᴰ.head refl)
  term_agrees (Scaled y k) h = rw (h y (Memᴰ.head refl))

  -- where an address lies depends on its own registers alone
  pub address_agrees : (a : Address) → agree (registers_of a) → address_of f a ≡ address_of g a
  unfolding address_of registers_of
  address_agrees a h =
      simp (
        term_agrees a.base (λ y e. h y (Memᴰ.append_left (term_registers a.index) e)),
        term_agrees a.index (λ y e. h y (Memᴰ.append_right (term_registers a.base) e)),
      )

  -- and where an access lies, on the base of its segment beside it
  pub based_agrees : (s : ℕ) (v : Value) → agree (segment_registers s) → based_of f s v ≡ based_of g s v
  unfolding based_of segment_registers
  based_agrees s v h = by (eqb s 0) h
    where
      y : RegSpec
      y = segment_register s

      by : (t : Bool) → agree (cond t [] (y ∷ [])) → cond t v (based_on (value_of f y) v) ≡ cond t v (based_on (value_of g y) v)
      by true h = refl
      by false h = rw (h y (Memᴰ.head refl))

  step_agrees : (s : Step) → AgreeOn f g (step_events f s) → step_events f s ≡ step_events g s
  unfolding step_events flat
  step_agrees (reads y) h = refl
  step_agrees (writes y) h = refl
  step_agrees (touches w s a m n) h =
      rw (
        address_agrees a (λ y e. h y (Memᴰ.append_right (map RegisterRead (segment_registers s)) (Memᴰ.append_left _ (Memᴰ.map RegisterRead e)))),
        based_agrees s (address_of g a) (λ y e. h y (Memᴰ.append_left _ (Memᴰ.map RegisterRead e))),
      )

  pub steps_agree : (ss : List Step) → AgreeOn f g (events_of f ss) → events_of f ss ≡ events_of g ss
  unfolding each
  steps_agree [] h = refl
  steps_agree (s ∷ ss) h =
      ap₂ ◌++◌ (step_agrees s (λ y e. h y (Memᴰ.append_left (events_of f ss) e))) (steps_agree ss (λ y e. h y (Memᴰ.append_right (step_events f s) e)))
