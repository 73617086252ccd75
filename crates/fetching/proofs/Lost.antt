-- Nothing is lost under a file that answers the registers of an accepted set as before. Assumes nothing.
use Rattle.std.specs.Prelude.{Some, None}
use Prim.Native.Nat.{ℕ, ◌≤◌}
use native.Mathlib.Nat.{zero-add}
use mathlib.Core.Path.{◌≡◌, refl, sym, ap₂, ◌∙◌}
use mathlib.Core.List.Memᴰ
use mathlib.Core.List.{List, [], ◌∷◌, ◌++◌, Memᴰ}
use mathlib.Core.Bool.{Bool, true, false, cond, ◌&&◌}
use lib.ListN.{get_or}
use lib.Dec.{ltb, eqb}
use borrow.Author.Tests.{le-ltb, ltb-false, eqb-true, eqb-false, ne_eqb}
use Rattle.laws.specs.Words.{bit}
use Rattle.laws.specs.Lists.{each, flat}
use Rattle.registers.specs.Files.{file_of, part_of, slot_of, part_value, value_of}
use Rattle.registers.specs.declared.RegSpec.{RegSpec}
use Rattle.registers.specs.declared.RegisterFile.{RegisterFile}
use Rattle.definition.specs.Addresses.{registers_of, address_of, segment_registers}
use Rattle.definition.specs.Steps.{Step, reads, writes, touches, steps_of}
use Rattle.definition.specs.Logs.{step_events, events_of}
use Rattle.definition.specs.Visits.{fixed_record, log_of, refusal_of, outcome, visit_by, visit_under}
use Rattle.definition.specs.declared.Address.{Address}
use Rattle.promises.proofs.Refine.{address_agrees, based_agrees}
use Rattle.sets.proofs.Bits.{bits_are}
use Rattle.fetching.specs.Needs.{held_registers, slots_of, access_needs, step_needs, refusal_alone, needs_of}
use Rattle.fetching.specs.Judging.{restricted}
use Rattle.fetching.specs.Promises.{place_under, AlikeOn, RestrictedIs, NothingLost, RestrictedSuffices, CallsLoseNothing}
use Rattle.fetching.proofs.Members.{each_mem}
use Rattle.fetching.proofs.Alone.{never_7, refused_anyhow}
use Rattle.fetching.proofs.Judged.{judge_is_right}

-- no file answers a slot behind its registers
pub slot_behind : (f : RegisterFile) (k : ℕ) → held_registers ≤ k → slot_of f k ≡ None
unfolding slot_of
slot_behind f k h = rw (le-ltb k held_registers h)

-- two files that answer the registers of a set alike
module _ (v : ℕ) (f g : RegisterFile) (alike : AlikeOn v f g) where
  -- all of these numbers are in the set
  abbrev Has : List ℕ → Type 0
  Has ks = (k : ℕ) → Memᴰ k ks → bit v k ≡ true

  value_alike : (y : RegSpec) → Has (slots_of y) → value_of f y ≡ value_of g y
  unfolding value_of part_value slots_of
  value_alike y h = go (ltb (part_of y).slot held_registers) refl h
    where
      go : (t : Bool) → ltb (part_of y).slot held_registers ≡ t → Has (cond t ((part_of y).slot ∷ []) []) → value_of f y ≡ value_of g y
      go true e h = rw (alike (part_of y).slot (h (part_of y).slot (Memᴰ.head refl)))
      go false e h =
          let l = ltb-false (part_of y).slot held_registers e in rw (slot_behind f (part_of y).slot l, slot_behind g (part_of y).slot l)

  place_alike : (s : ℕ) (a : Address) → Has (access_needs s a) → place_under f s a ≡ place_under g s a
  unfolding access_needs
  place_alike s a h =
      rw (
        address_agrees f g a (λ y m. alike_at y (Memᴰ.append_right (segment_registers s) m)),
        based_agrees f g s (address_of g a) (λ y m. alike_at y (Memᴰ.append_left (registers_of a) m)),
      )
    where
      alike_at : (y : RegSpec) → Memᴰ y (segment_registers s ++ registers_of a) → value_of f y ≡ value_of g y
      alike_at y m = value_alike y (λ k n. h k (each_mem slots_of (segment_registers s ++ registers_of a) y k m n))

  step_alike : (s : Step) → Has (step_needs s) → step_events f s ≡ step_events g s
  unfolding step_events flat step_needs
  step_alike (reads y) h = refl
  step_alike (writes y) h = refl
  step_alike (touches w s a m n) h = rw (place_alike s a h)

  steps_alike : (ss : List Step) → Has (each step_needs ss) → events_of f ss ≡ events_of g ss
  unfolding each
  steps_alike [] h = refl
  steps_alike (s ∷ ss) h =
      ap₂ ◌++◌ (step_alike s (λ k m. h k (Memᴰ.append_left (each step_needs ss) m)))
      (steps_alike ss (λ k m. h k (Memᴰ.append_right (step_needs s) m)))

  log_alike : (b : List ℕ) → Has (needs_of b) → refusal_alone b ≡ 0 → log_of b f ≡ log_of b g
  unfolding log_of needs_of
  log_alike b h e = steps_alike (steps_of (fixed_record b)) (λ k m. h k (rw e m))

module _ (b : List ℕ) (f g : RegisterFile) (buffer : List ℕ) (start : ℕ) where
  visit_refused : (refusal_alone b ≡ 0 → ⊥) → visit_under b f buffer start ≡ visit_under b g buffer start
  unfolding visit_by outcome
  visit_refused ne =
      rw (refused_anyhow b f buffer start ne, refused_anyhow b g buffer start ne, ne_eqb (refusal_alone b) 0 ne, ne_eqb (refusal_alone b) 7 (never_7 b))

  visit_same : log_of b f ≡ log_of b g → visit_under b f buffer start ≡ visit_under b g buffer start
  unfolding visit_by refusal_of
  visit_same e = rw e

pub nothing_lost : NothingLost
nothing_lost v bs f g e alike b m = (λ buffer start. go (eqb (refusal_alone b) 0) refl buffer start, log)
  where
    log : refusal_alone b ≡ 0 → log_of b f ≡ log_of b g
    log z = log_alike v f g alike b (λ k n. ((judge_is_right v bs).0 e).1 b m k n) z

    go : (t : Bool) → eqb (refusal_alone b) 0 ≡ t → (buffer : List ℕ) (start : ℕ) → visit_under b f buffer start ≡ visit_under b g buffer start
    go true h buffer start = visit_same b f g buffer start (log (eqb-true (refusal_alone b) 0 h))
    go false h buffer start = visit_refused b f g buffer start (eqb-false (refusal_alone b) 0 h)

-- a restricted file
module _ (v : ℕ) (f : RegisterFile) (k : ℕ) where
  abbrev keeps : ℕ → Bool
  keeps j = bit v j && bit f.known j

  known_kept : bit (restricted v f).known k ≡ (ltb k held_registers && keeps k)
  unfolding restricted
  known_kept = bits_are keeps 0 held_registers k ∙ rw (zero-add k)

  values_kept : (restricted v f).values ≡ f.values
  unfolding restricted
  values_kept = refl

  by_tests : {A : Type 0} (s a b : Bool) (x y : A) → cond (s && (s && (a && b))) x y ≡ cond a (cond (s && b) x y) y
  by_tests true true b x y = refl
  by_tests true false b x y = refl
  by_tests false true b x y = refl
  by_tests false false b x y = refl

  slot_restricted : slot_of (restricted v f) k ≡ cond (bit v k) (slot_of f k) None
  unfolding slot_of
  slot_restricted =
      rw (known_kept, values_kept) (by_tests (ltb k held_registers) (bit v k) (bit f.known k) (Some (get_or f.values k 0)) None)

pub restricted_is : RestrictedIs
restricted_is v f k = (λ e. slot_restricted v f k ∙ rw e, λ e. slot_restricted v f k ∙ rw e)

pub restricted_suffices : RestrictedSuffices
restricted_suffices v bs f e b m buffer start =
    (nothing_lost v bs f (restricted v f) e (λ k h. sym ((restricted_is v f k).0 h)) b m).0 buffer start

pub calls_lose_nothing : CallsLoseNothing
calls_lose_nothing v bs f g good-f good-g e alike b m buffer start =
    rw (good-f, good-g) ((nothing_lost v bs (file_of f) (file_of g) e alike b m).0 buffer start)
