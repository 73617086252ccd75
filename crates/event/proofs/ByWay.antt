-- The bytes of an event by its way. Assumes nothing.
use Rattle.std.specs.Prelude.{Some, None}
use Prim.Native.Nat.{ℕ, ◌≤◌}
use mathlib.Core.Path.{◌≡◌, refl, ap, ◌∙◌}
use mathlib.Core.List.{List, [], ◌∷◌, ◌++◌}
use lib.ListN.{length, drop, set, length-set, length-take, length-drop}
use lib.Seq.{sets-eq}
use Rattle.laws.specs.Words.{little}
use Rattle.laws.proofs.Lending.{part, back}
use Rattle.registers.specs.Values.{Value}
use Rattle.event.proofs.Writing.{address_kept, known_bytes}
use Rattle.laws.specs.Lending.{size, Logged}
use Rattle.laws.proofs.OneByOne.{one_size, logged}
use Rattle.registers.specs.declared.RegSpec.{RegSpec}
use Rattle.implicit.specs.declared.Way.{Way}
use Rattle.implicit.specs.declared.Way.TheVariants.{Read, Write}
use Rattle.definition.specs.Logs.{register_bytes, memory_bytes, unknown_bytes, event_bytes, memory_event}
use Rattle.definition.specs.declared.Event.{Event}
use Rattle.event.specs.Moves.{kind_of, move_event}

move_bytes : (w : Way) (y : RegSpec) → event_bytes (move_event w y) ≡ register_bytes (kind_of w 1) y
unfolding event_bytes
move_bytes Read y = refl
move_bytes Write y = refl

known_is : (w : Way) (a n : ℕ) → event_bytes (memory_event w (Some a) n) ≡ memory_bytes (kind_of w 3) a n
unfolding event_bytes memory_event
known_is Read a n = refl
known_is Write a n = refl

unknown_is : (w : Way) (n : ℕ) → event_bytes (memory_event w None n) ≡ unknown_bytes (kind_of w 5) n
unfolding event_bytes memory_event
unknown_is Read n = refl
unknown_is Write n = refl

-- an event by its bytes: the room that it needs, and what is left once they are written
module _ (e : Event) (bs : List ℕ) (is : event_bytes e ≡ bs) where
  event_size : size event_bytes (e ∷ []) ≡ length bs
  event_size = one_size event_bytes e ∙ ap length is

  event_logged : {old new : List ℕ} {n : ℕ} → n ≡ length bs → new ≡ bs ++ drop (length bs) old → Logged event_bytes (e ∷ []) old new n
  event_logged c b = logged event_bytes e (rw is (c, b))

-- a register
module _ (w : Way) (y : RegSpec) where
  pub move_size : size event_bytes (move_event w y ∷ []) ≡ 3
  move_size = event_size (move_event w y) (register_bytes (kind_of w 1) y) (move_bytes w y)

  pub register_written :
      (k : ℕ) (old : List ℕ) → k ≡ kind_of w 1 → size event_bytes (move_event w y ∷ []) ≤ length old
      → Logged event_bytes (move_event w y ∷ []) old (set (set (set old 0 k) 1 y.bank) 2 y.number) 3
  register_written k old e h =
      event_logged (move_event w y) (register_bytes (kind_of w 1) y) (move_bytes w y) refl
      (rw e (sets-eq (register_bytes (kind_of w 1) y) old 0 (rw move_size at h)))

-- memory at a known address
module _ (w : Way) (at : Value) (a s : ℕ) (is : at ≡ Some a) where
  pub known_size : size event_bytes (memory_event w at s ∷ []) ≡ 10
  unfolding little
  known_size = rw is (event_size (memory_event w (Some a) s) (memory_bytes (kind_of w 3) a s) (known_is w a s))

  pub known_written :
      (k : ℕ) (old new : List ℕ) → k ≡ kind_of w 3 → size event_bytes (memory_event w at s ∷ []) ≤ length old
      → new ≡ little 8 a ++ drop 8 (part (set old 0 k) 1)
      → Logged event_bytes (memory_event w at s ∷ []) old (set (back (set old 0 k) 1 new) 9 s) 10
  unfolding little
  known_written k old new e h lent =
      rw is
      (event_logged (memory_event w (Some a) s) (memory_bytes (kind_of w 3) a s) (known_is w a s) refl
      (rw (known_bytes k a old (rw known_size at h) lent s, e)))

-- memory at an unknown address
module _ (w : Way) (at : Value) (s : ℕ) (is : at ≡ None) where
  pub unknown_size : size event_bytes (memory_event w at s ∷ []) ≡ 2
  unknown_size = rw is (event_size (memory_event w None s) (unknown_bytes (kind_of w 5) s) (unknown_is w s))

  pub unknown_written :
      (k : ℕ) (old : List ℕ) → k ≡ kind_of w 5 → size event_bytes (memory_event w at s ∷ []) ≤ length old
      → Logged event_bytes (memory_event w at s ∷ []) old (set (set old 0 k) 1 s) 2
  unknown_written k old e h =
      rw is
      (event_logged (memory_event w None s) (unknown_bytes (kind_of w 5) s) (unknown_is w s) refl
      (rw e (sets-eq (unknown_bytes (kind_of w 5) s) old 0 (rw unknown_size at h))))

-- the room that the stores of a writer need
pub ruleset register_room = (move_size, length-set)

pub ruleset memory_room = (known_size, unknown_size, address_kept, length-set, length-take, length-drop)
