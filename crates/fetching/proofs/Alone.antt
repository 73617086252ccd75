-- A record is refused alike under every good file and in every buffer with room. Assumes nothing.
use Prim.Native.Nat.{ℕ, ◌+◌, ◌≤◌}
use native.Mathlib.Omega.{arith}
use mathlib.Core.Path.{◌≡◌, refl, sym, ap, ◌∙◌}
use mathlib.Core.List.{List, [], ◌∷◌, ◌++◌, append-nil}
use mathlib.Core.Bool.{Bool, true, false}
use lib.ListN.{length, replicate, length-replicate}
use Rattle.laws.specs.Tests.{first_of}
use Rattle.registers.specs.Files.{no_file}
use Rattle.registers.specs.declared.RegisterFile.{RegisterFile}
use Rattle.record.specs.Records.{record_tests, record_of}
use Rattle.definition.specs.Behaviors.{complex}
use Rattle.definition.specs.Limits.{most_bytes}
use Rattle.definition.specs.Logs.{bytes_of}
use Rattle.definition.specs.Refusals.{nameless, sizeless, no_room}
use Rattle.definition.specs.Visits.{fixed_record, log_of, refusal_of, visit_by}
use Rattle.definition.proofs.Outcomes.{first_front}
use Rattle.promises.proofs.Outcomes.{number_is}
use Rattle.promises.proofs.Rooms.{room_enough, visit_has_room}
use Rattle.fetching.specs.Needs.{refusal_alone}
use Rattle.fetching.specs.Promises.{RefusedAlike}

-- the table of visiting's refusals without the file and the room
abbrev pub own_tests : List ℕ → List (Bool × ℕ)
own_tests b = record_tests b ++ ((complex (fixed_record b), 4) ∷ (nameless (fixed_record b), 5) ∷ (sizeless (fixed_record b), 6) ∷ [])

-- a test that does not hold may be left out
left_out : (ts : List (Bool × ℕ)) (t : Bool) (n : ℕ) (us : List (Bool × ℕ)) → t ≡ false → first_of (ts ++ ((t, n) ∷ us)) ≡ first_of (ts ++ us)
unfolding first_of
left_out [] t n us e = rw e
left_out ((true, k) ∷ ts) t n us e = refl
left_out ((false, k) ∷ ts) t n us e = left_out ts t n us e

module _ (b : List ℕ) (f : RegisterFile) (buffer : List ℕ) (start : ℕ) where
  abbrev room : Bool
  room = no_room (length (bytes_of (log_of b f))) buffer start

  -- under a good file: the own tests, then the room
  room_last : refusal_of false b f buffer start ≡ first_of (own_tests b ++ ((room, 7) ∷ []))
  unfolding refusal_of
  room_last =
      left_out (record_tests b) false 3
      ((complex (fixed_record b), 4) ∷ (nameless (fixed_record b), 5) ∷ (sizeless (fixed_record b), 6) ∷ (room, 7) ∷ []) refl

  given_room : room ≡ false → refusal_of false b f buffer start ≡ first_of (own_tests b)
  given_room e = room_last ∙ left_out (own_tests b) room 7 [] e ∙ ap first_of (append-nil (own_tests b))

  own_refuses : (first_of (own_tests b) ≡ 0 → ⊥) → refusal_of false b f buffer start ≡ first_of (own_tests b)
  own_refuses ne = room_last ∙ first_front (own_tests b) ((room, 7) ∷ []) refl ne

-- so much the definition says
abbrev full : List ℕ
full = replicate most_bytes 0

full_room : 0 + most_bytes ≤ length full
full_room = omega (arith, length-replicate {A = ℕ} most_bytes 0)

alone : (b : List ℕ) → refusal_alone b ≡ refusal_of false b no_file full 0
unfolding refusal_alone visit_by
alone b = number_is (refusal_of false b no_file full 0) (record_of b).opcode (bytes_of (log_of b no_file)) full 0

pub alone_is : (b : List ℕ) → refusal_alone b ≡ first_of (own_tests b)
alone_is b = alone b ∙ given_room b no_file full 0 (room_enough b no_file full 0 full_room)

-- room is given
pub never_7 : (b : List ℕ) → refusal_alone b ≡ 7 → ⊥
never_7 b e = visit_has_room false b no_file full 0 full_room (sym (alone b) ∙ e)

pub refused_alike : RefusedAlike
unfolding visit_by
refused_alike b f buffer start h =
    number_is (refusal_of false b f buffer start) (record_of b).opcode (bytes_of (log_of b f)) buffer start
    ∙ given_room b f buffer start (room_enough b f buffer start h)
    ∙ sym (alone_is b)

-- whatever the room, where the record is refused
pub refused_anyhow :
    (b : List ℕ) (f : RegisterFile) (buffer : List ℕ) (start : ℕ) → (refusal_alone b ≡ 0 → ⊥) → refusal_of false b f buffer start ≡ refusal_alone b
refused_anyhow b f buffer start ne = own_refuses b f buffer start (rw (alone_is b) at ne) ∙ sym (alone_is b)
