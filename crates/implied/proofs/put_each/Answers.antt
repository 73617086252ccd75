use Rattle.std.proofs.Common.{◌≡◌, ℕ, ◌+◌, ◌^◌, ◌<◌, ◌≤◌, List, [], ◌∷◌, ◌++◌, length, get_or, take, drop, refl, append_assoc, append-nil, add-one, arith}
use Rattle.std.proofs.lemmas.List.{take-append-drop, map-append}
use Rattle.std.proofs.Math.Seq.{take-suc}
use Rattle.laws.specs.Lending.{size, Logged}
use Rattle.laws.specs.Lists.{flat}
use Rattle.laws.proofs.Lending.{Going, on, fits, silent}
use Rattle.registers.specs.declared.RegSpec.{RegSpec}
use Rattle.implicit.specs.declared.Way.{Way}
use Rattle.definition.specs.Logs.{event_bytes}
use Rattle.definition.specs.declared.Event.{Event}
use Rattle.event.specs.Moves.{moved, move_event}
use Rattle.implied.proofs.put_each.Goals as goal

module _ (w : Way) (ys : List RegSpec) (i : ℕ) (d : RegSpec) (h : i < length ys) where
  abbrev here : List Event
  here = move_event w (get_or ys i d) ∷ []

  one_more : moved w (take (i + 1) ys) ≡ moved w (take i ys) ++ here
  unfolding moved
  one_more = rw (add-one i, take-suc ys i d h) (map-append (move_event w) (take i ys) (get_or ys i d ∷ []))

  rest_is : moved w (take i ys) ++ flat (here ∷ moved w (drop (i + 1) ys) ∷ []) ≡ moved w ys
  unfolding flat moved
  rest_is =
      rw (append-nil (moved w (drop (i + 1) ys)), ← append_assoc (moved w (take i ys)) here (moved w (drop (i + 1) ys)), ← one_more, ← map-append (move_event w) (take (i + 1) ys) (drop (i + 1) ys), take-append-drop (i + 1) ys)
      refl

  room :
      {old mid : List ℕ} {n : ℕ}
      → Logged event_bytes (moved w (take i ys)) old mid n → size event_bytes (moved w ys) ≤ length old → length old < 2 ^ 64
      → Going event_bytes (moved w ys) (here ∷ moved w (drop (i + 1) ys) ∷ []) old mid n
  room l r k = record { done = moved w (take i ys); rest = rest_is; logged = l; left = r; small = k }

pub loop-y-init : goal.loop-y-init
unfolding moved
loop-y-init c = silent event_bytes c.args.log.now

pub put_register-n-requires : goal.put_register-n-requires
put_register-n-requires c =
    fits (room c.args.way c.args.registers.now c.loop-y.y-index _ (omega arith) c.loop-y.invariant c.requires c.well_formed.0.0)

pub loop-y-preserved : goal.loop-y-preserved
loop-y-preserved c =
    rw (one_more c.args.way c.args.registers.now c.loop-y.y-index (record { bank = 0; number = 0 }) (omega arith))
    (on c.loop-y.invariant c.put_register-n.ensures)
