-- What a writer wrote the reader reads: an event's bytes with anything behind them, and the bytes of many. Assumes nothing.
use Prim.Native.Nat.{ℕ, ◌+◌, ◌^◌, ◌<◌, ◌≤◌}
use native.Mathlib.Omega.{arith}
use borrow.Author.Tests.{le-ltb}
use mathlib.Core.Path.{◌≡◌, refl, ap}
use mathlib.Core.List.{List, [], ◌∷◌, ◌++◌}
use mathlib.Core.Bool.{true, false}
use lib.ListN.{length}
use lib.Seq.{drop-append_seam}
use lib.Dec.{eqb}
use Rattle.laws.specs.Words.{little}
use Rattle.laws.specs.Lists.{each}
use Rattle.laws.proofs.Every.{Every}
use Rattle.laws.proofs.Numbers.{number_round}
use Rattle.definition.specs.Logs.{event_bytes, bytes_of}
use Rattle.definition.specs.Readings.{body_of, front_event, is_event, read_front, Reads, end, next}
use Rattle.definition.specs.declared.Event.{Event}
use Rattle.definition.specs.declared.Event.TheVariants.{RegisterRead, RegisterWrite, MemoryRead, MemoryWrite, UnknownRead, UnknownWrite}
use Rattle.definition.specs.declared.Reading.TheVariants.{Found}

front_found :
    (k : ℕ) (l : List ℕ) (e : Event)
    → eqb (body_of k) 0 ≡ false → body_of k ≤ length l → front_event (k ∷ l) ≡ e → is_event e ≡ true
    → read_front (k ∷ l) ≡ Found e (1 + body_of k)
unfolding read_front
front_found k l e b h p g = rw (b, le-ltb (length l) (body_of k) h, p, g)

-- Good is whatever says that a log can hold an event: that its contents are in order, and its address a number of 8 bytes
module _
    (Good : Event → Type 0) (ordered : (e : Event) → Good e → is_event e ≡ true)
    (loaded : (a n : ℕ) → Good (MemoryRead a n) → a < 2 ^ 64) (stored : (a n : ℕ) → Good (MemoryWrite a n) → a < 2 ^ 64)
  where
    pub round_trip : (e : Event) (l : List ℕ) → Good e → read_front (event_bytes e ++ l) ≡ Found e (length (event_bytes e))
    unfolding body_of front_event event_bytes little
    round_trip (RegisterRead y) l g = front_found 1 (y.bank ∷ y.number ∷ l) (RegisterRead y) refl (omega arith) refl (ordered _ g)
    round_trip (RegisterWrite y) l g = front_found 2 (y.bank ∷ y.number ∷ l) (RegisterWrite y) refl (omega arith) refl (ordered _ g)
    round_trip (MemoryRead a n) l g =
        front_found 3 (little 8 a ++ (n ∷ l)) (MemoryRead a n) refl (omega arith)
        (ap (λ (v : ℕ). MemoryRead v n) (number_round (3 ∷ []) 8 a (n ∷ l) (loaded a n g)))
        (ordered _ g)
    round_trip (MemoryWrite a n) l g =
        front_found 4 (little 8 a ++ (n ∷ l)) (MemoryWrite a n) refl (omega arith)
        (ap (λ (v : ℕ). MemoryWrite v n) (number_round (4 ∷ []) 8 a (n ∷ l) (stored a n g)))
        (ordered _ g)
    round_trip (UnknownRead n) l g = front_found 5 (n ∷ l) (UnknownRead n) refl (omega arith) refl (ordered _ g)
    round_trip (UnknownWrite n) l g = front_found 6 (n ∷ l) (UnknownWrite n) refl (omega arith) refl (ordered _ g)

    pub log_round_trip : (es : List Event) → Every Good es → Reads (bytes_of es) es
    unfolding each
    log_round_trip [] g = end
    log_round_trip (e ∷ es) g =
        next {es = es} (length (event_bytes e)) (round_trip e (bytes_of es) g.0)
        (rw (drop-append_seam (event_bytes e) (bytes_of es)) (log_round_trip es g.1))
