-- What two calls have in common, what a call changes, and what stands in a log.
use Rattle.std.specs.Prelude.{ℕ, ◌+◌, ◌^◌, ◌≤◌, ◌<◌, ◌≡◌, List, [], ◌∷◌, length, take, drop}
use Rattle.laws.specs.Lending.{splice}
use Rattle.definition.specs.Logs.{bytes_of}
use Rattle.definition.specs.Readings.{read_at}
use Rattle.definition.specs.declared.Answer.{Answer}
use Rattle.definition.specs.declared.Answer.TheVariants.{Done, Refused, Complex, Short}
use Rattle.definition.specs.declared.Event.{Event}
use Rattle.definition.specs.declared.Event.TheVariants.{RegisterRead, RegisterWrite, MemoryRead, MemoryWrite, UnknownRead, UnknownWrite}
use Rattle.definition.specs.declared.Reading.TheVariants.{Found}
use Rattle.promises.specs.Refinement.{RefinesAll}

-- a refusal's answer: any but Done
pub data Refusal : Answer → Type 0 where
  by_number : {k : ℕ} → Refusal (Refused k)
  by_opcode : {o : ℕ} → Refusal (Complex o)
  by_room_lem : {n : ℕ} → Refusal (Short n)

-- what a call answers over any buffer and start: with n bytes from the start on it writes n bytes; with fewer, or from a start past the
-- end, it is refused 7, says n and leaves the buffer
abbrev pub Retried : (List ℕ → ℕ → Answer × List ℕ) → ℕ → Type 0
Retried call n =
    (q : List ℕ) (t : ℕ)
    → (t + n ≤ length q → (call q t).0 ≡ Done n)
    × (length q < t + n → call q t ≡ (Short n, q))

-- what becomes of the answer of a call that has room where it has none: the bytes that it would write are those needed
abbrev pub unroomed : Answer → Answer
unroomed (Done n) = Short n
unroomed (Refused k) = Refused k
unroomed (Complex o) = Complex o
unroomed (Short n) = Short n

-- Two outcomes, each an answer and a buffer: the one over the buffer p from s, whose events are ds, the other over q from t, whose
-- events are es. Both refuse with the same answer and leave the buffers, or both write their events, and the second refine the first.
pub data Alike (one two : Answer × List ℕ) (p q : List ℕ) (s t : ℕ) (ds es : List Event) : Type 0 where
  refused : (a : Answer) → Refusal a → one ≡ (a, p) → two ≡ (a, q) → Alike one two p q s t ds es
  logged :
      one ≡ (Done (length (bytes_of ds)), splice p s (bytes_of ds))
      → two ≡ (Done (length (bytes_of es)), splice q t (bytes_of es))
      → RefinesAll ds es
      → Alike one two p q s t ds es

-- the n bytes of `new` from the start on are these, and all else is as it was in `old`
pub record Written (bytes old new : List ℕ) (start n : ℕ) : Type 0 where
  pub count : n ≡ length bytes
  pub long : length new ≡ length old
  pub before : take start new ≡ take start old
  pub inside : take n (drop start new) ≡ bytes
  pub behind : drop (start + n) new ≡ drop (start + n) old

-- the events that reading finds in a buffer from one place up to another, each reading at the place after the last
pub data ReadsFrom (l : List ℕ) : ℕ → List Event → ℕ → Type 0 where
  stop : {at : ℕ} → ReadsFrom l at [] at
  step : {at next end : ℕ} {e : Event} {es : List Event} → read_at l at ≡ Found e next → ReadsFrom l next es end → ReadsFrom l at (e ∷ es) end

-- an event whose address, where it has one, is a number of 8 bytes
abbrev pub Addressable : Event → Type 0
Addressable (RegisterRead y) = Unit {0}
Addressable (RegisterWrite y) = Unit {0}
Addressable (MemoryRead a n) = a < 2 ^ 64
Addressable (MemoryWrite a n) = a < 2 ^ 64
Addressable (UnknownRead n) = Unit {0}
Addressable (UnknownWrite n) = Unit {0}

-- what stands for a program that visits: of a record, a file, a buffer and a start it gives an answer and a buffer
abbrev pub Program : Type 0
Program = List ℕ → List ℕ → List ℕ → ℕ → Answer × List ℕ
