-- How much of a watched variable an event wrote, counted over sets of bytes.
use Rattle.std.specs.Prelude.{ℕ, zero, suc, ◌+◌, ◌%◌, Bool, cond, ◌&&◌, List, [], ◌∷◌, ◌==◌, nat_le}
use Rattle.laws.specs.Tests.{is_in}
use Rattle.sets.specs.Sets.{bits_from}
use Rattle.laws.specs.declared.refusals.Refusal.TheVariants.{Outside}
use Rattle.definition.specs.Addresses.{word}
use Rattle.definition.specs.Readings.{read_at}
use Rattle.definition.specs.declared.Event.{Event}
use Rattle.definition.specs.declared.Event.TheVariants.{RegisterRead, RegisterWrite, MemoryRead, MemoryWrite, UnknownRead, UnknownWrite}
use Rattle.definition.specs.declared.Reading.{Reading}
use Rattle.definition.specs.declared.Reading.TheVariants.{Found, Bad, Finished}
use Rattle.watching.specs.declared.verdicts.Variable.{Variable}
use Rattle.watching.specs.declared.verdicts.Verdict.{Verdict}
use Rattle.watching.specs.declared.verdicts.Verdict.TheVariants.{NoWrite, AddressUnknown, NoneTouched, PartTouched, WholeTouched}
use Rattle.watching.specs.declared.verdicts.Naming.{Naming}
use Rattle.watching.specs.declared.verdicts.Naming.TheVariants.{Named, Unnamed, Ended}

abbrev pub variable : ℕ → ℕ → Variable
variable a n = record { address = a; length = n }

-- a length that a variable may have; another is refused 2
abbrev pub is_length : ℕ → Bool
is_length n = nat_le 1 n && nat_le n 8

-- the n bytes from an address on, modulo two to the 64, the last one first
unfoldable pub bytes_from : ℕ → ℕ → List ℕ
bytes_from a zero = []
bytes_from a (suc n) = (a + n) % word ∷ bytes_from a n

-- how many of these are among those
unfoldable pub among : List ℕ → List ℕ → ℕ
among [] those = 0
among (x ∷ xs) those = cond (is_in x those) 1 0 + among xs those

-- so many of the variable's bytes are touched, of its length: none of them, all of them, or part
unfoldable pub judged : ℕ → ℕ → Verdict
judged touched length = cond (touched == 0) NoneTouched (cond (touched == length) WholeTouched PartTouched)

-- a store of n bytes at an address
unfoldable pub store_verdict : Variable → ℕ → ℕ → Verdict
store_verdict v a n = judged (among (bytes_from v.address v.length) (bytes_from a n)) v.length

-- memory writes, kinds 4 and 6, get a verdict, and no other event does
unfoldable pub verdict_of : Variable → Event → Verdict
verdict_of v (RegisterRead y) = NoWrite
verdict_of v (RegisterWrite y) = NoWrite
verdict_of v (MemoryRead a n) = NoWrite
verdict_of v (MemoryWrite a n) = store_verdict v a n
verdict_of v (UnknownRead n) = NoWrite
verdict_of v (UnknownWrite n) = AddressUnknown

abbrev pub verdict_number : Verdict → ℕ
verdict_number NoWrite = 0
verdict_number AddressUnknown = 1
verdict_number NoneTouched = 2
verdict_number PartTouched = 3
verdict_number WholeTouched = 4

-- which of the variable's bytes a store touches: bit i for byte i
unfoldable pub store_touched : Variable → ℕ → ℕ → ℕ
store_touched v a n = bits_from (λ (i : ℕ). is_in ((v.address + i) % word) (bytes_from a n)) 0 v.length

unfoldable pub touched_of : Variable → Event → ℕ
touched_of v (RegisterRead y) = 0
touched_of v (RegisterWrite y) = 0
touched_of v (MemoryRead a n) = 0
touched_of v (MemoryWrite a n) = store_touched v a n
touched_of v (UnknownRead n) = 0
touched_of v (UnknownWrite n) = 0

-- the event at a place of a log, named: as it reads, but for a length that no variable has
abbrev pub named_by : Variable → Reading → Naming
named_by v (Found e next) = Named (verdict_of v e) (touched_of v e) next
named_by v (Bad r) = Unnamed r
named_by v Finished = Ended

unfoldable pub name_at : Variable → List ℕ → ℕ → Naming
name_at v log at = cond (is_length v.length) (named_by v (read_at log at)) (Unnamed Outside)
