-- WHAT IS PROMISED of the definitions, each statement after its sentence. proofs/Proved.antt proves them all; nothing is assumed.
-- The words that the statements use stand in Refinement.antt (files and events), Calls.antt (calls) and Rows.antt (tables).
use Rattle.std.specs.Prelude.{ℕ, ◌+◌, ◌-◌, ◌≤◌, ◌≡◌, ◌↔◌, Bool, true, not, length, take, drop, set, Some, None, Result}
use mathlib.Core.List.{List, [], ◌∷◌, ◌++◌, Memᴰ}
use Rattle.laws.specs.Lending.{splice}
use Rattle.laws.specs.Outcomes.{OneOutcome}
use Rattle.access.specs.Exceptions.{set_of, then_set, may_of, info_number}
use Rattle.access.specs.Privileges.{level_number}
use Rattle.access.specs.declared.ExceptionInfo.{ExceptionInfo}
use Rattle.registers.specs.Files.{file_kind, based_kind, file_bytes, based_bytes, file_of, file_answer, is_file, slot_of, after, value_of}
use Rattle.registers.specs.declared.RegSpec.{RegSpec}
use Rattle.registers.specs.declared.RegisterFile.{RegisterFile}
use Rattle.digest.specs.Digests.{with_privilege, with_flags, with_nontrivial, with_complex, operand_answer, list_answer, then, digest_number}
use Rattle.digest.specs.declared.BehaviorDigest.{BehaviorDigest}
use Rattle.implicit.specs.Lists.{entry_at}
use Rattle.everyday.specs.Rows.{unlisted, is_everyday}
use Rattle.record.specs.Records.{record_kind, segment_kind, everyday_kind, everyday_bytes, record_bytes, record_answer, address_size}
use Rattle.record.specs.declared.Record.{Record}
use Rattle.definition.specs.Addresses.{registers_of, low_if, uncut, address_of, operand_address, segment_registers, based_of}
use Rattle.definition.specs.Behaviors.{digest_call, privilege_call, exceptions_call, privilege_number}
use Rattle.definition.specs.Steps.{steps_of}
use Rattle.definition.specs.Logs.{events_of, event_bytes, bytes_of}
use Rattle.definition.specs.Limits.{most_events, most_bytes, most_listed}
use Rattle.definition.specs.Visits.{fixed_record, log_of, refusal_of, visit_under, visit_of, number_of}
use Rattle.definition.specs.Listings.{listing_of, listing_refusal, listing_call}
use Rattle.definition.specs.Readings.{is_event, read_front, read_at, Reads, reading_number}
use Rattle.definition.specs.declared.Address.{Address}
use Rattle.definition.specs.declared.Answer.{Answer}
use Rattle.definition.specs.declared.Answer.TheVariants.{Done, Short}
use Rattle.definition.specs.declared.Base.{Base}
use Rattle.definition.specs.declared.Displacement.{Displacement}
use Rattle.definition.specs.declared.Event.{Event}
use Rattle.definition.specs.declared.Reading.TheVariants.{Found}
use Rattle.promises.specs.Refinement.{Extends, AgreeOn}
use Rattle.promises.specs.Calls.{Refusal, Retried, Alike, Written, ReadsFrom, Addressable, Program}
use Rattle.promises.specs.Rows.{record_with, file_knowing, buffer, Visited, Listed, Table}
use Rattle.promises.specs.Bench.{P1, P2, P2_file, bench}
use Rattle.promises.specs.Beyond.{widening, masking, leas, ordering, addressing, cutting, malformed, refusing}
use Rattle.promises.specs.Answers.{listings, digest_for, digests, exceptions_for, exceptions, privilege_for, privileges, reading_from, readings, numbers_of, answer_numbers, reading_numbers, digest_numbers, digest_numbers_lem, info_numbers, info_numbers_lem, may_numbers, may_numbers_lem, privilege_numbers, privilege_numbers_lem, level_numbers, file_for, files, record_for, records, entry_for, entries, any_none, any_rows, vectors, vector_rows, vectors_after, chain_rows, may, may_rows, setter, setter_rows}
use Rattle.promises.specs.Sweeps.{every_list, every_spec_read, every_spec_written, fixed_by, every_opcode, named_in, every_bank, mul_of, every_width, value_in, every_value, at_size0, every_memory_list}
use Rattle.promises.specs.Fullest.{fullest, fullest_file}
use Rattle.promises.specs.Segments.{segments, refused_kinds, base_readings, bases_in, base_files}
use Rattle.promises.specs.Everyday.{opcode_in, filled_in, Unlisted, digest_at, every_digest, everyday_logs, everyday_refusals, everyday_listings, everyday_exceptions, everyday_privileges}
use Rattle.laws.specs.declared.refusals.Refusal.{Refusal as Why}

-- DEMAND 3, FIRST HALF. Under a file that knows more, with room for the longest log on both sides, a visit is refused as before, number
-- and opcode, and leaves the buffer; or it logs the same events in the same order, but for unknown addresses that are filled in.
abbrev pub MoreKnownRefines : Type 0
MoreKnownRefines =
    (b f g p q : List ℕ) (s t : ℕ)
    → is_file f ≡ true → is_file g ≡ true → Extends (file_of f) (file_of g)
    → s + most_bytes ≤ length p → t + most_bytes ≤ length q
    → Alike (visit_of b f p s) (visit_of b g q t) p q s t (log_of b (file_of f)) (log_of b (file_of g))

-- the same under files that are parsed already
abbrev pub MoreKnownRefinesUnder : Type 0
MoreKnownRefinesUnder =
    (b : List ℕ) (f g : RegisterFile) (p q : List ℕ) (s t : ℕ)
    → Extends f g → s + most_bytes ≤ length p → t + most_bytes ≤ length q
    → Alike (visit_under b f p s) (visit_under b g q t) p q s t (log_of b f) (log_of b g)

-- DEMAND 3, SECOND HALF. Files that answer alike every register that the log reads give the same answer and the same buffer,
-- whatever the room.
abbrev pub AgreementDecides : Type 0
AgreementDecides =
    (b f g p : List ℕ) (s : ℕ)
    → is_file f ≡ true → is_file g ≡ true → AgreeOn (file_of f) (file_of g) (log_of b (file_of f))
    → visit_of b f p s ≡ visit_of b g p s

abbrev pub AgreementDecidesUnder : Type 0
AgreementDecidesUnder =
    (b : List ℕ) (f g : RegisterFile) (p : List ℕ) (s : ℕ)
    → AgreeOn f g (log_of b f) → visit_under b f p s ≡ visit_under b g p s

-- UNKNOWN EXACTLY. An address is unknown exactly when a register in it is.
abbrev pub UnknownExactly : Type 0
UnknownExactly =
    (f : RegisterFile) (a : Address)
    → (address_of f a ≡ None) ↔ ((y : RegSpec) × Memᴰ y (registers_of a) × (value_of f y ≡ None))

-- The same of an access: it lies at an unknown address exactly where the base of its segment or a register of its address is unknown.
abbrev pub BaseUnknownExactly : Type 0
BaseUnknownExactly =
    (f : RegisterFile) (s : ℕ) (a : Address)
    → (based_of f s (address_of f a) ≡ None) ↔ ((y : RegSpec) × Memᴰ y (segment_registers s ++ registers_of a) × (value_of f y ≡ None))

-- CUT LAST. An explicit operand lies where the sum of all its parts says; with the address-size bit, at its low 32 bits.
abbrev pub CutLast : Type 0
CutLast =
    (f : RegisterFile) (x : Record) (b : Base) (i : Bool) (d : Displacement)
    → address_of f (operand_address x b i d)
    ≡ after (address_of f (uncut (operand_address x b i d))) (λ v. Some (low_if (address_size x) v))

-- BOUNDS. No log is longer than most_bytes or has more than most_events, and no listing is longer than most_listed, for every record,
-- refused or not, and every file.
abbrev pub LogBytes : Type 0
LogBytes = (f : RegisterFile) (x : Record) → length (bytes_of (events_of f (steps_of x))) ≤ most_bytes

abbrev pub LogEvents : Type 0
LogEvents = (f : RegisterFile) (x : Record) → length (events_of f (steps_of x)) ≤ most_events

abbrev pub ListingBytes : Type 0
ListingBytes = (x : Record) → length (listing_of x) ≤ most_listed

-- so with so much room no call is refused 7
abbrev pub RoomSuffices : Type 0
RoomSuffices =
    (b f p : List ℕ) (s : ℕ)
    → (s + most_bytes ≤ length p → number_of (visit_of b f p s).0 ≡ 7 → ⊥)
    × (s + most_listed ≤ length p → number_of (listing_call b p s).0 ≡ 7 → ⊥)

-- A RETRY SUCCEEDS. Where visiting is refused 7 and says n, the same call over any buffer with n bytes from its start on is not refused
-- and writes n bytes; with fewer it is refused 7 and says n again. n is within the bound. The same for listing.
abbrev pub RetrySucceeds : Type 0
RetrySucceeds =
    (b f p : List ℕ) (s n : ℕ)
    → ((visit_of b f p s).0 ≡ Short n → Retried (visit_of b f) n × (n ≤ most_bytes))
    × ((listing_call b p s).0 ≡ Short n → Retried (listing_call b) n × (n ≤ most_listed))

-- Each bound is reached, by one record, in bytes and in events; with room for one byte less it is refused.
abbrev pub BoundsReached : Type 0
BoundsReached =
    ((visit_of fullest fullest_file (buffer most_bytes) 0).0 ≡ Done most_bytes)
    × (length (log_of fullest (file_of fullest_file)) ≡ most_events)
    × ((listing_call fullest (buffer most_listed) 0).0 ≡ Done most_listed)
    × (visit_of fullest fullest_file (buffer (most_bytes - 1)) 0 ≡ (Short most_bytes, buffer (most_bytes - 1)))
    × (listing_call fullest (buffer (most_listed - 1)) 0 ≡ (Short most_listed, buffer (most_listed - 1)))

-- OLD KINDS. A record that names no segment answers what the same bytes answer in the kind without one, and a file whose known bits are
-- those of the first kind what its bytes without the bases answer.
abbrev pub OldRecords : Type 0
OldRecords =
    (t f p : List ℕ) (s : ℕ)
    → length t + 1 ≡ record_bytes
    → (visit_of (segment_kind ∷ (t ++ (0 ∷ []))) f p s ≡ visit_of (record_kind ∷ t) f p s)
    × (listing_call (segment_kind ∷ (t ++ (0 ∷ []))) p s ≡ listing_call (record_kind ∷ t) p s)
    × (digest_call (segment_kind ∷ (t ++ (0 ∷ []))) ≡ digest_call (record_kind ∷ t))
    × (privilege_call (segment_kind ∷ (t ++ (0 ∷ []))) ≡ privilege_call (record_kind ∷ t))
    × (exceptions_call (segment_kind ∷ (t ++ (0 ∷ []))) ≡ exceptions_call (record_kind ∷ t))

abbrev pub OldFiles : Type 0
OldFiles =
    (b t bases p : List ℕ) (s : ℕ)
    → is_file (file_kind ∷ t) ≡ true → length bases + file_bytes ≡ based_bytes
    → visit_of b (based_kind ∷ (t ++ bases)) p s ≡ visit_of b (file_kind ∷ t) p s

-- NO DIGEST. A record without one whose opcode is in the table answers what kind 0x10 answers with the digest of the table filled in.
abbrev pub FilledIn : Type 0
FilledIn =
    (t f p : List ℕ) (s : ℕ)
    → length t + 1 ≡ everyday_bytes → is_everyday (opcode_in t) ≡ true
    → (visit_of (everyday_kind ∷ t) f p s ≡ visit_of (filled_in t) f p s)
    × (listing_call (everyday_kind ∷ t) p s ≡ listing_call (filled_in t) p s)
    × (digest_call (everyday_kind ∷ t) ≡ digest_call (filled_in t))
    × (privilege_call (everyday_kind ∷ t) ≡ privilege_call (filled_in t))
    × (exceptions_call (everyday_kind ∷ t) ≡ exceptions_call (filled_in t))

-- 9 is refused exactly where such a record's opcode is not in the table, and 1 and 2 are not.
abbrev pub NineExactly : Type 0
NineExactly =
    (b f p : List ℕ) (s : ℕ)
    → ((number_of (visit_of b f p s).0 ≡ unlisted) ↔ Unlisted b)
    × ((number_of (listing_call b p s).0 ≡ unlisted) ↔ Unlisted b)
    × ((digest_number (digest_call b) ≡ unlisted) ↔ Unlisted b)
    × ((privilege_number (privilege_call b) ≡ unlisted) ↔ Unlisted b)
    × ((info_number (exceptions_call b) ≡ unlisted) ↔ Unlisted b)

-- ONE OUTCOME. Any two outcomes that a call's contract allows are equal: answer, count and every byte lent. The calls over bytes:
abbrev pub EveryCallDetermined : Type 0
EveryCallDetermined =
    (b f p : List ℕ) (g : RegisterFile) (s : ℕ)
    → OneOutcome (visit_of b f p s)
    × OneOutcome (visit_under b g p s)
    × OneOutcome (listing_call b p s)
    × OneOutcome (digest_call b)
    × OneOutcome (privilege_call b)
    × OneOutcome (exceptions_call b)
    × OneOutcome (read_at p s)
    × OneOutcome (record_answer b)
    × OneOutcome (file_answer f)

-- what a file answers of a register, and a list of an entry
abbrev pub EveryReadingDetermined : Type 0
EveryReadingDetermined =
    (f : RegisterFile) (y : RegSpec) (l i : ℕ)
    → OneOutcome (value_of f y) × OneOutcome (slot_of f i) × OneOutcome (entry_at l i)

-- and the setters, alone and in a chain
abbrev pub EverySetterDetermined : Type 0
EverySetterDetermined =
    (d : BehaviorDigest) (v : ExceptionInfo) (a : Result BehaviorDigest Why) (w : Result ExceptionInfo Why) (i n : ℕ) (t : Bool)
    → OneOutcome (with_privilege n d)
    × OneOutcome (with_flags n d)
    × OneOutcome (with_nontrivial t d)
    × OneOutcome (with_complex t d)
    × OneOutcome (operand_answer i n d)
    × OneOutcome (list_answer n d)
    × OneOutcome (then a (operand_answer i n))
    × OneOutcome (then a (list_answer n))
    × OneOutcome (set_of v i t)
    × OneOutcome (then_set w i t)
    × OneOutcome (may_of v i)

-- THE REFUSAL TABLE. An answer's number is that of the first test of the table that holds, and 0 where none does.
abbrev pub FirstRefusal : Type 0
FirstRefusal =
    (b f p : List ℕ) (s : ℕ)
    → (number_of (visit_of b f p s).0 ≡ refusal_of (not (is_file f)) b (file_of f) p s)
    × (number_of (listing_call b p s).0 ≡ listing_refusal b p s)

-- A refused call leaves the buffer as it was.
abbrev pub RefusedLeaves : Type 0
RefusedLeaves =
    (b f p : List ℕ) (s : ℕ) (a : Answer) (new : List ℕ)
    → Refusal a
    → (visit_of b f p s ≡ (a, new) → new ≡ p)
    × (listing_call b p s ≡ (a, new) → new ≡ p)

-- A call that is not refused writes its n bytes from the start on, n is their number, and all else in the buffer stays.
abbrev pub OnlyTheLogChanges : Type 0
OnlyTheLogChanges =
    (b f p : List ℕ) (s n : ℕ) (new : List ℕ)
    → (visit_of b f p s ≡ (Done n, new) → Written (bytes_of (log_of b (file_of f))) p new s n)
    × (listing_call b p s ≡ (Done n, new) → Written (listing_of (fixed_record b)) p new s n)

-- ROUND TRIP. The reader gives back what a writer's bytes are, whatever stands behind them.
abbrev pub EventsReadBack : Type 0
EventsReadBack =
    (e : Event) (l : List ℕ)
    → is_event e ≡ true → Addressable e → read_front (event_bytes e ++ l) ≡ Found e (length (event_bytes e))

-- What a visit wrote reads whole, as its events: cut out of the buffer, and in the buffer from the start up to n further.
abbrev pub LogsReadBack : Type 0
LogsReadBack =
    (b f p : List ℕ) (s n : ℕ) (new : List ℕ)
    → visit_of b f p s ≡ (Done n, new)
    → Reads (take n (drop s new)) (log_of b (file_of f)) × ReadsFrom new s (log_of b (file_of f)) (s + n)

-- TABLES. P1 to P11 of document 01.
abbrev pub BenchHolds : Type 0
BenchHolds = Visited bench

-- What P1 to P11 do not see of visiting: the four errors that look reasonable, masks, LEA, orders, addresses, refusals and room.
abbrev pub BeyondHolds : Type 0
BeyondHolds =
    Visited widening × Visited masking × Visited leas × Visited ordering × Visited addressing × Visited cutting × Visited malformed × Visited refusing

-- What T-10 says of segments, kinds and bank 13.
abbrev pub SegmentsHold : Type 0
SegmentsHold = Visited segments × Visited refused_kinds × Table reading_from base_readings × Table bases_in base_files

-- What T-11 says of records without a digest: the table, and the order of the tests.
abbrev pub EverydayHolds : Type 0
EverydayHolds =
    Table digest_at every_digest
    × Visited everyday_logs
    × Visited everyday_refusals
    × Listed everyday_listings
    × Table exceptions_for everyday_exceptions
    × Table privilege_for everyday_privileges

-- What the other calls and the setters answer.
abbrev pub AnswersHold : Type 0
AnswersHold =
    Listed listings
    × Table digest_for digests
    × Table exceptions_for exceptions
    × Table privilege_for privileges
    × Table reading_from readings
    × Table numbers_of answer_numbers
    × Table reading_number reading_numbers
    × Table digest_numbers digest_numbers_lem
    × Table info_numbers info_numbers_lem
    × Table may_numbers may_numbers_lem
    × Table privilege_numbers privilege_numbers_lem
    × Table level_number level_numbers
    × Table file_for files
    × Table record_for records
    × Table entry_for entries
    × Table vectors vector_rows
    × Table vectors_after chain_rows
    × Table any_none any_rows
    × Table may may_rows
    × Table setter setter_rows

-- Every list, spec, opcode and bank once.
abbrev pub SweepsHold : Type 0
SweepsHold =
    Visited every_list
    × Visited every_spec_read
    × Visited every_spec_written
    × Table fixed_by every_opcode
    × Table named_in every_bank
    × Table mul_of every_width
    × Table value_in every_value
    × Table at_size0 every_memory_list

-- WRONG ANSWERS TRIED. A program meets the contract where its whole outcome is the defined one.
abbrev pub Meets : Program → Type 0
Meets v = (b f p : List ℕ) (s : ℕ) → v b f p s ≡ visit_of b f p s

-- what a program gives at P1 and at P2, over 40 bytes
abbrev pub at_p1 : Program → Answer × List ℕ
at_p1 v = v (record_with P1) (file_knowing []) (buffer 40) 0

abbrev pub at_p2 : Program → Answer × List ℕ
at_p2 v = v (record_with P2) (file_knowing P2_file) (buffer 40) 0

-- Refusing everything breaks the exact refusal table: P1 is not refused.
abbrev pub NotRefusingAll : Type 0
NotRefusingAll = (v : Program) → Meets v → Refusal (at_p1 v).0 → ⊥

-- One fixed log breaks demand 2: it cannot be both P1's and P2's.
abbrev pub NotOneLog : Type 0
NotOneLog =
    (v : Program) → Meets v → (l : List ℕ) → (at_p1 v).1 ≡ splice (buffer 40) 0 l → (at_p2 v).1 ≡ splice (buffer 40) 0 l → ⊥

-- An untouched buffer breaks demand 2 at P1.
abbrev pub NotUntouched : Type 0
NotUntouched = (v : Program) → Meets v → (at_p1 v).1 ≡ buffer 40 → ⊥

-- A log right for operand 0 and hollow afterwards, whatever n it answers, breaks demand 2 at P2: there it would leave the buffer of
-- the same record with count 1 (byte 3).
abbrev pub NotOperand0Alone : Type 0
NotOperand0Alone =
    (v : Program) → Meets v → (at_p2 v).1 ≡ (visit_of (set (record_with P2) 3 1) (file_knowing P2_file) (buffer 40) 0).1 → ⊥

-- An invented n breaks demand 2, since n is the length of the defined log; so no n is both P1's and P2's.
abbrev pub CountIsTheLength : Type 0
CountIsTheLength =
    (v : Program) → Meets v
    → (b f p : List ℕ) (s n : ℕ) → (v b f p s).0 ≡ Done n → n ≡ length (bytes_of (log_of b (file_of f)))

abbrev pub NotOneCount : Type 0
NotOneCount = (v : Program) → Meets v → (n : ℕ) → (at_p1 v).0 ≡ Done n → (at_p2 v).0 ≡ Done n → ⊥

-- An all-unknown log, that of a file that knows nothing, breaks demand 2 at P2, though demand 3 alone would let it pass.
abbrev pub NotAllUnknown : Type 0
NotAllUnknown = (v : Program) → Meets v → (at_p2 v).1 ≡ (visit_of (record_with P2) (file_knowing []) (buffer 40) 0).1 → ⊥
