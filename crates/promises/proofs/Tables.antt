-- Every row of the tables holds, by computing.
use mathlib.Core.Path.{refl}
use Rattle.access.specs.Privileges.{level_number}
use Rattle.definition.specs.Readings.{reading_number}
use Rattle.promises.specs.Rows.{Visited, Listed, Table}
use Rattle.promises.specs.Bench.{bench}
use Rattle.promises.specs.Beyond.{widening, masking, leas, ordering, addressing, cutting, malformed, refusing}
use Rattle.promises.specs.Answers.{listings, digest_for, digests, exceptions_for, exceptions, privilege_for, privileges, reading_from, readings, numbers_of, answer_numbers, reading_numbers, digest_numbers, digest_numbers_lem, info_numbers, info_numbers_lem, may_numbers, may_numbers_lem, privilege_numbers, privilege_numbers_lem, level_numbers, file_for, files, record_for, records, entry_for, entries, any_none, any_rows, vectors, vector_rows, vectors_after, chain_rows, may, may_rows, setter, setter_rows}
use Rattle.promises.specs.Sweeps.{every_list, every_spec_read, every_spec_written, fixed_by, every_opcode, named_in, every_bank, mul_of, every_width, value_in, every_value, at_size0, every_memory_list}
use Rattle.promises.specs.Segments.{segments, refused_kinds, base_readings, bases_in, base_files}
use Rattle.promises.specs.Everyday.{digest_at, every_digest, everyday_logs, everyday_refusals, everyday_listings, everyday_exceptions, everyday_privileges}
use Rattle.promises.proofs.Opened.{opened}

pub bench_holds : Visited bench
unfolding opened bench
bench_holds = refl

pub widening_holds : Visited widening
unfolding opened widening
widening_holds = refl

pub masking_holds : Visited masking
unfolding opened masking
masking_holds = refl

pub leas_holds : Visited leas
unfolding opened leas
leas_holds = refl

pub ordering_holds : Visited ordering
unfolding opened ordering
ordering_holds = refl

pub addressing_holds : Visited addressing
unfolding opened addressing
addressing_holds = refl

pub cutting_holds : Visited cutting
unfolding opened cutting
cutting_holds = refl

pub malformed_holds : Visited malformed
unfolding opened malformed
malformed_holds = refl

pub refusing_holds : Visited refusing
unfolding opened refusing
refusing_holds = refl

pub segments_hold : Visited segments
unfolding opened segments
segments_hold = refl

pub refused_kinds_hold : Visited refused_kinds
unfolding opened refused_kinds
refused_kinds_hold = refl

pub every_digest_holds : Table digest_at every_digest
unfolding opened every_digest
every_digest_holds = refl

pub everyday_logs_hold : Visited everyday_logs
unfolding opened everyday_logs
everyday_logs_hold = refl

pub everyday_refusals_hold : Visited everyday_refusals
unfolding opened everyday_refusals
everyday_refusals_hold = refl

pub everyday_listings_hold : Listed everyday_listings
unfolding opened everyday_listings
everyday_listings_hold = refl

pub everyday_exceptions_hold : Table exceptions_for everyday_exceptions
unfolding opened everyday_exceptions
everyday_exceptions_hold = refl

pub everyday_privileges_hold : Table privilege_for everyday_privileges
unfolding opened everyday_privileges
everyday_privileges_hold = refl

pub base_readings_hold : Table reading_from base_readings
unfolding opened base_readings
base_readings_hold = refl

pub base_files_hold : Table bases_in base_files
unfolding opened base_files
base_files_hold = refl

pub listings_hold : Listed listings
unfolding opened listings
listings_hold = refl

pub digests_hold : Table digest_for digests
unfolding opened digests
digests_hold = refl

pub exceptions_hold : Table exceptions_for exceptions
unfolding opened exceptions
exceptions_hold = refl

pub privileges_hold : Table privilege_for privileges
unfolding opened privileges
privileges_hold = refl

pub readings_hold : Table reading_from readings
unfolding opened readings
readings_hold = refl

pub answer_numbers_hold : Table numbers_of answer_numbers
unfolding answer_numbers
answer_numbers_hold = refl

pub reading_numbers_hold : Table reading_number reading_numbers
unfolding reading_numbers
reading_numbers_hold = refl

pub digest_numbers_hold : Table digest_numbers digest_numbers_lem
unfolding digest_numbers_lem
digest_numbers_hold = refl

pub info_numbers_hold : Table info_numbers info_numbers_lem
unfolding info_numbers_lem
info_numbers_hold = refl

pub may_numbers_hold : Table may_numbers may_numbers_lem
unfolding may_numbers_lem
may_numbers_hold = refl

pub privilege_numbers_hold : Table privilege_numbers privilege_numbers_lem
unfolding privilege_numbers_lem
privilege_numbers_hold = refl

pub level_numbers_hold : Table level_number level_numbers
unfolding level_numbers
level_numbers_hold = refl

pub files_hold : Table file_for files
unfolding opened files
files_hold = refl

pub records_hold : Table record_for records
unfolding opened records
records_hold = refl

pub entries_hold : Table entry_for entries
unfolding opened entries
entries_hold = refl

pub any_holds : Table any_none any_rows
unfolding any_rows
any_holds = refl

pub vectors_hold : Table vectors vector_rows
unfolding opened vector_rows
vectors_hold = refl

pub chains_hold : Table vectors_after chain_rows
unfolding opened chain_rows
chains_hold = refl

pub may_holds : Table may may_rows
unfolding opened may_rows
may_holds = refl

pub setters_hold : Table setter setter_rows
unfolding opened setter_rows
setters_hold = refl

pub lists_hold : Visited every_list
unfolding opened every_list
lists_hold = refl

pub reads_hold : Visited every_spec_read
unfolding opened every_spec_read
reads_hold = refl

pub writes_hold : Visited every_spec_written
unfolding opened every_spec_written
writes_hold = refl

pub opcodes_hold : Table fixed_by every_opcode
unfolding opened every_opcode
opcodes_hold = refl

pub banks_hold : Table named_in every_bank
unfolding opened every_bank
banks_hold = refl

pub widths_hold : Table mul_of every_width
unfolding opened every_width
widths_hold = refl

pub values_hold : Table value_in every_value
unfolding opened every_value
values_hold = refl

pub memory_lists_hold : Table at_size0 every_memory_list
unfolding opened every_memory_list
memory_lists_hold = refl
