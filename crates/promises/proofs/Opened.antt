-- The names of all definitions that computing a row goes through: a proof that says `unfolding opened` computes.
use Rattle.laws.specs.Words.{number_at, little, bit}
use Rattle.laws.specs.Tests.{any, is_in, first_of}
use Rattle.laws.specs.Lists.{each, flat}
use Rattle.laws.specs.Lending.{size, splice}
use Rattle.access.specs.Exceptions.{with_bit, set_of, may_of}
use Rattle.registers.specs.Banks.{is_register, is_logged, width_of}
use Rattle.registers.specs.Files.{numbers_from, file_values, file_length, file_of, is_file, no_file, file_answer, part_of, part_value, slot_of, value_of}
use Rattle.digest.specs.Digests.{with_behavior, with_access, with_list, operand_answer, list_answer}
use Rattle.implicit.specs.Lists.{implicit_of, entry_at}
use Rattle.everyday.specs.Rows.{everyday_digest}
use Rattle.record.specs.Records.{record_length, is_record, record_digest, record_of, outside, lacks_digest, record_refusal}
use Rattle.definition.specs.Tables.{shape_of, rule_of}
use Rattle.definition.specs.Behaviors.{operand_width, by_width, imul_fix, movhalf_fix, fix_up, digest_of, fixed_up, complex, operands_of, is_memory, may_fault, may_protect, exceptions_of, digest_call, privilege_call, exceptions_call}
use Rattle.definition.specs.Addresses.{signed32, term_registers, registers_of, term_of, place_of, address_of, base_of, index_of, offset_of, operand_address, segment_register, segment_registers, based_of, segment_of}
use Rattle.definition.specs.Steps.{mask_registers, widened, read_part, write_part, operand_steps, shape_base, slot_registers, implicit_step, entry_steps, flag_steps, steps_of}
use Rattle.definition.specs.Logs.{memory_event, step_events, event_bytes, step_bytes}
use Rattle.definition.specs.Refusals.{accessed, unnamed, no_slot, nameless, sizeless, no_room}
use Rattle.definition.specs.Visits.{log_of, refusal_of, outcome, visit_by}
use Rattle.definition.specs.Listings.{entry_items, explicit_at, flag_items, items_of, operand_bytes, item_bytes, listing_refusal, listing_call}
use Rattle.definition.specs.Readings.{body_of, front_event, is_event, read_front, read_at}

unfoldable pub opened : Unit {0}
unfolding number_at little bit any is_in first_of each flat size splice with_bit set_of may_of is_register is_logged width_of numbers_from file_values file_length file_of is_file no_file file_answer part_of slot_of part_value value_of with_behavior with_access with_list operand_answer list_answer implicit_of entry_at everyday_digest record_length is_record record_digest record_of outside lacks_digest record_refusal shape_of rule_of operand_width by_width imul_fix movhalf_fix fix_up digest_of fixed_up complex operands_of is_memory may_fault may_protect exceptions_of digest_call privilege_call exceptions_call signed32 term_registers registers_of term_of place_of address_of base_of index_of offset_of operand_address segment_register segment_registers based_of segment_of mask_registers widened read_part write_part operand_steps shape_base slot_registers implicit_step entry_steps flag_steps steps_of memory_event step_events event_bytes step_bytes accessed unnamed no_slot nameless sizeless no_room log_of refusal_of outcome visit_by entry_items explicit_at flag_items items_of operand_bytes item_bytes listing_refusal listing_call body_of front_event is_event read_front read_at
opened = tt
