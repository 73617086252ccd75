-- Every statement of specs/Promises.antt, proved.
use mathlib.Core.Path.{refl, sym, ◌∙◌}
use mathlib.Core.List.{◌∷◌, ◌++◌}
use mathlib.Core.Bool.{false, not}
use Rattle.laws.proofs.Outcomes.{one_outcome}
use Rattle.registers.specs.Files.{file_kind, based_kind, file_of, is_file}
use Rattle.record.specs.Records.{record_of}
use Rattle.definition.specs.Logs.{bytes_of}
use Rattle.definition.specs.Visits.{fixed_record, log_of, refusal_of, visit_by}
use Rattle.definition.specs.Listings.{listing_of, listing_refusal, listing_call}
use Rattle.definition.proofs.Bounds.{log_bytes_lem, log_events_lem}
use Rattle.definition.proofs.CutLast as law
use Rattle.definition.proofs.ListingBound.{listing_bytes}
use Rattle.promises.specs.Promises as promised
use Rattle.promises.proofs.Demands.{by_refines, by_agrees}
use Rattle.promises.proofs.Rooms.{visit_has_room, listing_has_room, visit_retried, listing_retried}
use Rattle.promises.proofs.Outcomes.{number_is, refused_is}
use Rattle.promises.proofs.Whole.{good_back, visit_written, visit_reads, visit_reads_inside, listing_written}
use Rattle.promises.proofs.Unknown.{unknown_to, unknown_from, based_to, based_from}
use Rattle.promises.proofs.OldKinds.{old_visit, old_listing, old_calls, based_is, values}
use Rattle.promises.proofs.Everyday.{filled_visit, filled_listing, filled_calls, unlisted_is, is_unlisted, nine_visit, nine_listing, nine_calls}
use Rattle.promises.proofs.Opened.{opened}
use Rattle.promises.proofs.Tables as tables
use Rattle.promises.proofs.Wrong as wrong

pub more_known_refines : promised.MoreKnownRefines
more_known_refines b f g p q s t hf hg more hp hq = rw (hf, hg) (by_refines false b (file_of f) (file_of g) p q s t more hp hq)

pub more_known_refines_under : promised.MoreKnownRefinesUnder
more_known_refines_under b f g p q s t more hp hq = by_refines false b f g p q s t more hp hq

pub agreement_decides : promised.AgreementDecides
agreement_decides b f g p s hf hg h = rw (hf, hg) (by_agrees false b (file_of f) (file_of g) p s h)

pub agreement_decides_under : promised.AgreementDecidesUnder
agreement_decides_under b f g p s h = by_agrees false b f g p s h

pub unknown_exactly : promised.UnknownExactly
unknown_exactly f a = (unknown_to f a, unknown_from f a)

pub base_unknown_exactly : promised.BaseUnknownExactly
base_unknown_exactly f s a = (based_to f s a, based_from f s a)

pub cut_last : promised.CutLast
cut_last f x b i d = law.cut_last f x b i d

pub log_is_short : promised.LogBytes
log_is_short f x = log_bytes_lem f x

pub log_has_few : promised.LogEvents
log_has_few f x = log_events_lem f x

pub listing_is_short : promised.ListingBytes
listing_is_short x = listing_bytes x

pub first_refusal_lem : promised.FirstRefusal
unfolding visit_by listing_call
first_refusal_lem b f p s = (
  number_is (refusal_of (not (is_file f)) b (file_of f) p s) (record_of b).opcode (bytes_of (log_of b (file_of f))) p s,
  number_is (listing_refusal b p s) (record_of b).opcode (listing_of (fixed_record b)) p s,
)

pub room_suffices : promised.RoomSuffices
room_suffices b f p s =
    ((λ h e. visit_has_room (not (is_file f)) b (file_of f) p s h (sym (first_refusal_lem b f p s).0 ∙ e)), (λ h e. listing_has_room b p s h (sym (first_refusal_lem b f p s).1 ∙ e)))

pub retry_succeeds : promised.RetrySucceeds
retry_succeeds b f p s n = (visit_retried (not (is_file f)) b (file_of f) p s n, listing_retried b p s n)

pub bounds_reached : promised.BoundsReached
unfolding opened
bounds_reached = (refl, refl, refl, refl, refl)

pub old_records : promised.OldRecords
old_records t f p s e =
    let others = old_calls t e in
    (old_visit t e (not (is_file f)) (file_of f) p s, old_listing t e p s, others.0, others.1, others.2)

pub old_files : promised.OldFiles
old_files b t u p s good more =
    rw (good, based_is t u good more)
    (by_agrees false b (file_of (based_kind ∷ (t ++ u))) (file_of (file_kind ∷ t)) p s (λ y m. values t u good more y))

pub filled_in_lem : promised.FilledIn
filled_in_lem t f p s e listed =
    let others = filled_calls t e listed in
    (filled_visit t e listed (not (is_file f)) (file_of f) p s, filled_listing t e listed p s, others.0, others.1, others.2)

pub nine_exactly : promised.NineExactly
nine_exactly b f p s =
    let others = nine_calls b in
    let first = first_refusal_lem b f p s in (
      (λ e. unlisted_is b ((nine_visit (not (is_file f)) b (file_of f) p s).0 (sym first.0 ∙ e)), λ u. first.0 ∙ (nine_visit (not (is_file f)) b (file_of f) p s).1 (is_unlisted b u)),
      (λ e. unlisted_is b ((nine_listing b p s).0 (sym first.1 ∙ e)), λ u. first.1 ∙ (nine_listing b p s).1 (is_unlisted b u)),
      (λ e. unlisted_is b (sym others.0 ∙ e), λ u. others.0 ∙ is_unlisted b u),
      (λ e. unlisted_is b (sym others.1 ∙ e), λ u. others.1 ∙ is_unlisted b u),
      (λ e. unlisted_is b (sym others.2 ∙ e), λ u. others.2 ∙ is_unlisted b u),
    )

pub every_call_determined : promised.EveryCallDetermined
every_call_determined b f p g s =
    (one_outcome _, one_outcome _, one_outcome _, one_outcome _, one_outcome _, one_outcome _, one_outcome _, one_outcome _, one_outcome _)

pub every_reading_determined : promised.EveryReadingDetermined
every_reading_determined f y l i = (one_outcome _, one_outcome _, one_outcome _)

pub every_setter_determined : promised.EverySetterDetermined
every_setter_determined d v a w i n t =
    (one_outcome _, one_outcome _, one_outcome _, one_outcome _, one_outcome _, one_outcome _, one_outcome _, one_outcome _, one_outcome _, one_outcome _, one_outcome _)

pub refused_leaves : promised.RefusedLeaves
unfolding visit_by listing_call
refused_leaves b f p s a new r = (
  (λ e. refused_is (refusal_of (not (is_file f)) b (file_of f) p s) (record_of b).opcode (bytes_of (log_of b (file_of f))) p s a new r e),
  (λ e. refused_is (listing_refusal b p s) (record_of b).opcode (listing_of (fixed_record b)) p s a new r e),
)

pub only_the_log_changes : promised.OnlyTheLogChanges
only_the_log_changes b f p s n new =
    ((λ e. visit_written (not (is_file f)) b (file_of f) p s n new e), (λ e. listing_written b p s n new e))

pub events_read_back : promised.EventsReadBack
events_read_back e l h a = good_back e l (h, a)

pub logs_read_back : promised.LogsReadBack
logs_read_back b f p s n new e =
    (visit_reads (not (is_file f)) b (file_of f) p s n new e, visit_reads_inside (not (is_file f)) b (file_of f) p s n new e)

pub bench_holds : promised.BenchHolds
bench_holds = tables.bench_holds

pub beyond_holds : promised.BeyondHolds
beyond_holds =
    (tables.widening_holds, tables.masking_holds, tables.leas_holds, tables.ordering_holds, tables.addressing_holds, tables.cutting_holds, tables.malformed_holds, tables.refusing_holds)

pub segments_hold : promised.SegmentsHold
segments_hold = (tables.segments_hold, tables.refused_kinds_hold, tables.base_readings_hold, tables.base_files_hold)

pub everyday_holds : promised.EverydayHolds
everyday_holds = (tables.every_digest_holds, tables.everyday_logs_hold, tables.everyday_refusals_hold, tables.everyday_listings_hold, tables.everyday_exceptions_hold, tables.everyday_privileges_hold)

pub answers_hold : promised.AnswersHold
answers_hold =
    (tables.listings_hold, tables.digests_hold, tables.exceptions_hold, tables.privileges_hold, tables.readings_hold, tables.answer_numbers_hold, tables.reading_numbers_hold, tables.digest_numbers_hold, tables.info_numbers_hold, tables.may_numbers_hold, tables.privilege_numbers_hold, tables.level_numbers_hold, tables.files_hold, tables.records_hold, tables.entries_hold, tables.vectors_hold, tables.chains_hold, tables.any_holds, tables.may_holds, tables.setters_hold)

pub sweeps_hold : promised.SweepsHold
sweeps_hold =
    (tables.lists_hold, tables.reads_hold, tables.writes_hold, tables.opcodes_hold, tables.banks_hold, tables.widths_hold, tables.values_hold, tables.memory_lists_hold)

pub not_refusing_all : promised.NotRefusingAll
not_refusing_all = wrong.not_refusing_all

pub not_one_log : promised.NotOneLog
not_one_log = wrong.not_one_log

pub not_untouched : promised.NotUntouched
not_untouched = wrong.not_untouched

pub not_operand_0_alone : promised.NotOperand0Alone
not_operand_0_alone = wrong.not_operand_0_alone

pub count_is_the_length : promised.CountIsTheLength
count_is_the_length = wrong.count_is_the_length

pub not_one_count : promised.NotOneCount
not_one_count = wrong.not_one_count

pub not_all_unknown : promised.NotAllUnknown
not_all_unknown = wrong.not_all_unknown
