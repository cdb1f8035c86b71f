-- One name for what a list of calls unfolds to, for a proof's `unfolding` line. Nothing here needs to be believed: a name says nothing, and opens what it lists.
use Rattle.history.specs.History.{verdict, answer_if, stamps_if}
use Rattle.loops.specs.Change.{changed}
use Rattle.layout.specs.View.{put, renew, blank}
use Rattle.layout.specs.Moved.{later_zero, moved}
use Rattle.model.specs.Stored.{any_below, row_in, record_in, page_in, value_in, current_in, cell_in, open_index, row_keeper, record_keeper, open_keeper, scan_entry}
use Rattle.layout.specs.Regions.{slot}
use Rattle.model.specs.Reading.{sees, head_in, visible_in, answers_for, walk, found_in, down_to, word_in, setter_at, setter_in, commit_stamp, setter_stamp, lookup_in, shown_in, read_in, keeper_word, keeper_in, read_current, own_changes, was_current, scan_page, tally, sum_in}
use Rattle.model.specs.Versions.{tells, setter_number, dated_in, values_in, crossings_in}
use Rattle.model.specs.Writing.{begun, noted, mark_all, settled, freed, committed_in, aborted_in, inserted_at, inserted_in, next_slot, appended, filled_in, new_bits_in, records_wanted, original_appended, setting_appended, updated_in, deleted_in, applies, applied, newest_of, named_in, stray_in, free_in, merged_in, releasable, released_in, made_view}
use Rattle.model.specs.Calls.{not_open_in, no_scan_in, not_given_in, open_other, held_in, gone_in, lacks_in, earlier_in, later_in, no_span_in, out_of_reach_in, open_among_in, begin_tests_in, read_at_tests_in, keeper_borne_in, move_tests_in, tests_in, reply_in, stamps_in, act_in, entries_after, view_if, entries_if, say, view_next, store_next, entries_next, stamps_next, outcomes_in}

unfoldable pub execution : Unit {0}
unfolding put renew changed any_below row_in record_in page_in slot value_in current_in cell_in open_index row_keeper record_keeper open_keeper scan_entry sees head_in visible_in answers_for walk found_in down_to word_in setter_at setter_in commit_stamp setter_stamp lookup_in shown_in read_in keeper_word keeper_in read_current own_changes was_current scan_page tally sum_in tells setter_number dated_in values_in crossings_in begun noted mark_all settled freed committed_in aborted_in inserted_at inserted_in next_slot appended filled_in new_bits_in records_wanted original_appended setting_appended updated_in deleted_in applies applied newest_of named_in stray_in free_in merged_in releasable released_in blank made_view not_open_in no_scan_in not_given_in open_other held_in gone_in lacks_in earlier_in later_in no_span_in out_of_reach_in open_among_in begin_tests_in read_at_tests_in keeper_borne_in move_tests_in tests_in reply_in stamps_in act_in entries_after view_if entries_if say view_next store_next moved later_zero entries_next stamps_next outcomes_in verdict answer_if stamps_if
execution = tt
