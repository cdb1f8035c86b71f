-- Names for lists of definitions, for a proof's `unfolding` line. Nothing here needs to be believed: a name says nothing, and opens what it lists.
use Rattle.history.specs.History.{row_at, inserted_value, range_of, state_of, keeper_of, is_active, is_committed, committed_by, bit, sets, new_value, ends, records_of, inserted, version_in, last_setting, ended, visible, version_of, shown, read, keeper_read, dated, settings_seen, values_seen, last_of_each, versions, crossings_from, crossings_between, seen_at, seen_by, rows_seen, total, sum_of, last_through, merged_through, cell_through, cell_value, waiting_pages, needed_by, after_release, released_count, new_columns, original_records, update_records, delete_records, not_active, not_running, not_given, no_column, no_range, bad_mask, active_other, held, gone, all_given, lacks_records, earlier, later, no_span, all_active, all_running, out_of_reach, any_active, no_page, outnumber, has_keeper, keeper_borne, begin_tests, read_at_tests, move_tests, tests, reply, filled, with_begun, effect, with_rows, with_tail, with_transactions, with_scans, with_merges, stopped, scan_at, start, outcomes, stamps_after, stamps_if, answer, next, answer_if, next_if, verdict}

-- what a single call unfolds to, but for the scans' finder, by which some proofs rewrite
unfoldable pub definitions : Unit {0}
unfolding row_at inserted_value range_of state_of keeper_of is_active is_committed committed_by bit sets new_value ends records_of inserted version_in last_setting ended visible version_of shown read keeper_read dated settings_seen values_seen last_of_each versions crossings_from crossings_between seen_at seen_by rows_seen total sum_of last_through merged_through cell_through cell_value waiting_pages needed_by after_release released_count new_columns original_records update_records delete_records not_active not_running not_given no_column no_range bad_mask active_other held gone all_given lacks_records earlier later no_span all_active all_running out_of_reach any_active no_page outnumber has_keeper keeper_borne begin_tests read_at_tests move_tests tests reply filled with_begun effect with_rows with_tail with_transactions with_scans with_merges stopped
definitions = tt

-- the same for a whole list of calls
unfoldable pub execution : Unit {0}
unfolding definitions scan_at start outcomes stamps_after stamps_if answer next answer_if next_if verdict
execution = tt
