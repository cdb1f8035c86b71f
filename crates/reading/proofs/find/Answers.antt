-- A row whose mask has the column is walked.
use Rattle.rows.proofs.Indices.{row_range, row_link}
use Rattle.reading.proofs.Walking.{found_unset, found_set}
use Rattle.reading.proofs.find.Goals as goal

pub returns-then-not-has_bit-clause-value : goal.returns-then-not-has_bit-clause-value
returns-then-not-has_bit-clause-value c = search found_unset

pub walk-requires-clause-g_lt_ranges : goal.walk-requires-clause-g_lt_ranges
walk-requires-clause-g_lt_ranges c = (search row_range, search, search row_link)

pub returns-clause-value : goal.returns-clause-value
returns-clause-value c = search found_set
