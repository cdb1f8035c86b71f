-- One lemma for each way through the tests.
use Rattle.rows.proofs.Indices.{row_range, row_link}
use Rattle.reading.proofs.Walking.{word_alone, word_found, word_none}
use Rattle.reading.proofs.word_of.Goals as goal

pub returns-then-not-has_bit : goal.returns-then-not-has_bit
returns-then-not-has_bit c = search word_alone

pub walk-requires-clause-g_lt_ranges : goal.walk-requires-clause-g_lt_ranges
walk-requires-clause-g_lt_ranges c = (search row_range, search, search row_link)

pub returns-in_default : goal.returns-in_default
returns-in_default c = search word_none

pub returns : goal.returns
returns c = search word_found
