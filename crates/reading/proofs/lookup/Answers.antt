-- One lemma for each way through the tests.
use Rattle.rows.proofs.Indices.{row_range}
use Rattle.reading.proofs.Walking.{version_none, version_found, version_merged}
use Rattle.reading.proofs.lookup.Goals as goal

pub returns-in_default-clause-value : goal.returns-in_default-clause-value
returns-in_default-clause-value c = search version_none

pub is_above-requires-clause-g_lt_ranges : goal.is_above-requires-clause-g_lt_ranges
is_above-requires-clause-g_lt_ranges c = search row_range

pub returns-then-is_above-clause-value : goal.returns-then-is_above-clause-value
returns-then-is_above-clause-value c = search version_found

pub returns-else-is_above-clause-value : goal.returns-else-is_above-clause-value
returns-else-is_above-clause-value c = search version_merged
