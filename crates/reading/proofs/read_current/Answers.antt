-- The read on the current page.
use Rattle.model.specs.Reading.{read_current}
use Rattle.rows.proofs.Indices.{row_range}
use Rattle.reading.proofs.read_current.Goals as goal

pub current_page-page-requires-clause-g_lt_ranges : goal.current_page-page-requires-clause-g_lt_ranges
current_page-page-requires-clause-g_lt_ranges c = (search row_range, search)

pub returns : goal.returns
unfolding read_current
returns c = rw (c.read_cell.ensures, c.current_page-page.ensures.0, c.range_of.ensures)
