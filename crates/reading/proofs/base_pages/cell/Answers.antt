-- One cell of a page.
use Rattle.model.specs.Stored.{cell_in}
use Rattle.reading.proofs.base_pages.cell.Goals as goal

pub returns : goal.returns
unfolding cell_in
returns c = c.read.ensures
