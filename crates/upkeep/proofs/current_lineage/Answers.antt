-- The word read is that of the page that was read before.
use Rattle.model.specs.Stored.{page_in, current_in}
use Rattle.upkeep.proofs.current_lineage.Goals as goal

pub returns : goal.returns
unfolding page_in current_in
returns c = rw (c.read.ensures, c.read-page.ensures)
