-- The words of the row are not among the current pages.
use Rattle.std.proofs.Common.{ap}
use Rattle.layout.specs.View.{put, renew}
use Rattle.writing.specs.Steps.{open_put, row_put}
use Rattle.writing.proofs.Steps.{inserted_is}
use Rattle.writing.proofs.insert.Goals as goal

pub put_cells-requires-clause-proper : goal.put_cells-requires-clause-proper
unfolding open_put row_put put renew
put_cells-requires-clause-proper c = (c.requires.proper.0, rw c.put_row.ensures c.requires.proper.1)

pub returns : goal.returns
returns c =
    (c.read.ensures, inserted_is _ _ _ _ c.requires.open_at.0 _ _ _ _ _ _ _ (ap (λ p. p.keeper) c.pending_at.ensures) c.read.ensures c.put_row.ensures c.put_cells.ensures c.write.ensures c.note.ensures)
