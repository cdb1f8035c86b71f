-- One record, and then the note.
use Rattle.std.proofs.Common.{ap}
use Rattle.history.specs.History.{range_of}
use Rattle.writing.proofs.Steps.{deleted_is}
use Rattle.writing.proofs.delete.Goals as goal

pub returns : goal.returns
unfolding range_of
returns c =
    (rw c.read-used.ensures, deleted_is _ _ _ _ c.requires.open_at.0 _ _ _ _ (ap (λ p. p.keeper) c.pending_at.ensures) c.append.ensures c.note.ensures)
