-- The records, the mask, and then the note.
use Rattle.std.proofs.Common.{ap}
use Rattle.history.specs.History.{range_of}
use Rattle.writing.proofs.Steps.{updated_is}
use Rattle.writing.proofs.update.Goals as goal

pub returns : goal.returns
unfolding range_of
returns c =
    (rw (c.records_wanted.ensures, c.read-used.ensures), updated_is _ _ _ _ c.requires.open_at.0 _ _ _ _ _ _ _ _ (ap (λ p. p.keeper) c.pending_at.ensures) c.read-old.ensures c.append_records.ensures c.write.ensures c.note.ensures)
