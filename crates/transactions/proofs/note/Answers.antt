-- The changes of the entry, one more.
use Rattle.transactions.specs.Steps.{noted_at}
use Rattle.transactions.proofs.note.Goals as goal

pub returns : goal.returns
unfolding noted_at
returns c = rw (c.write.ensures, c.note-p.ensures, c.pending_at.ensures)
