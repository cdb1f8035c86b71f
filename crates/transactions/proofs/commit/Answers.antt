-- The end of an open transaction, and then the store's stamp and count of commits.
use Rattle.model.specs.Writing.{committed_in}
use Rattle.transactions.proofs.commit.Goals as goal

pub returns : goal.returns
unfolding committed_in
returns c =
    λ t o. rw (c.write-2.ensures, c.write.ensures, c.end_open.ensures t o, c.next_word-ordinal.ensures, c.read.ensures)
