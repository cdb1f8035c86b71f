-- An abort is the end of an open transaction with no commit.
use Rattle.model.specs.Writing.{aborted_in}
use Rattle.transactions.proofs.abort.Goals as goal

pub returns : goal.returns
unfolding aborted_in
returns c = c.end_open.ensures
