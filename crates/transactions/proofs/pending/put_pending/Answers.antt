-- Three words of the record.
use Rattle.transactions.specs.Pending.{pending_put}
use Rattle.transactions.proofs.pending.put_pending.Goals as goal

pub returns : goal.returns
unfolding pending_put
returns c = cc
