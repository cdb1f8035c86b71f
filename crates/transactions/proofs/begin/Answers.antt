-- The record, and then the count of the numbers that were given.
use Rattle.std.proofs.Common.{refl}
use Rattle.model.specs.Writing.{begun}
use Rattle.transactions.specs.Pending.{pending_put}
use Rattle.transactions.proofs.begin.Goals as goal

pub returns : goal.returns
unfolding begun pending_put
returns c =
    rw (c.write.ensures, c.put_pending.ensures, c.begin.ensures, c.read.ensures, ← c.requires.free_at.first) (refl, refl)
