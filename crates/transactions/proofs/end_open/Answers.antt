-- `transactions::end_open` meets its contract: the number that the record hands back is that of the transaction open at the index.
use mathlib.Core.Path.{◌≡◌}
use Rattle.layout.specs.View.{view_of, renew}
use Rattle.model.specs.Preconditions.{shape_in}
use Rattle.model.specs.Stored.{open_index}
use Rattle.model.specs.Writing.{mark_all, settled, freed}
use Rattle.transactions.specs.Pending.{pending_put}
use Rattle.transactions.specs.Steps.{commit_at}
use Rattle.transactions.proofs.Number.{number_there}
use Rattle.transactions.proofs.end_open.Goals as goal

pub returns : goal.returns
unfolding freed mark_all settled open_index renew pending_put
returns c =
    λ t o.
    let number : c.hand_back-t.result.0 ≡ t = rw (c.hand_back-t.ensures, c.pending_at.ensures) (number_there _ _ t _ c.requires.suffices o) in
    let done : view_of c.args.s c.settle.new.mem ≡ settled (shape_in c.args.s) t c.args.state (commit_at c.args.stamp.0 c.args.ordinal) (view_of c.args.s c.args.mem.now) =
    rw (← number) c.settle.ensures in
    rw (c.put_pending.ensures, c.free_record.ensures, done, o.found)
