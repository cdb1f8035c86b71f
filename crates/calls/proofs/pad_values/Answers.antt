-- The values lent stand before the zeros.
use Rattle.calls.proofs.Values.{padded_is}
use Rattle.calls.proofs.pad_values.Goals as goal

pub returns : goal.returns
returns c = rw c.copy_from_slice.ensures.after (padded_is _ _ c.min-n.ensures)
