-- One bit of a mask.
use lib.Bits.{and_mask}
use Rattle.history.specs.History.{bit}
use Rattle.rows.proofs.has_bit.Goals as goal

pub returns : goal.returns
unfolding bit
returns c = rw (and_mask _ 1)
