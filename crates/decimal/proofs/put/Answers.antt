-- What `put` leaves is the part written over, between what stands before and behind it.
use Rattle.std.proofs.Common.{refl, arith}
use Rattle.decimal.proofs.Pieces.{part_written}
use Rattle.decimal.proofs.put.Goals as goal

pub returns : goal.returns
returns c = record { bytes = rw (c.copy_from_slice.ensures.after) (part_written _ _ c.args.at (omega arith)); ends = refl }
