-- One stamp more is one field more.
use Rattle.std.proofs.Common.{refl, arith}
use Rattle.decimal.proofs.Pieces.{joined}
use Rattle.lines.specs.Lines.{fields}
use Rattle.lines.proofs.Pieces.{fields_next}
use Rattle.lines.proofs.put_stamps.Goals as goal

pub loop-stamp-init : goal.loop-stamp-init
unfolding fields
loop-stamp-init c = (record { bytes = refl; ends = omega arith }, omega arith)

pub loop-stamp-preserved : goal.loop-stamp-preserved
loop-stamp-preserved c =
    (rw (fields_next c.args.stamps.now c.loop-stamp.stamp-index (omega arith)) at (joined c.loop-stamp.invariant.0 c.put_natural-next.ensures.0), omega arith)
