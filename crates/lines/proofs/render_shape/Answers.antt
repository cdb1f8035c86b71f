-- The pieces that are written are those of the line.
use Rattle.std.proofs.Common.{arith}
use Rattle.decimal.proofs.Pieces.{joined}
use Rattle.lines.specs.Lines.{shape_line}
use Rattle.lines.proofs.Pieces.{rendered}
use Rattle.lines.proofs.render_shape.Goals as goal

pub returns : goal.returns
unfolding shape_line
returns c = rendered (joined c.put-start.ensures (joined c.put_outcome-end.ensures.0 c.put.ensures)) (omega arith)
