-- A turn sums one width more.
use Rattle.std.proofs.Common.{add-one, arith}
use Rattle.commands.proofs.Bytes.{narrow_at, total_next}
use Rattle.commands.proofs.total.Goals as goal

pub loop-width-preserved : goal.loop-width-preserved
loop-width-preserved c =
    let ws = c.args.format.widths in
    let i = c.loop-width.width-index in
    (rw add-one (omega (arith, total_next ws i (omega arith))), omega (arith, narrow_at ws i c.requires))
