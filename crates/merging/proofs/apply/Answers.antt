-- One forward pass, turn by turn.
use Rattle.std.proofs.Common.{arith}
use Rattle.merging.proofs.Pass.{applied_none, applied_next, newest_none, newest_next, pass_end}
use Rattle.merging.proofs.apply.Goals as goal

pub loop-i-init : goal.loop-i-init
loop-i-init c = (newest_none _ _ _ _ _ _, applied_none _ _ _ _ _ _)

pub loop-i-preserved : goal.loop-i-preserved
loop-i-preserved c =
    let inv = c.loop-i.invariant in
    let done = c.apply_one-latest.ensures in
    (newest_next _ _ _ _ _ _ _ _ _ _ _ inv.1 inv.0 done.0, applied_next _ _ _ _ _ _ _ _ _ inv.1 done.1)

pub returns : goal.returns
returns c = pass_end _ _ _ _ _ _ _ _ _ _ _ c.loop-i.invariant.1 c.loop-i.invariant.0 (omega arith) (omega arith)
