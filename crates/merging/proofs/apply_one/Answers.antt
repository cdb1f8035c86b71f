-- The record applies or not.
use Rattle.merging.proofs.Pass.{one_applied, one_skipped}
use Rattle.merging.proofs.apply_one.Goals as goal

pub returns-then-is_applied : goal.returns-then-is_applied
returns-then-is_applied c =
    one_applied _ _ _ _ _ _ _ c.is_applied.ensures _ _ _ _ _ c.if-is_applied.true c.read.ensures c.read-then-is_applied.ensures c.read-w.ensures c.later_stamp.ensures c.write.ensures

pub returns : goal.returns
returns c = one_skipped _ _ _ _ _ _ _ c.is_applied.ensures c.if-is_applied.false
