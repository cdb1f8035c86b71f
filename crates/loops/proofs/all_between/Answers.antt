-- A flag that was carried is kept by one more word, tested between bounds that were turned.
use Rattle.std.proofs.Common.{arith}
use Rattle.loops.proofs.Search.{none_between, flag_next, between_back}
use Rattle.loops.proofs.all_between.Goals as goal

pub returns-then-high-low : goal.returns-then-high-low
returns-then-high-low c = none_between _ _ _ _ _ c.if-high-low.true c.requires

pub loop-i-preserved : goal.loop-i-preserved
loop-i-preserved c =
    let r = between_back _ _ _ _ _ c.loop-i.ok _ c.flip_sign-first.ensures c.flip_sign-span.ensures (omega arith) (omega arith) c.and_within-ok.ensures in
    flag_next _ _ _ _ c.loop-i.ok _ c.loop-i.i _ _ _ c.loop-i.invariant c.get.ensures r c.requires (omega arith)
