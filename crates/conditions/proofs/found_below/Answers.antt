-- What the closure says of i, any test p says of it, and so one below n passes.
use Rattle.std.proofs.Common.{sym}
use Rattle.history.proofs.Lists.{is_true}
use Rattle.model.proofs.Lists.{below_at}
use Rattle.conditions.proofs.found_below.Goals as goal

pub returns-then-passes : goal.returns-then-passes
returns-then-passes g c = λ p h.
    sym (is_true _ (below_at p c.args.n c.loop-i.i c.loop-i-test.true (rw (← h c.loop-i.i c.passes.result c.loop-i-test.true c.passes.ensures, c.if-passes.true) tt)))
