-- A range with no used record has none to mark.
use Rattle.layout.proofs.Renewed.{mark_none}
use Rattle.transactions.specs.Steps.{tail_marked}
use Rattle.transactions.proofs.mark_tail.Goals as goal

pub returns-then-used-eq0 : goal.returns-then-used-eq0
unfolding tail_marked
returns-then-used-eq0 c = rw (← c.read-used.ensures, c.if-used-eq0.true) (mark_none _ _ _ _ _ _)

pub returns : goal.returns
unfolding tail_marked
returns c = cc
