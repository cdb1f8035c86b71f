-- One lemma for each way through the tests.
use Rattle.rows.proofs.Cases.{sees_committed, sees_ended, sees_other, sees_own}
use Rattle.rows.proofs.sees.Goals as goal
use Rattle.rows.proofs.sees.Goals.{then-state-ne-OPEN-via-then-state-ne-OPEN, then-state-ne-OPEN-via-else-state-ne-OPEN+then-transaction-who}

pub returns-then-state-eq-COMMITTED : goal.returns-then-state-eq-COMMITTED
returns-then-state-eq-COMMITTED c = search sees_committed

pub returns-then-state-ne-OPEN : goal.returns-then-state-ne-OPEN
returns-then-state-ne-OPEN c =
    elim c.then-state-ne-OPEN.branch [
      | then-state-ne-OPEN-via-then-state-ne-OPEN w ↦ search sees_ended
      | then-state-ne-OPEN-via-else-state-ne-OPEN+then-transaction-who w ↦ search sees_other
    ]

pub returns : goal.returns
returns c = search sees_own
