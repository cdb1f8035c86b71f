-- The stamp, or 0.
use Rattle.reading.proofs.Setting.{stamp_committed, stamp_pending}
use Rattle.reading.proofs.commit_stamp.Goals as goal

pub returns-then-state-eq-COMMITTED : goal.returns-then-state-eq-COMMITTED
returns-then-state-eq-COMMITTED c = search stamp_committed

pub returns-else-state-eq-COMMITTED : goal.returns-else-state-eq-COMMITTED
returns-else-state-eq-COMMITTED c = search stamp_pending
