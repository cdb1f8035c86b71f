-- No list has a table of more entries than it has room for.
use Rattle.std.proofs.Common.{arith}
use Rattle.promise.specs.Promise.{ServesBy}
use Rattle.upkeep.proofs.Tests.{table_few}
use Rattle.upkeep.proofs.release.Goals as goal

pub returns-then-scans-gt-MOST_SCANS : goal.returns-then-scans-gt-MOST_SCANS
unfolding ServesBy
returns-then-scans-gt-MOST_SCANS c = λ ps q. absurd (omega (arith, table_few _ ps q, c.if-scans-gt-MOST_SCANS.true))
