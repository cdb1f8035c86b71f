-- The lineage, or all records.
use Rattle.reading.proofs.Walking.{down_lineage, down_all}
use Rattle.reading.proofs.down_to.Goals as goal

pub returns-then-read-who : goal.returns-then-read-who
returns-then-read-who c = search down_lineage

pub returns-else-read-who : goal.returns-else-read-who
returns-else-read-who c = search down_all
