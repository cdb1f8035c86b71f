-- An original holds what was inserted.
use Rattle.reading.proofs.Setting.{setter_original, setter_update}
use Rattle.reading.proofs.setter_at.Goals as goal

pub returns-then-read-eq-ORIGINAL-clause-value : goal.returns-then-read-eq-ORIGINAL-clause-value
returns-then-read-eq-ORIGINAL-clause-value c = search setter_original

pub returns-else-read-eq-ORIGINAL-clause-value : goal.returns-else-read-eq-ORIGINAL-clause-value
returns-else-read-eq-ORIGINAL-clause-value c = search setter_update
