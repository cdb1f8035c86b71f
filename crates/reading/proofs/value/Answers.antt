-- One word of a record's values.
use Rattle.model.specs.Stored.{value_in}
use Rattle.reading.proofs.value.Goals as goal

pub returns : goal.returns
unfolding value_in
returns c = c.read.ensures
