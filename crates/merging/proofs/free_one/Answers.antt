-- Both flags are computed, as the definition has them.
use Rattle.merging.specs.Steps.{freeable}
use Rattle.merging.proofs.free_one.Goals as goal

pub returns : goal.returns
unfolding freeable
returns c = (cc, cc)
