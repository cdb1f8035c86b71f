-- The division that the definition has.
use Rattle.std.proofs.Common.{refl}
use Rattle.history.specs.History.{range_of}
use Rattle.rows.proofs.range_of.Goals as goal

pub returns : goal.returns
unfolding range_of
returns c = refl
