-- The keeper of the record that the walk found, or of the row.
use Rattle.reading.proofs.Keepers.{keeper_none, keeper_found}
use Rattle.reading.proofs.keeper_word.Goals as goal

pub returns-in_default : goal.returns-in_default
returns-in_default c = search keeper_none

pub returns : goal.returns
returns c = search keeper_found
