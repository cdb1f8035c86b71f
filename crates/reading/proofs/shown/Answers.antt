-- The word as a number, and the stamp of who set it.
use Rattle.std.proofs.Common.{rules}
use Rattle.model.specs.Reading.{shown_in}
use Rattle.reading.proofs.shown.Goals as goal

pub returns : goal.returns
unfolding shown_in
returns c = search rules
