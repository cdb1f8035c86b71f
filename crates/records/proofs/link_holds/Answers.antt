-- A link may be as high as `most`: the test ends there with a record still to be looked up.
use Rattle.std.proofs.Common.{arith}
use Rattle.facts.specs.Facts.{link_holds}
use Rattle.records.proofs.link_holds.Goals as goal

pub returns-else-number-most : goal.returns-else-number-most
unfolding link_holds
returns-else-number-most c = grind arith
