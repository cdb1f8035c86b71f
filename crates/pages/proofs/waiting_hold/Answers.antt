-- If no state is that of a waiting page, every fact of the waiting pages holds; else the three flags tell it.
use Rattle.std.proofs.Common.{arith}
use Rattle.facts.specs.Tests.{waiting_hold}
use Rattle.pages.proofs.Waiting.{none_waiting}
use Rattle.pages.proofs.waiting_hold.Goals as goal

pub returns-then-between_in : goal.returns-then-between_in
returns-then-between_in c = search none_waiting

pub returns : goal.returns
unfolding waiting_hold
returns c = grind arith
