-- The least of the counts so far.
use Rattle.std.proofs.Common.{◌≡◌}
use Rattle.merging.specs.Steps.{least_of}
use Rattle.merging.proofs.least.Given as goal

abbrev pub invariant-loop-count : goal.invariant-loop-count
invariant-loop-count l = l.least ≡ least_of l.fn.counts l.count-index
