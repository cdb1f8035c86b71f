-- The flag, with the answer for what is left of the numbers, is the answer for all of them.
use Rattle.std.proofs.Common.{◌≡◌, ◌&&◌, drop}
use Rattle.loops.specs.Search.{all_between}
use Rattle.scans.proofs.at_most.Given as goal

abbrev pub invariant-loop-n : goal.invariant-loop-n
invariant-loop-n l = all_between 0 l.bound l.n-items ≡ (l.ok && all_between 0 l.bound (drop l.n-index l.n-items))
