-- `replay::run_all` ends: the measure is what is left of the pack.
use Rattle.std.proofs.Common.{◌-◌, ◌≤◌, length}
use Rattle.replay.proofs.run_all.Given as goal

abbrev pub invariant-loop-pack : goal.invariant-loop-pack
invariant-loop-pack g l = l.at ≤ length l.pack

abbrev pub decreases-loop-pack : goal.decreases-loop-pack
decreases-loop-pack g l = length l.pack - l.at
