-- `replay::run_once` ends: the measure is what is left of the commands.
use Rattle.std.proofs.Common.{◌-◌, ◌≤◌, length}
use Rattle.replay.proofs.run_once.Given as goal

abbrev pub invariant-loop-course : goal.invariant-loop-course
invariant-loop-course g l = l.at ≤ length l.bytes

abbrev pub decreases-loop-course : goal.decreases-loop-course
decreases-loop-course g l = length l.bytes - l.at
