-- The flag, with the answer for what is left of the region, is the answer for all of it.
use Rattle.std.proofs.Common.{◌≡◌, ◌&&◌}
use Rattle.words.specs.Words.{words}
use Rattle.loops.specs.Search.{region, all_between}
use Rattle.loops.proofs.Search.{rest}
use Rattle.loops.proofs.all_between.Given as goal

abbrev pub invariant-loop-i : goal.invariant-loop-i
invariant-loop-i l = all_between l.low l.high (region (words l.mem) l.at l.n) ≡ (l.ok && all_between l.low l.high (rest l.mem l.at l.n l.i))
