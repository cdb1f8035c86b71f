-- What is left of the region has the whole region's answer.
use Rattle.std.proofs.Common.{◌≡◌}
use Rattle.words.specs.Words.{words}
use Rattle.loops.specs.Search.{region, first_at}
use Rattle.loops.proofs.Search.{rest}
use Rattle.loops.proofs.find.Given as goal

abbrev pub invariant-loop-i : goal.invariant-loop-i
invariant-loop-i l = first_at l.key 0 (region (words l.mem) l.at l.n) ≡ first_at l.key l.i (rest l.mem l.at l.n l.i)
