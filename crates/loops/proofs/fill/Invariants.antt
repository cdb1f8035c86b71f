-- The words are those of the first i turns.
use Rattle.std.proofs.Common.{◌≡◌}
use Rattle.words.specs.Words.{words}
use Rattle.loops.specs.Change.{filled}
use Rattle.loops.proofs.fill.Given as goal

abbrev pub invariant-loop-i : goal.invariant-loop-i
invariant-loop-i l = words l.mem ≡ filled l.at l.i l.v (words l.initial.mem)
