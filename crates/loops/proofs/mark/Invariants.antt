-- The words are those of the first i turns.
use Rattle.std.proofs.Common.{◌≡◌}
use Rattle.words.specs.Words.{words}
use Rattle.loops.specs.Change.{marked}
use Rattle.loops.proofs.mark.Given as goal

abbrev pub invariant-loop-i : goal.invariant-loop-i
invariant-loop-i l = words l.mem ≡ marked (words l.initial.mem) l.keys l.i l.key l.to l.v (words l.initial.mem)
