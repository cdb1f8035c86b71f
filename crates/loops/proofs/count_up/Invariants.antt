-- The words are those of the first i turns.
use Rattle.std.proofs.Common.{◌≡◌}
use Rattle.words.specs.Words.{words}
use Rattle.loops.specs.Change.{numbered}
use Rattle.loops.proofs.count_up.Given as goal

abbrev pub invariant-loop-i : goal.invariant-loop-i
invariant-loop-i l = words l.mem ≡ numbered l.at l.i (words l.initial.mem)
