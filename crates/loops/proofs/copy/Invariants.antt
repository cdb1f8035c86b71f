-- The words are those of the first i turns.
use Rattle.std.proofs.Common.{◌≡◌}
use Rattle.words.specs.Words.{words}
use Rattle.loops.specs.Change.{copied}
use Rattle.loops.proofs.copy.Given as goal

abbrev pub invariant-loop-i : goal.invariant-loop-i
invariant-loop-i l = words l.mem ≡ copied (words l.initial.mem) l.from l.i l.to (words l.initial.mem)
