-- The words are those of the first i turns.
use Rattle.std.proofs.Common.{◌≡◌}
use Rattle.words.specs.Words.{words}
use Rattle.loops.specs.Change.{copied}
use Rattle.loops.proofs.copy_from.Given as goal

abbrev pub invariant-loop-i : goal.invariant-loop-i
invariant-loop-i l = words l.to ≡ copied (words l.from) 0 l.i 0 (words l.initial.to)
