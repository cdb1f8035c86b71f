-- The commands so far are answered, and each takes at least one byte.
use Rattle.std.proofs.Common.{◌-◌, length}
use Rattle.turns.specs.Turns.{store_in}
use Rattle.rounds.proofs.Going.{Going}
use Rattle.rounds.proofs.answer_commands.Given as goal

abbrev pub invariant-loop-p : goal.invariant-loop-p
invariant-loop-p l = Going l.last l.initial.p l.p (store_in l.initial.mem l.initial.scans) (store_in l.mem l.scans) l.bytes l.initial.lines l.lines

abbrev pub decreases-loop-p : goal.decreases-loop-p
decreases-loop-p l = length l.bytes - l.p.taken
