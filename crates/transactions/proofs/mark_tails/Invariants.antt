-- The marks of the first g ranges are made.
use Rattle.std.proofs.Common.{◌≡◌}
use Rattle.layout.specs.View.{view_of}
use Rattle.model.specs.Preconditions.{shape_in}
use Rattle.transactions.proofs.Tails.{marks_to}
use Rattle.transactions.proofs.mark_tails.Given as goal

abbrev pub invariant-loop-g : goal.invariant-loop-g
invariant-loop-g l = view_of l.s l.mem ≡ marks_to (shape_in l.s) l.t.0 l.k l.w (view_of l.s l.initial.mem) l.g
