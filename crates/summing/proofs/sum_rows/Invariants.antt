-- Before a range the rows of those before it are tallied, and on its page the rows before the next one.
use Rattle.std.proofs.Common.{◌*◌, min}
use Rattle.layout.specs.View.{view_of}
use Rattle.model.specs.Preconditions.{shape_in}
use Rattle.summing.specs.Sums.{Tallied}
use Rattle.summing.proofs.sum_rows.Given as goal

abbrev pub invariant-loop-g : goal.invariant-loop-g
invariant-loop-g l = Tallied (shape_in l.s) (view_of l.s l.mem) l.scan l.c (min (l.g * 64) l.given) l.sum

abbrev pub invariant-loop-row : goal.invariant-loop-row
invariant-loop-row l = Tallied (shape_in l.s) (view_of l.s l.mem) l.scan l.c l.row l.sum
