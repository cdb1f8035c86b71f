-- The records before number k tell nothing.
use Rattle.layout.specs.View.{view_of}
use Rattle.model.specs.Preconditions.{shape_in}
use Rattle.crossing.specs.Steps.{NoneTold}
use Rattle.crossing.proofs.next_of_row.Given as goal

abbrev pub invariant-loop-k : goal.invariant-loop-k
invariant-loop-k l = NoneTold (shape_in l.s) (view_of l.s l.mem) l.row.0 l.i l.k
