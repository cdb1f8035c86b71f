-- The first c columns are put.
use Rattle.std.proofs.Common.{◌≡◌}
use Rattle.layout.specs.View.{view_of}
use Rattle.model.specs.Preconditions.{shape_in}
use Rattle.writing.proofs.Steps.{cells_to}
use Rattle.writing.proofs.put_cells.Given as goal

abbrev pub invariant-loop-c : goal.invariant-loop-c
invariant-loop-c l = view_of l.s l.mem ≡ cells_to (shape_in l.s) l.g l.i l.vs (view_of l.s l.initial.mem) l.c
