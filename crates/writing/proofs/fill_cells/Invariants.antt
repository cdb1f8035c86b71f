-- The first c columns are copied.
use Rattle.std.proofs.Common.{◌≡◌}
use Rattle.layout.specs.View.{view_of}
use Rattle.model.specs.Preconditions.{shape_in}
use Rattle.writing.specs.Steps.{cell_words}
use Rattle.writing.proofs.Steps.{fills_to}
use Rattle.writing.proofs.fill_cells.Given as goal

abbrev pub invariant-loop-c : goal.invariant-loop-c
invariant-loop-c l =
    let v = view_of l.s l.initial.mem in
    view_of l.s l.mem ≡ fills_to (shape_in l.s) (cell_words (shape_in l.s) v l.g l.i) l.to v l.c
