-- The first c columns have their values.
use Rattle.std.proofs.Common.{◌≡◌}
use Rattle.layout.specs.View.{view_of}
use Rattle.model.specs.Preconditions.{shape_in}
use Rattle.writing.specs.Steps.{value_words}
use Rattle.writing.proofs.Steps.{fills_to}
use Rattle.writing.proofs.fill_values.Given as goal

abbrev pub invariant-loop-c : goal.invariant-loop-c
invariant-loop-c l = view_of l.s l.mem ≡ fills_to (shape_in l.s) (value_words l.vs) l.to (view_of l.s l.initial.mem) l.c
