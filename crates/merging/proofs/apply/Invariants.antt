-- The first i records are applied, and their stamps count.
use Rattle.std.proofs.Common.{◌≡◌}
use Rattle.layout.specs.View.{view_of}
use Rattle.model.specs.Preconditions.{shape_in}
use Rattle.model.specs.Writing.{newest_of}
use Rattle.merging.specs.Steps.{applied_all}
use Rattle.merging.proofs.apply.Given as goal

abbrev pub invariant-loop-i : goal.invariant-loop-i
invariant-loop-i l =
    let v = view_of l.s l.initial.mem in
    (l.latest.0 ≡ newest_of (shape_in l.s) v l.g l.c l.fn.low.0 l.i l.fn.newest.0)
    × (view_of l.s l.mem ≡ applied_all (shape_in l.s) l.g l.c l.page l.fn.low.0 l.i v)
