-- The walk from record k on ends where the whole walk does.
use Rattle.std.proofs.Common.{◌≡◌, ◌≤◌}
use Rattle.layout.specs.View.{view_of}
use Rattle.model.specs.Preconditions.{shape_in}
use Rattle.model.specs.Reading.{walk}
use Rattle.reading.proofs.walk.Given as goal

abbrev pub invariant-loop-k : goal.invariant-loop-k
invariant-loop-k l =
    let v = view_of l.s l.mem in
    (l.k ≤ l.fn.from.0) × (walk (shape_in l.s) v l.who l.g l.c l.low.0 l.fn.from.0 l.fn.from.0 ≡ walk (shape_in l.s) v l.who l.g l.c l.low.0 l.k l.k)

abbrev pub decreases-loop-k : goal.decreases-loop-k
decreases-loop-k l = l.k
