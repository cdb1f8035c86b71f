-- The first p pages are freed and counted.
use Rattle.std.proofs.Common.{◌≡◌}
use Rattle.layout.specs.View.{view_of}
use Rattle.model.specs.Stored.{count_below}
use Rattle.merging.specs.Steps.{freeable, freeables_freed}
use Rattle.merging.proofs.free_pages.Given as goal

abbrev pub invariant-loop-p : goal.invariant-loop-p
invariant-loop-p l =
    let v = view_of l.s l.initial.mem in
    (l.n ≡ count_below (freeable l.least v) l.p) × (view_of l.s l.mem ≡ freeables_freed l.least l.p v)
