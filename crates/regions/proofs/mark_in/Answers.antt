-- `regions::mark_in`: two regions lie apart, and so do one stretch of each.
use Rattle.layout.proofs.View.{stretches_apart}
use Rattle.regions.proofs.mark_in.Goals as goal

pub mark-requires-clause-fact : goal.mark-requires-clause-fact
mark-requires-clause-fact c =
    let h = c.requires.n_bound in
    rw (c.base-2.ensures, c.base.ensures) (stretches_apart _ _ _ _ _ h.0 h.1 h.2)
