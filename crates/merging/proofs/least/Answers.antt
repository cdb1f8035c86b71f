-- The least so far, turn by turn.
use Rattle.std.proofs.Common.{ℕ, ◌<◌, min, ap, ◌∙◌, arith, length-take}
use Rattle.std.proofs.lemmas.List.{get_or-take}
use Rattle.merging.proofs.Freeing.{least_none, least_next, least_end}
use Rattle.merging.proofs.least.Goals as goal

pub loop-count-init : goal.loop-count-init
loop-count-init c = least_none _

pub loop-count-preserved : goal.loop-count-preserved
loop-count-preserved c =
    let below : c.loop-count.count-index < c.args.n = omega (arith, length-take {A = ℕ}) in
    least_next _ _ _ _ c.loop-count.invariant (c.min-least.ensures ∙ ap (min c.loop-count.least) (get_or-take c.args.n c.args.counts c.loop-count.count-index 0 below))

pub returns : goal.returns
returns c = least_end _ _ _ _ c.loop-count.invariant (omega (arith, length-take {A = ℕ})) (omega (arith, length-take {A = ℕ}))
