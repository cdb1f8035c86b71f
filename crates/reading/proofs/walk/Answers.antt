-- A turn either answers, stops, or goes on from a lower record.
use Rattle.std.proofs.Common.{◌<◌, refl, arith}
use Rattle.reading.proofs.Walking.{walk_stop, walk_hit, link_lower, walk_on}
use Rattle.reading.proofs.walk.Goals as goal

pub loop-k-init : goal.loop-k-init
loop-k-init c = (omega arith, refl)

pub returns-then-answers_for-clause-value : goal.returns-then-answers_for-clause-value
returns-then-answers_for-clause-value c = search walk_hit

pub loop-k-smaller : goal.loop-k-smaller
loop-k-smaller c = search link_lower

pub loop-k-preserved : goal.loop-k-preserved
loop-k-preserved c =
    let lower : c.read-k.result < c.loop-k.k = search link_lower in
    (omega arith, search walk_on)

pub returns-clause-value : goal.returns-clause-value
returns-clause-value c = search walk_stop
