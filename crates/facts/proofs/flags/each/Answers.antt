-- The flag after one more turn is that of one more number.
use Rattle.std.proofs.Common.{◌∙◌, refl, add-one}
use Rattle.facts.specs.Facts.{each}
use Rattle.facts.proofs.flags.each.Goals as goal

pub loop-i-init : goal.loop-i-init
unfolding each
loop-i-init g c p h = refl

pub loop-i-preserved : goal.loop-i-preserved
unfolding each
loop-i-preserved g c p h =
    c.both-ok.ensures ∙ rw (add-one, c.loop-i.invariant p h, h _ _ c.loop-i-test.true c.holds.ensures)
