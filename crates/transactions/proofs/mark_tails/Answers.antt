-- A turn reads the count of its range as it was, since the marks lie in another region.
use Rattle.std.proofs.Common.{sym, arith}
use Rattle.model.specs.Preconditions.{shape_in}
use Rattle.transactions.proofs.Tails.{marks_none, marks_used, marks_next, marks_all}
use Rattle.transactions.proofs.mark_tails.Goals as goal

pub loop-g-init : goal.loop-g-init
loop-g-init c = marks_none _ _ _ _ _

pub mark_tail-requires-clause-g_lt_ranges : goal.mark_tail-requires-clause-g_lt_ranges
mark_tail-requires-clause-g_lt_ranges c =
    let g = c.loop-g.g in
    let a = c.args in
    (omega arith, omega (arith, marks_used (shape_in a.s) a.t.0 a.k a.w _ _ g g c.requires.k_value.2 c.loop-g.invariant, c.requires.counted.records_used g (omega arith)))

pub loop-g-preserved : goal.loop-g-preserved
loop-g-preserved c =
    let k = c.requires.k_value in
    marks_next _ _ _ _ _ _ _ _ (λ e. k.1 (sym e)) k.2 c.loop-g.invariant c.mark_tail.ensures

pub returns : goal.returns
returns c = search marks_all
