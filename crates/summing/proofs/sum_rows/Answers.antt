-- `summing::sum_rows` meets its contract.
use Rattle.std.proofs.Common.{◌≡◌, ◌*◌, arith, rules, min}
use Rattle.summing.proofs.Sums.{range_is, none_tallied, sum_is}
use Rattle.summing.proofs.sum_rows.Goals as goal

pub loop-g-init : goal.loop-g-init
loop-g-init c = let none : min 0 c.read-given.result ≡ 0 = omega arith in rw none (none_tallied _ _ _ _)

pub add_row-sum-requires-clause-page_value : goal.add_row-sum-requires-clause-page_value
add_row-sum-requires-clause-page_value c = rw (range_is c.loop-g.g c.loop-row.row (omega arith) (omega arith)) c.scan_page-page.ensures.0

pub returns : goal.returns
returns c =
    let all : min (c.loop-g.g * 64) c.read-given.result ≡ c.read-given.result = omega arith in
    sum_is _ _ _ _ c.loop-g.sum (search rules) (rw (all, c.read-given.ensures) at c.loop-g.invariant)
