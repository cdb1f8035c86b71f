-- `crossing::list_crossings` meets its contract.
use Rattle.crossing.proofs.Standing.{too_many, all_listed}
use Rattle.crossing.proofs.list_crossings.Goals as goal

pub returns-then-n-stamps : goal.returns-then-n-stamps
returns-then-n-stamps c = too_many _ _ _ _ c.list_first-n.ensures.lists c.if-n-stamps.true

pub returns : goal.returns
returns c = all_listed _ _ _ _ c.list_first-n.ensures.lists _ _ c.if-n-stamps.false c.list_first.ensures.lists
