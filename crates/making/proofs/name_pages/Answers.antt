-- Three stretches, one after the other.
use Rattle.making.specs.Made.{named_view}
use Rattle.making.proofs.name_pages.Goals as goal

pub returns : goal.returns
unfolding named_view
returns c = cc
