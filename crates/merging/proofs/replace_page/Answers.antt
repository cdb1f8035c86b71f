-- Four words, one after the other.
use Rattle.merging.specs.Steps.{page_replaced}
use Rattle.merging.proofs.replace_page.Goals as goal

pub returns : goal.returns
unfolding page_replaced
returns c = cc
