-- Three words, and those of what is open.
use Rattle.writing.specs.Steps.{row_put}
use Rattle.writing.proofs.put_row.Goals as goal

pub returns : goal.returns
unfolding row_put
returns c = cc
