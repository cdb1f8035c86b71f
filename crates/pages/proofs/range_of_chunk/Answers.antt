-- The inverse is that of the columns: it divides each chunk exactly.
use Rattle.pages.proofs.Inverse.{exact}
use Rattle.pages.proofs.range_of_chunk.Goals as goal

pub returns : goal.returns
returns c k h l e = rw e (exact k c.args.chunk h l c.requires.0)
