-- Five words, one after the other.
use Rattle.merging.specs.Steps.{page_put}
use Rattle.merging.proofs.put_page.Goals as goal

pub returns : goal.returns
unfolding page_put
returns c = rw (c.write-5.ensures, c.write-4.ensures, c.write-3.ensures, c.write-2.ensures, c.write.ensures)
