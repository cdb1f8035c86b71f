-- Four words, one after the other.
use Rattle.writing.specs.Steps.{open_put}
use Rattle.writing.proofs.put_open.Goals as goal

pub returns : goal.returns
unfolding open_put
returns c = rw (c.write_later.ensures, c.write-3.ensures, c.write-2.ensures, c.write.ensures)
