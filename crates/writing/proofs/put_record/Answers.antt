-- Five words, and those of what is open.
use Rattle.writing.specs.Steps.{record_put}
use Rattle.writing.proofs.put_record.Goals as goal

pub returns : goal.returns
unfolding record_put
returns c = rw (c.put_open.ensures, c.write-5.ensures, c.write-4.ensures, c.write-3.ensures, c.write-2.ensures, c.write.ensures)
