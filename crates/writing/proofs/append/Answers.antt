-- The record, and then the two words that name it.
use Rattle.writing.proofs.Steps.{appended_is}
use Rattle.writing.proofs.append.Goals as goal

pub returns : goal.returns
returns c = appended_is _ _ _ _ _ _ _ _ _ _ _ _ c.read-used.ensures c.read.ensures c.put_record.ensures c.write.ensures c.write-2.ensures
