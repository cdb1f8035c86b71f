-- The record, word by word.
use Rattle.rows.proofs.Cases.{record_sees}
use Rattle.rows.proofs.sees_record.Goals as goal

pub returns : goal.returns
returns c = search record_sees
