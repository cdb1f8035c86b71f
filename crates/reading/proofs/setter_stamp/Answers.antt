-- The words of the row or of the record.
use Rattle.reading.proofs.Setting.{insert_stamp, update_stamp}
use Rattle.reading.proofs.setter_stamp.Goals as goal

pub returns-in-Insert : goal.returns-in-Insert
returns-in-Insert c = search insert_stamp

pub returns-in-Update : goal.returns-in-Update
returns-in-Update c = search update_stamp
