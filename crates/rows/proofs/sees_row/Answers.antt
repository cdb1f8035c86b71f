-- The row, word by word.
use Rattle.rows.proofs.Cases.{row_sees}
use Rattle.rows.proofs.sees_row.Goals as goal

pub returns : goal.returns
returns c = search row_sees
