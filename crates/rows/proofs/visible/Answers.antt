-- One lemma for each way through the tests.
use Rattle.rows.proofs.Cases.{unseen_row, row_alone, row_kept, row_deleted}
use Rattle.rows.proofs.visible.Goals as goal

pub returns-then-not-sees_row : goal.returns-then-not-sees_row
returns-then-not-sees_row c = search unseen_row

pub returns-in_default : goal.returns-in_default
returns-in_default c = search row_alone

pub returns-then-read-lt-DELETE : goal.returns-then-read-lt-DELETE
returns-then-read-lt-DELETE c = search row_kept

pub returns-else-read-lt-DELETE : goal.returns-else-read-lt-DELETE
returns-else-read-lt-DELETE c = search row_deleted
