-- The keeper, if the row is there.
use Rattle.model.specs.Reading.{keeper_in}
use Rattle.reading.proofs.read_keeper.Goals as goal

pub returns-then-visible : goal.returns-then-visible
unfolding keeper_in
returns-then-visible c = rw (← c.visible.ensures, c.if-visible.true, c.keeper_word.ensures)

pub returns-else-visible : goal.returns-else-visible
unfolding keeper_in
returns-else-visible c = rw (← c.visible.ensures, c.if-visible.false)
