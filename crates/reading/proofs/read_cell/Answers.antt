-- What the version shows, if the row is there.
use Rattle.model.specs.Reading.{read_in}
use Rattle.reading.proofs.read_cell.Goals as goal

pub returns-then-visible : goal.returns-then-visible
unfolding read_in
returns-then-visible c = rw (← c.visible.ensures, c.if-visible.true, c.shown.ensures, c.lookup.ensures.value)

pub returns-else-visible : goal.returns-else-visible
unfolding read_in
returns-else-visible c = rw (← c.visible.ensures, c.if-visible.false)
