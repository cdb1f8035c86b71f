-- A byte that is chosen has narrow operands.
use Rattle.std.proofs.Common.{sym}
use Rattle.commands.proofs.Table.{chosen_narrow}
use Rattle.turns.specs.Turns.{operand_width}
use Rattle.turns.proofs.operand_width.Goals as goal

pub width-requires : goal.width-requires
width-requires c = (chosen_narrow _ _ (sym c.in-Ok.ensures), c.capped.ensures.1)

pub returns-in-Ok : goal.returns-in-Ok
unfolding operand_width
returns-in-Ok c = (rw (sym c.in-Ok.ensures, ← c.capped.ensures.0) c.width.ensures.0, c.width.ensures.1)
