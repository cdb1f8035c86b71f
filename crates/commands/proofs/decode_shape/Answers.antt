-- Each measure is the operand that the shape has there.
use Rattle.commands.specs.Commands.{shape_from}
use Rattle.commands.proofs.decode_shape.Goals as goal

pub returns : goal.returns
unfolding shape_from
returns c = rw (c.number.ensures, c.number-2.ensures, c.number-3.ensures, c.number-4.ensures)
