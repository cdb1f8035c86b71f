-- The operands and the values are those of the definition.
use borrow.Author.Rules.{part_to_end}
use Rattle.commands.specs.Commands.{call_from}
use Rattle.commands.proofs.decode.Goals as goal

pub returns : goal.returns
unfolding call_from
returns c =
    let values = rw (part_to_end, c.total-values_at.ensures.0) at c.values.ensures.0 in
    (rw (c.operands.ensures, values, c.value_count-count.ensures.0), c.values.ensures.1)
