-- A byte that is chosen has narrow operands, and one that is refused gives the refusal.
use Rattle.std.proofs.Common.{sym}
use Rattle.commands.proofs.Table.{chosen_narrow}
use Rattle.output.specs.Steps.{outcome_to, state_after}
use Rattle.turns.specs.Turns.{Does}
use Rattle.turns.proofs.answer_to_command.Goals as goal

pub answer_to_known-requires : goal.answer_to_known-requires
answer_to_known-requires c = (chosen_narrow _ _ (sym c.in-Ok.ensures), c.capped.ensures.1)

pub returns-in-Err : goal.returns-in-Err
unfolding Does outcome_to state_after
returns-in-Err c = let e = sym c.in-Err.ensures in (rw (e, ← c.alone.ensures), rw e)
