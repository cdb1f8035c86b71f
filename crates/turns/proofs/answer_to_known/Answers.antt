-- A cut command does nothing, and a whole one is called as it is decoded.
use borrow.Author.Tests.{lt-leb}
use Rattle.output.specs.Steps.{outcome_to, state_after}
use Rattle.turns.specs.Turns.{Does}
use Rattle.turns.proofs.Answers.{format_called}
use Rattle.turns.proofs.answer_to_known.Goals as goal

pub returns-then-operands-width : goal.returns-then-operands-width
unfolding Does outcome_to state_after
returns-then-operands-width c =
    let cut = lt-leb _ _ (rw c.width.ensures.0 at c.if-operands-width.true) in (rw (cut, ← c.alone.ensures), rw cut)

pub returns : goal.returns
returns c = format_called _ _ _ _ c.decode.result _ _ _ (rw c.width.ensures.0 at c.if-operands-width.false) c.decode.ensures c.call.ensures
