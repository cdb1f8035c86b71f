-- The outcome's line, and what comes after its answer.
use Rattle.std.proofs.Common.{refl}
use Rattle.output.specs.Steps.{line_of}
use Rattle.requests.specs.Requested.{given_by}
use Rattle.turns.specs.Turns.{Does}
use Rattle.turns.proofs.Answers.{turned}
use Rattle.turns.proofs.turn.Goals as goal

pub returns : goal.returns
unfolding Does
returns c =
    let a = c.answer_to_command-called in
    turned _ (line_of c.args.byte) (λ o. o.answer) _ _ _ _ _ (given_by a.result) _ refl refl a.ensures.0 c.render_line-length.ensures c.goes_on.ensures a.ensures.1
