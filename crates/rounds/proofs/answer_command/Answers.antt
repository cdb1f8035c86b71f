-- The turn's line stands behind the others.
use Rattle.std.proofs.Common.{refl}
use Rattle.rounds.specs.Due.{step_at}
use Rattle.rounds.proofs.Answered.{answered}
use Rattle.rounds.proofs.answer_command.Goals as goal

pub returns : goal.returns
unfolding step_at
returns c = rw c.append_line.ensures.1 (answered c.turn-t.ensures refl _ _ _ _ _ _ refl c.append_line.ensures.0)
