-- The turn's line stands behind the others.
use Rattle.std.proofs.Common.{refl}
use Rattle.rounds.proofs.Answered.{answered}
use Rattle.rounds.proofs.answer_shape.Goals as goal

pub returns : goal.returns
returns c = rw c.append_line.ensures.1 (answered c.start-t.ensures refl _ _ _ _ _ _ c.columns_of.ensures c.append_line.ensures.0)
