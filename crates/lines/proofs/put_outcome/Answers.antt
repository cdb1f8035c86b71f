-- The word, and what stands behind it.
use Rattle.std.proofs.Common.{arith}
use Rattle.decimal.proofs.Pieces.{joined}
use Rattle.lines.specs.Lines.{outcome}
use Rattle.lines.proofs.put_outcome.Goals as goal

pub returns-in-Ok : goal.returns-in-Ok
unfolding outcome
returns-in-Ok c = rw c.in-Ok.is (joined c.put-next.ensures c.put_fields.ensures.0, omega arith)

pub returns-in-Err : goal.returns-in-Err
unfolding outcome
returns-in-Err c = rw (c.in-Err.is, ← c.number.ensures) (joined c.put-next-in-Err.ensures c.put_natural.ensures.0, omega arith)
