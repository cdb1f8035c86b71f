-- Where the shape is not yet answered, there is no command to answer.
use Rattle.std.proofs.Common.{arith}
use borrow.Author.Tests.{not-true}
use Rattle.rounds.proofs.Going.{took_none}
use Rattle.rounds.proofs.answer.Goals as goal

pub returns-then-not-q : goal.returns-then-not-q
returns-then-not-q c = took_none c.answer_first-q.ensures (omega arith) (not-true _ c.if-not-q.true)
