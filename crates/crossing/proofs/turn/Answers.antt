-- `crossing::turn` meets its contract.
use borrow.Author.Tests.{eq-eqb, ne_eqb}
use Rattle.crossing.specs.Steps.{Continues}
use Rattle.crossing.proofs.Standing.{stands_begun, stands_replaced, stands_followed}
use Rattle.crossing.proofs.turn.Goals as goal

pub returns-in_default-clause-continues : goal.returns-in_default-clause-continues
unfolding Continues
returns-in_default-clause-continues c = λ l out s. stands_begun _ _ l out c.args.p _ s c.args.x c.in_default.is

pub returns-then-last-x-clause-continues : goal.returns-then-last-x-clause-continues
unfolding Continues
returns-then-last-x-clause-continues c = λ l out s. stands_replaced _ _ l out c.args.p _ s c.args.x (rw (c.in-Some.is) (eq-eqb _ _ c.if-last-x.true))

pub returns-clause-continues : goal.returns-clause-continues
unfolding Continues
returns-clause-continues c =
    λ l out s. stands_followed _ _ l out c.args.p _ s c.args.x (rw (c.in-Some.is) (ne_eqb _ _ c.if-last-x.false)) _ _ _ (rw (c.in-Some.is)) (rw (c.in-Some.is) c.note_value.ensures.0) (rw (c.in-Some.is) c.note_value.ensures.1)
