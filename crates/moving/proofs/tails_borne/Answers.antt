-- What is found of the used records of range g is what the test asks of it.
use Rattle.std.proofs.Common.{rules}
use Rattle.moving.proofs.Borne.{tail_is}
use Rattle.moving.proofs.tails_borne.Goals as goal

pub returns : goal.returns
returns c = c.any_below.ensures _ (λ g b h q. search (rules, tail_is))
