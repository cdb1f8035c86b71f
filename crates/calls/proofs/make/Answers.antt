-- `calls::make` meets its contract.
use Rattle.std.proofs.Common.{refl}
use Rattle.calls.proofs.Served.{made_so}
use Rattle.calls.proofs.make.Goals as goal

pub returns : goal.returns
returns c = made_so _ _ _ _ _ _ _ _ refl c.make-answer.ensures c.free_made.ensures
