-- Rows, tail records and open transactions are all that bear keepers.
use Rattle.std.proofs.Common.{rules}
use Rattle.moving.proofs.Borne.{borne_is}
use Rattle.moving.proofs.keeper_borne.Goals as goal

pub returns : goal.returns
returns c = search (rules, borne_is)
