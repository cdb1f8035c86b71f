-- `calls::laws::served` meets its contract: what the core promises at the table, it promises at the list whose table that is.
use mathlib.Core.Path.{refl}
use Rattle.promise.specs.Promise.{ServesBy}
use Rattle.calls.proofs.laws.served.Goals as goal

pub returns : goal.returns
unfolding ServesBy
returns g c = record {
  runs = (_, _, _, refl, refl, c.table.ensures, c.core.ensures);
  promised = λ x h. h _ _ _ _ c.core.ensures c.args.scans.now c.table.ensures;
}
