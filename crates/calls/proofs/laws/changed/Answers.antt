-- `calls::laws::changed` meets its contract: the list is left with the entry that the core names, and the answer is the core's.
use mathlib.Core.Path.{refl}
use Rattle.promise.specs.Promise.{ServesBy}
use Rattle.calls.proofs.laws.changed.Goals as goal

pub returns : goal.returns
unfolding ServesBy
returns g c = record {
  runs = (_, _, _, _, refl, refl, c.table.ensures, c.apply_change.ensures.0, c.apply_change.ensures.1, c.core-change.ensures);
  promised = λ x h. rw (c.apply_change.ensures.1, c.apply_change.ensures.0) (h _ _ _ _ c.core-change.ensures c.args.scans.now c.table.ensures);
}
