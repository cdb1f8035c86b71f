-- The table has the new entry once the loop has passed its index.
use Rattle.std.proofs.Common.{◌≡◌, cond, ltb}
use Rattle.scans.specs.Table.{placed}
use Rattle.scans.proofs.add_open.Given as goal

abbrev pub invariant-loop-k : goal.invariant-loop-k
invariant-loop-k l = l.u ≡ cond (ltb l.n l.k) (placed l.n l.i l.p l.initial.u) l.initial.u
