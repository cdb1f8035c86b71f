-- The stamps up to the index are written, and no field is longer than a natural number's.
use Rattle.std.proofs.Common.{◌+◌, ◌*◌, ◌≤◌, take}
use Rattle.decimal.specs.Written.{natural_field, Written}
use Rattle.lines.specs.Lines.{fields}
use Rattle.lines.proofs.put_stamps.Given as goal

abbrev pub invariant-loop-stamp : goal.invariant-loop-stamp
invariant-loop-stamp l =
    Written l.initial.out l.out l.at (fields (take l.stamp-index l.stamps)) l.next × (l.next ≤ l.at + l.stamp-index * natural_field)
