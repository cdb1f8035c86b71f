-- What is left of the entries has the answer of all.
use Rattle.std.proofs.Common.{◌≡◌, drop}
use Rattle.loops.specs.Search.{first_at}
use Rattle.scans.proofs.find_scan.Given as goal

abbrev pub invariant-loop-i : goal.invariant-loop-i
invariant-loop-i l = first_at l.number 0 l.t.numbers ≡ first_at l.number l.i (drop l.i l.t.numbers)
