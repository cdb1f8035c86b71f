-- What is left of the later entries has the answer of all of them.
use Rattle.std.proofs.Common.{◌≡◌, ◌+◌, take, drop}
use Rattle.scans.specs.Entries.{among}
use Rattle.scans.proofs.differs.Given as goal

abbrev pub invariant-loop-j : goal.invariant-loop-j
invariant-loop-j l = among l.x (drop (l.i + 1) (take l.n l.numbers)) ≡ among l.x (drop l.j (take l.n l.numbers))
