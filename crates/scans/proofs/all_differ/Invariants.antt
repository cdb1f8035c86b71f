-- What is left of the entries has the answer of all.
use Rattle.std.proofs.Common.{◌≡◌, take, drop}
use Rattle.scans.specs.Entries.{differ}
use Rattle.scans.proofs.all_differ.Given as goal

abbrev pub invariant-loop-i : goal.invariant-loop-i
invariant-loop-i l = differ (take l.n l.numbers) ≡ differ (drop l.i (take l.n l.numbers))
