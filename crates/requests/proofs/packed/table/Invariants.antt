-- The loop's table has the first i entries.
use Rattle.words.specs.Words.{words}
use Rattle.scans.proofs.Table.{Entered}
use Rattle.requests.specs.Packed.{entries_of}
use Rattle.requests.proofs.packed.table.Given as goal

abbrev pub invariant-loop-i : goal.invariant-loop-i
invariant-loop-i l = Entered (entries_of (words l.list)) l.n l.t l.i
