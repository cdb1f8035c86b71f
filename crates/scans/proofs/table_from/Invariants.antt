-- The table has the first i entries, of whatever list the calls read.
use Rattle.std.proofs.Common.{◌≡◌, ℕ, ◌<◌, List, length}
use Rattle.std.specs.Prelude.{get_or}
use Rattle.terms.specs.declared.ScanEntry.{ScanEntry}
use Rattle.terms.specs.Entries.{free_entry}
use Rattle.scans.proofs.Table.{Entered}
use Rattle.scans.proofs.table_from.Given as goal

abbrev pub invariant-loop-i : goal.invariant-loop-i
invariant-loop-i g l =
    (ps : List ScanEntry) → length ps ≡ l.n → ((i : ℕ) (p : ScanEntry) → i < l.n → goal.F-post g l.entry_at i p → p ≡ get_or ps i free_entry) → Entered ps l.n l.t l.i
