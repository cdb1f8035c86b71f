-- What demand 2 says of the pages of a store (11.4 and 11.5 of docs/SPECIFICATION.md), in terms of a view and of a history: `PageHolds` what a current page holds, `PageKept` that a page
-- is kept for a scan. The history says what was committed, by its commits (`last_taken`, the history's Latest); the store's words say what the pages hold. The promise's Demands claims both of what
-- calls leave; proofs/Claims.antt proves them of every view that represents a history. What reads give (11.3) needs nothing here: the store answers as the history does (`StepKept`, Represents).
use Rattle.std.specs.Prelude.{◌≡◌, List, ℕ, ◌+◌, ◌*◌, ◌≤◌, ◌<◌, length}
use Rattle.std.specs.Int.{w32}
use Rattle.std.proofs.Common.{to_z}
use Rattle.terms.specs.Measures.{range_rows}
use Rattle.terms.specs.declared.Shape.{Shape}
use Rattle.history.specs.History.{Call, History, start, run, merged_through, scan_at, range_of}
use Rattle.history.specs.Latest.{last_taken}
use Rattle.layout.specs.View.{View}
use Rattle.model.specs.Stored.{page_in, cell_in, current_in, within}
use Rattle.model.specs.Reading.{scan_page}

-- the history after a list of calls
unfoldable pub history_after : Shape → List Call → History
history_after S cs = run S start cs

-- 11.4: what a current page holds. The records that it has taken in are those up to its lineage.
pub record PageHolds (S : Shape) (v : View) (h : History) (g c : ℕ) : Type 0 where
  pub taken : (page_in v (current_in S v g c)).lineage ≡ merged_through h g c
  pub every_row : (i : ℕ) → i < range_rows → to_z w32 (cell_in v (current_in S v g c) i) ≡ last_taken h c (g * range_rows + i) (merged_through h g c)
  pub never_inserted : (i : ℕ) → i < range_rows → length h.rows ≤ g * range_rows + i → cell_in v (current_in S v g c) i ≡ 0

-- Rule 7.10: after any further calls that leave the scan running, the page that it reads is the one
-- that was current when it was opened, and the page's cells of the rows given then are as they were. (A row given later may have been inserted into the page
-- while it was current.)
pub record PageKept (S : Shape) (v w : View) (h : History) (k g c : ℕ) (rows : ℕ) : Type 0 where
  pub page : scan_page S w (scan_at h k).merges g c ≡ current_in S v g c
  pub cells : (r : ℕ) → r < rows → range_of r ≡ g → cell_in w (current_in S v g c) (within r) ≡ cell_in v (current_in S v g c) (within r)
