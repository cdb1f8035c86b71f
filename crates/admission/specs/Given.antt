-- What the finders of a row and of a scan answer.
use Rattle.std.specs.Prelude.{cond, ◌≡◌, ℕ, ◌<◌}
use Rattle.terms.specs.Measures.{most_scans}
use Rattle.std.specs.Prelude.{Option, Some, None}
use Rattle.layout.specs.View.{View}
use Rattle.scans.specs.declared.Scans.{Scans}
use Rattle.scans.specs.Table.{find_in}
use Rattle.history.specs.History.{range_of}
use Rattle.model.specs.Calls.{not_given_in}

-- the range of row r, if its number is given
unfoldable pub range_given : View → ℕ → Option ℕ
range_given v r = cond (not_given_in v r) None (Some (range_of r))

-- entry j of the table is that of scan k
pub record ScanAt (t : Scans) (k j : ℕ) : Type 0 where
  pub below : j < most_scans
  pub found : find_in t k ≡ Some j
