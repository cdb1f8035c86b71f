-- What the tests of the reading calls share and find.
use Rattle.std.specs.Prelude.{ℕ, ◌≤◌, ◌<◌, ◌≡◌, List, [], ◌∷◌}
use Rattle.terms.specs.Measures.{most_scans}
use Rattle.terms.specs.declared.Shape.{Shape}
use Rattle.terms.specs.declared.ScanEntry.{ScanEntry}
use Rattle.terms.specs.Answers.{Answer}
use Rattle.terms.specs.declared.Refusal.{Refusal}
use Rattle.std.specs.Prelude.{Some}
use Rattle.layout.specs.declared.Sizes.{Sizes}
use Rattle.layout.specs.View.{View, rows_given, view_of}
use Rattle.history.specs.History.{Call, Test, ◌when◌, no_column, range_of}
use Rattle.scans.specs.declared.Scans.{Scans}
use Rattle.scans.specs.Entries.{open_count}
use Rattle.scans.specs.Table.{table_of, find_in}
use Rattle.model.specs.Stored.{scan_entry}
use Rattle.model.specs.Calls.{not_given_in, no_span_in, say, stamps_next}
use Rattle.model.specs.Preconditions.{shape_in}

-- a row and then a column are there
abbrev pub row_tests : Shape → View → ℕ → ℕ → List Test
row_tests S v r c = Refusal.Row when not_given_in v r ∷ Refusal.Column when no_column S c ∷ []

-- and two stamps span minutes that are committed
abbrev pub span_tests : Shape → View → ℕ → ℕ → ℕ → ℕ → List Test
span_tests S v r c from to = Refusal.Row when not_given_in v r ∷ Refusal.Column when no_column S c ∷ Refusal.Time when no_span_in v from to ∷ []

-- row r is given, and column c is one of the store's
pub record CellThere (s : Sizes) (v : View) (r c : ℕ) : Type 0 where
  pub given : r < rows_given v
  pub range_below : range_of r < s.ranges
  pub column_below : c < s.columns

-- call c over the memory m, which holds a store of sizes s, answers r and leaves `out` of its slice, whatever the scan list
unfoldable pub Outcomes : Sizes → List ℕ → Call → Answer → List ℕ → Type 0
Outcomes s m c r out = (ps : List ScanEntry) → (r ≡ say (shape_in s) (view_of s m) ps c) × (out ≡ stamps_next (shape_in s) (view_of s m) ps c)

-- p is the entry of scan k in every list that the table stands for and that a usable store may have, if entry j is that of scan k
unfoldable pub IsScan : Scans → ℕ → ℕ → ScanEntry → Type 0
IsScan t k j p = find_in t k ≡ Some j → (ps : List ScanEntry) → t ≡ table_of ps → open_count ps ≤ most_scans → p ≡ scan_entry ps k
