-- That a running tally is the model's.
use Rattle.std.specs.Prelude.{◌≡◌, ℕ}
use Rattle.terms.specs.declared.Shape.{Shape}
use Rattle.layout.specs.View.{View}
use Rattle.terms.specs.declared.ScanEntry.{ScanEntry}
use Rattle.model.specs.Reading as R
use Rattle.summing.specs.declared.Tally.{Tally}

-- the code's tally t of the first n rows, for a scan and column c
pub record Tallied (S : Shape) (v : View) (scan : ScanEntry) (c n : ℕ) (t : Tally) : Type 0 where
  pub count_is : t.count ≡ (R.tally S v scan c n).count
  pub total_is : t.total ≡ (R.tally S v scan c n).total
