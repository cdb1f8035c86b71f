-- The verdict of a call's tests, test by test: laws whose premises are what the points of a function that tests know of its conditions and of what its finders
-- answered, so that an exit's proof names the laws and no point: `search deciding`.
use Prim.Native.Nat.{ℕ, ◌≤◌, ◌<◌}
use mathlib.Core.Path.{◌≡◌, refl, sym, ◌∙◌}
use mathlib.Core.Bool.{Bool, true, false}
use mathlib.Core.List.{List, [], ◌∷◌}
use lib.Dec.{leb}
use lib.ListN.{length}
use borrow.Author.Tests.{leb-false, le-leb, lt-leb}
use Rattle.terms.specs.Measures.{most_scans, most_transactions}
use Rattle.terms.specs.declared.ScanEntry.{ScanEntry}
use Rattle.terms.specs.declared.Refusal.{Refusal}
use Rattle.std.specs.Prelude.{Option, Some, None}
use Rattle.layout.specs.declared.Sizes.{Sizes}
use Rattle.layout.specs.View.{View, rows_given}
use Rattle.history.specs.History.{Test, ◌when◌, Verdict, accept, refuse, verdict, no_column, no_range, range_of}
use Rattle.scans.specs.declared.Scans.{Scans}
use Rattle.scans.specs.Entries.{open_count}
use Rattle.scans.specs.Table.{table_of, find_in}
use Rattle.model.specs.Calls.{not_open_in, not_given_in, no_scan_in}
use Rattle.model.specs.Preconditions.{shape_in, OpenAt}
use Rattle.rows.specs.Finders.{Inside}
use Rattle.rows.proofs.Cases.{found_at, found_nothing}
use Rattle.conditions.specs.Opens.{open_at}
use Rattle.conditions.proofs.Opens.{open_there, not_open}
use Rattle.std.specs.Prelude.{Result, Ok, Err}
use Rattle.terms.specs.declared.Refusal.{Refusal}
use Rattle.admission.specs.Given.{range_given, ScanAt}
use Rattle.admission.specs.Tested.{Says}
use Rattle.admission.proofs.Scans.{scan_lacks, scan_open, in_table, found_scan}

-- ---- the first test, and those behind it
module _ (x : Refusal) (b : Bool) (ts : List Test) where
  pub first_fails : b ≡ true → verdict (x when b ∷ ts) ≡ refuse x
  unfolding verdict
  first_fails e = rw e

  pub first_passes : (w : Verdict) → b ≡ false → verdict ts ≡ w → verdict (x when b ∷ ts) ≡ w
  unfolding verdict
  first_passes w e h = rw e h

  pub first_hands_on : (d : Result ℕ Refusal) → b ≡ false → Says d (verdict ts) → Says d (verdict (x when b ∷ ts))
  unfolding verdict
  first_hands_on d e h = rw e h

pub none_fails : verdict [] ≡ accept
unfolding verdict
none_fails = refl

-- what other tests said, which this function handed on
module _ (d : Result ℕ Refusal) (w : Verdict) where
  pub said_refuse : (x : Refusal) → d ≡ Err x → Says d w → w ≡ refuse x
  said_refuse x e h = rw e at h

  pub said_accept : (j : ℕ) → d ≡ Ok j → Says d w → w ≡ accept
  said_accept j e h = rw e at h

-- ---- what a condition is, by the flag that a function answered and a branch took
pub flag_is : (a b w : Bool) → a ≡ b → a ≡ w → b ≡ w
flag_is a b w e f = sym e ∙ f

-- a number that was read is at the limit, or below it
module _ (n a k : ℕ) (e : n ≡ a) where
  pub at_limit : k ≤ n → leb k a ≡ true
  at_limit h = rw (← e) (le-leb k n h)

  pub below_limit : n < k → leb k a ≡ false
  below_limit h = rw (← e) (lt-leb k n h)

  pub under_limit : n < k → a < k
  under_limit h = rw e at h

-- ---- the row
module _ (v : View) (r : ℕ) (f : Option ℕ) (e : f ≡ range_given v r) where
  pub row_lacks : f ≡ None → not_given_in v r ≡ true
  unfolding range_given
  row_lacks q = found_nothing (not_given_in v r) (range_of r) (sym e ∙ q)

  module _ (g : ℕ) (q : f ≡ Some g) where
    there : (not_given_in v r ≡ false) × (g ≡ range_of r)
    unfolding range_given
    there = found_at (not_given_in v r) (range_of r) g (sym e ∙ q)

    pub row_there : not_given_in v r ≡ false
    row_there = there.0

    pub row_below : r < rows_given v
    unfolding not_given_in
    row_below = leb-false (rows_given v) r there.0

    pub range_is : g ≡ range_of r
    range_is = there.1

-- ---- the column and the range
pub column_below : (s : Sizes) (c : ℕ) (b : Bool) → b ≡ no_column (shape_in s) c → b ≡ false → c < s.columns
unfolding no_column
column_below s c b e f = leb-false s.columns c (sym e ∙ f)

pub range_below : (s : Sizes) (g : ℕ) (b : Bool) → b ≡ no_range (shape_in s) g → b ≡ false → g < s.ranges
unfolding no_range
range_below s g b e f = leb-false s.ranges g (sym e ∙ f)

-- ---- the open transaction
module _ (v : View) (t : ℕ) (f : Option ℕ) (e : f ≡ open_at v t) where
  pub open_lacks : f ≡ None → not_open_in v t ≡ true
  open_lacks q = not_open v t (sym e ∙ q)

  module _ (j : ℕ) (q : f ≡ Some j) where
    pub is_open : not_open_in v t ≡ false
    is_open = (open_there v t j (sym e ∙ q)).0

    pub open_at_lem : Inside f most_transactions → OpenAt v t j
    open_at_lem h = record { low = rw q at h; found = (open_there v t j (sym e ∙ q)).1 }

-- ---- the open scan
module _ (t : Scans) (k : ℕ) (f : Option ℕ) (e : f ≡ find_in t k) where
  pub scan_closed_lem : f ≡ None → (ps : List ScanEntry) → t ≡ table_of ps → open_count ps ≤ most_scans → no_scan_in ps k ≡ true
  scan_closed_lem q ps same few = scan_lacks k ps few (in_table t ps same k None (sym e ∙ q))

  module _ (j : ℕ) (q : f ≡ Some j) where
    pub is_running : (ps : List ScanEntry) → t ≡ table_of ps → open_count ps ≤ most_scans → no_scan_in ps k ≡ false
    is_running ps same few = scan_open k ps few j (in_table t ps same k (Some j) (sym e ∙ q))

    pub scan_entry_lem : length t.numbers ≡ most_scans → ScanAt t k j
    scan_entry_lem n = found_scan t k j n (sym e ∙ q)

-- the laws that the proofs of the tests are searched by
pub ruleset deciding = (
  first_fails,
  first_passes,
  first_hands_on,
  none_fails,
  said_refuse,
  said_accept,
  flag_is,
  at_limit,
  below_limit,
  under_limit,
  row_lacks,
  row_there,
  row_below,
  range_is,
  column_below,
  range_below,
  open_lacks,
  is_open,
  open_at_lem,
  scan_closed_lem,
  is_running,
)
