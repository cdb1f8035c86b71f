-- What the tests of the reading calls tell, the scan that an entry of the table stands for, and what the calls answer by what they read.
use Prim.Native.Nat.{ℕ, ◌≤◌, ◌<◌, ◌^◌}
use mathlib.Core.Path.{◌≡◌, ap, ◌∙◌}
use mathlib.Core.Bool.{Bool, false}
use mathlib.Core.List.{List}
use lib.ListN.{get_or}
use lib.IntN.{ℤ}
use lib.Signed.{mag}
use mir.Syntax.{w32}
use mir.Val.{to_z, of_z, hbits}
use mir.ValLaws.{to_z-of_z}
use Rattle.terms.specs.Measures.{most_scans}
use Rattle.terms.specs.declared.Shape.{Shape}
use Rattle.std.specs.Prelude.{Ok}
use Rattle.terms.specs.Answers.{Answer}
use Rattle.terms.specs.declared.Fields.{Fields}
use Rattle.terms.specs.declared.ScanEntry.{ScanEntry}
use Rattle.std.specs.Prelude.{Option, Some}
use Rattle.layout.specs.declared.Sizes.{Sizes}
use Rattle.layout.specs.declared.Region.TheVariants.{PageLineage}
use Rattle.layout.specs.View.{View, rows_given, used_in, view_of}
use Rattle.history.specs.History.{Call, Snapshot, verdict, no_column, range_of}
use Rattle.scans.specs.declared.Scans.{Scans}
use Rattle.scans.specs.Entries.{open_count}
use Rattle.scans.specs.Table.{table_of}
use Rattle.model.specs.Stored.{scan_entry, open_index, current_in, page_in, cell_in}
use Rattle.model.specs.Calls.{read_at_tests_in, tests_in}
use Rattle.model.specs.Reading.{reader, snapshot_of, read_in, read_current, keeper_in, scan_page, sum_in}
use Rattle.model.specs.declared.Reader.{Reader}
use Rattle.model.specs.Preconditions.{shape_in, OpenAt}
use Rattle.rows.proofs.Indices.{row_in_lem}
use Rattle.std.specs.Prelude.{Result, Ok}
use Rattle.terms.specs.declared.Refusal.{Refusal}
use Rattle.admission.specs.Admitted.{Fitted}
use Rattle.admission.specs.Given.{range_given, ScanAt}
use Rattle.admission.specs.Tested.{Says, Finds, IfPassed, Tests}
use Rattle.admission.proofs.Served.{found, if_passed}
use Rattle.admission.proofs.Decided.{row_below, column_below}
use Rattle.admission.proofs.Scans.{in_table, scan_stamp, scan_merges, scan_commits, scan_number}
use Rattle.lookups.specs.Lookups.{CellThere, IsScan}

pub cell_there : (s : Sizes) (m : List ℕ) (r c g : ℕ) (f : Option ℕ) (b : Bool) → Fitted s m → f ≡ range_given (view_of s m) r → f ≡ Some g
    → b ≡ no_column (shape_in s) c → b ≡ false → CellThere s (view_of s m) r c
cell_there s m r c g f b w e q h k =
    let l = row_below (view_of s m) r f e g q in
    record { given = l; range_below = (row_in_lem s w.proper (view_of s m) w.linked r l).1; column_below = column_below s c b h k }

-- ---- what the tests found, as the functions that read ask for it
module _ (j : ℕ) (s : Sizes) (v : View) (r c : ℕ) (h : IfPassed (Ok j) (CellThere s v r c)) where
  pub cell_handed_on : CellThere s v r c
  cell_handed_on = if_passed (CellThere s v r c) j h

  pub column_inside : c < s.columns
  column_inside = cell_handed_on.column_below

  pub row_inside : r < rows_given v
  row_inside = cell_handed_on.given

  pub range_inside : (g : ℕ) → g ≡ range_of r → g < s.ranges
  range_inside g e = rw e cell_handed_on.range_below

pub ruleset cell_inside = (column_inside, row_inside, range_inside)

-- the tests of read at are those of its keeper
pub read_at_tests_lem : (s : Sizes) (m : List ℕ) (t r c : ℕ) (d : Result ℕ Refusal) → Says d (verdict (read_at_tests_in (shape_in s) (view_of s m) t r c)) → Tests s m (Call.read_at t r c) d
unfolding Tests tests_in
read_at_tests_lem s m t r c d h = λ ps. h

pub keeper_at_tests : (s : Sizes) (m : List ℕ) (t r c : ℕ) (d : Result ℕ Refusal) → Says d (verdict (read_at_tests_in (shape_in s) (view_of s m) t r c)) → Tests s m (Call.keeper_at t r c) d
unfolding Tests tests_in
keeper_at_tests s m t r c d h = λ ps. h

-- ---- the scan that an entry of the table stands for
pub is_scan_lem : (t : Scans) (k j x y z : ℕ) → x ≡ get_or t.stamps j 0 → y ≡ get_or t.merges j 0 → z ≡ get_or t.commits j 0
    → IsScan t k j record { number = k; stamp = x; merges = y; commits = z }
unfolding IsScan
is_scan_lem t k j x y z p q r = λ e ps same few.
    let f = in_table t ps same k (Some j) e in
    let a : k ≡ (scan_entry ps k).number = scan_number k ps few j f in
    let b : x ≡ (scan_entry ps k).stamp = p ∙ ap (λ (u : Scans). get_or u.stamps j 0) same ∙ scan_stamp k ps few j f in
    let d : y ≡ (scan_entry ps k).merges = q ∙ ap (λ (u : Scans). get_or u.merges j 0) same ∙ scan_merges k ps few j f in
    let g : z ≡ (scan_entry ps k).commits = r ∙ ap (λ (u : Scans). get_or u.commits j 0) same ∙ scan_commits k ps few j f in
    whole k x y z (scan_entry ps k) a b d g
  where
    whole : (n x y z : ℕ) (p : ScanEntry) → n ≡ p.number → x ≡ p.stamp → y ≡ p.merges → z ≡ p.commits
        → ◌≡◌ {A = ScanEntry} record { number = n; stamp = x; merges = y; commits = z } p
    whole n x y z p a b d g = rw (a, b, d, g)

-- what is read for that scan is what is read for the scan of the list
module _ (t : Scans) (k j : ℕ) (p : ScanEntry) (n : IsScan t k j p) (y : Finds (Ok j) (ScanAt t k))
    (ps : List ScanEntry) (q : t ≡ table_of ps) (few : open_count ps ≤ most_scans) (S : Shape) (v : View) (c : ℕ) (a : Answer) where
  same : p ≡ scan_entry ps k
  unfolding IsScan
  same = n (found (ScanAt t k) j y).found ps q few

  pub sum_scanned : a ≡ sum_in S v p c → a ≡ sum_in S v (scan_entry ps k) c
  sum_scanned h = rw same at h

  pub cell_scanned : (r g w : ℕ) → w ≡ scan_page S v p.merges g c → g ≡ range_of r → (who : Reader) → who ≡ reader (snapshot_of p) 0 → a ≡ read_in S v who w r c
      → a ≡ read_in S v (reader (snapshot_of (scan_entry ps k)) 0) (scan_page S v (scan_entry ps k).merges (range_of r) c) r c
  cell_scanned r g w e f who q h = h ∙ rw (q, e, f, same)

-- ---- what the calls answer, by what they read
pub reader_answer : (S : Shape) (v : View) (a : Answer) (who : Reader) (t : Snapshot) (m r c : ℕ) → who ≡ reader t m → a ≡ read_current S v who r c → a ≡ read_current S v (reader t m) r c
reader_answer S v a who t m r c e h = rw e at h

pub keeper_answer : (S : Shape) (v : View) (a : Answer) (who : Reader) (t : Snapshot) (m r c : ℕ) → who ≡ reader t m → a ≡ keeper_in S v who r c → a ≡ keeper_in S v (reader t m) r c
keeper_answer S v a who t m r c e h = rw e at h

pub index_open : (v : View) (t j : ℕ) → Finds (Ok j) (OpenAt v t) → j ≡ open_index v t
index_open v t j q = (found (OpenAt v t) j q).found

module _ (S : Shape) (v : View) (g k c p : ℕ) (y : Finds (Ok g) (λ i. i ≡ k)) (e : p ≡ current_in S v g c) where
  page_is : p ≡ current_in S v k c
  page_is = rw (found (λ i. i ≡ k) g y) at e

  pub lineage_answer : (a b : ℕ) → a ≡ get_or (v PageLineage) p 0 → b ≡ used_in v g → ◌≡◌ {A = Answer} (Ok (Fields.Lineage a b)) (Ok (Fields.Lineage (page_in v (current_in S v k c)).lineage (used_in v k)))
  unfolding page_in
  lineage_answer a b h u = rw (h, u, page_is, found (λ i. i ≡ k) g y)

  pub cell_answer : (z : ℤ) (w i : ℕ) → mag z < 2 ^ hbits w32 → z ≡ to_z w32 w → w ≡ cell_in v p i
      → ◌≡◌ {A = Answer} (Ok (Fields.Value (to_z w32 (of_z w32 z)))) (Ok (Fields.Value (to_z w32 (cell_in v (current_in S v k c) i))))
  cell_answer z w i l h u = ap (λ x. Ok (Fields.Value x)) (to_z-of_z w32 z record { sfits = l } ∙ h ∙ rw (u, page_is))
