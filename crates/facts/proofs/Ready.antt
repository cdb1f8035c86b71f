-- What the tests that come first tell: sizes within the limits, and counts within the sizes.
use Prim.Native.Nat.{ℕ, ◌≤◌}
use mathlib.Core.Path.{◌≡◌, refl, ap, sym, ◌∙◌}
use mathlib.Core.Bool.{Bool, true, false, not, ◌&&◌}
use mathlib.Core.List.{List}
use native.Mathlib.Omega.{arith}
use lib.Dec.{ltb}
use lib.ListN.{length, get_or, get_or-eq_default}
use borrow.Author.Tests.{leb-true, ltb-true, ltb-false}
use Rattle.terms.specs.Measures.{most_scans, most_numbers}
use Rattle.terms.specs.declared.ScanEntry.{ScanEntry}
use Rattle.loops.specs.Search.{all_between}
use Rattle.loops.proofs.Search.{and_true, all_tells}
use Rattle.layout.specs.declared.Sizes.{Sizes}
use Rattle.layout.specs.declared.Region.TheVariants.{Used}
use Rattle.layout.specs.Sizes.{Proper}
use Rattle.layout.specs.View.{View, rows_given, transactions_given, scans_given, used_in, view_of, Suffices}
use Rattle.scans.specs.declared.Scans.{Scans}
use Rattle.scans.specs.Entries.{open_count}
use Rattle.scans.specs.Table.{table_of}
use Rattle.facts.specs.Facts.{stored_within, counts_within}
use Rattle.facts.specs.Tests.{Ready}
use Rattle.facts.proofs.Parts.{more_open}

-- every word of a list that is bounded is, and so is what stands past its end
pub at_most : (l : List ℕ) (b : ℕ) → all_between 0 b l ≡ true → (i : ℕ) → get_or l i 0 ≤ b
at_most l b e i = go (ltb i (length l)) refl
  where
    go : (t : Bool) → ltb i (length l) ≡ t → get_or l i 0 ≤ b
    go true q = (all_tells 0 b l e i (ltb-true i (length l) q)).1
    go false q = let z : get_or l i 0 ≡ 0 = get_or-eq_default l 0 (ltb-false i (length l) q) in omega arith

-- the four counts that are stored
pub record Stored (s : Sizes) (v : View) : Type 0 where
  pub rows_to : rows_given v ≤ s.rows
  pub records_to : (g : ℕ) → used_in v g ≤ s.capacity
  pub transactions_to : transactions_given v ≤ most_numbers
  pub scans_to : scans_given v ≤ most_numbers

pub stored : (s : Sizes) (v : View) → stored_within s v ≡ true → Stored s v
unfolding stored_within
stored s v e =
    let a = and_true _ _ e in
    let b = and_true _ _ a.1 in
    let c = and_true _ _ b.1 in
    record {
      rows_to = leb-true (rows_given v) s.rows a.0;
      records_to = at_most (v Used) s.capacity b.0;
      transactions_to = leb-true (transactions_given v) most_numbers c.0;
      scans_to = leb-true (scans_given v) most_numbers c.1;
    }

-- the flag of the counts, raised
module _ (s : Sizes) (m : List ℕ) (t : Scans) (r : Bool) (flag : r ≡ (stored_within s (view_of s m) && not t.more)) where
  pub ready : Suffices s m → Proper s → r ≡ true → Ready s m
  ready h z e =
      let k = stored s (view_of s m) (and_true _ _ (sym flag ∙ e)).0 in
      record { room = h; proper = z; rows_in = k.rows_to; records_in = k.records_to }

  pub few : (ps : List ScanEntry) → t ≡ table_of ps → r ≡ true → open_count ps ≤ most_scans
  few ps q e =
      leb-true (open_count ps) most_scans (sym (more_open t ps q) ∙ (and_true (stored_within s (view_of s m)) (not t.more) (sym flag ∙ e)).1)

  pub counts_are : (ps : List ScanEntry) → t ≡ table_of ps → counts_within s (view_of s m) ps ≡ r
  unfolding counts_within
  counts_are ps q = ap (λ (b : Bool). stored_within s (view_of s m) && b) (sym (more_open t ps q)) ∙ sym flag
