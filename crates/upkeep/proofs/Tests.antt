-- What the tests of a merge tell of its verdict, and what a merge may rely on once they are passed.
use Prim.Native.Nat.{ℕ, ◌≤◌, ◌<◌}
use mathlib.Core.Path.{◌≡◌, refl, sym, ◌∙◌}
use mathlib.Core.Bool.{Bool, true, false, cond, ◌||◌}
use mathlib.Core.List.{List}
use native.Mathlib.Omega.{arith}
use native.Mathlib.Nat.{min-le_left}
use lib.Dec.{leb, ltb}
use lib.ListN.{take}
use borrow.Author.Tests.{ltb-true, ltb-false, le-leb, lt-leb, lt-ltb, le-ltb}
use Rattle.terms.specs.declared.Form.{Form}
use Rattle.terms.specs.Measures.{most_scans}
use Rattle.terms.specs.declared.Shape.{Shape}
use Rattle.terms.specs.declared.ScanEntry.{ScanEntry}
use Rattle.std.specs.Prelude.{Option, Some, None, Result, Ok}
use Rattle.layout.specs.declared.Sizes.{Sizes}
use Rattle.layout.specs.View.{View, used_in, view_of}
use Rattle.scans.specs.declared.Scans.{Scans}
use Rattle.scans.specs.Entries.{open_count}
use Rattle.scans.specs.Table.{table_of}
use Rattle.history.specs.History.{verdict}
use Rattle.model.specs.Stored.{pages_of, page_in, current_in}
use Rattle.model.specs.Writing.{free_in}
use Rattle.layout.specs.Sizes.{Proper}
use Rattle.model.specs.Preconditions.{shape_in}
use Rattle.loops.specs.Search.{found_at}
use Rattle.merging.specs.Steps.{MergeReady}
use Rattle.terms.specs.declared.Refusal.{Refusal}
use Rattle.admission.specs.Admitted.{Fitted, Admits}
use Rattle.admission.specs.Tested.{Says, Finds}
use Rattle.upkeep.specs.Lists.{reach_tests}
use Rattle.admission.proofs.Served.{admitted, part_seen, found}

-- ---- the first free page
found_here : (n i j : ℕ) → found_at n i ≡ Some j → (i < n) × (j ≡ i)
found_here n i j e = go (ltb i n) refl e
  where
    go : (b : Bool) → ltb i n ≡ b → cond b (Some i) None ≡ Some j → (i < n) × (j ≡ i)
    go true q f = (ltb-true i n q, cc)
    go false q f = let z : ◌≡◌ {A = ℕ} 0 1 = cc in absurd (omega arith)

found_none : (n i : ℕ) → found_at n i ≡ None → n ≤ i
found_none n i e = go (ltb i n) refl e
  where
    go : (b : Bool) → ltb i n ≡ b → cond b (Some i) None ≡ None → n ≤ i
    go true q f = let z : ◌≡◌ {A = ℕ} 0 1 = cc in absurd (omega arith)
    go false q f = ltb-false i n q

module _ (s : Sizes) (v : View) (f : Option ℕ) (p : Proper s) (q : f ≡ found_at s.pages (free_in (shape_in s) v)) where
  pages : s.pages ≡ pages_of (shape_in s)
  pages = omega (arith, p.pages_are, p.chunks_are)

  pub no_page_lem : f ≡ None → leb (pages_of (shape_in s)) (free_in (shape_in s) v) ≡ true
  no_page_lem e =
      le-leb (pages_of (shape_in s)) (free_in (shape_in s) v) (omega (arith, pages, found_none s.pages (free_in (shape_in s) v) (sym q ∙ e)))

  module _ (j : ℕ) (e : f ≡ Some j) where
    here : (free_in (shape_in s) v < s.pages) × (j ≡ free_in (shape_in s) v)
    here = found_here s.pages (free_in (shape_in s) v) j (sym q ∙ e)

    pub page_left : leb (pages_of (shape_in s)) (free_in (shape_in s) v) ≡ false
    page_left = lt-leb (pages_of (shape_in s)) (free_in (shape_in s) v) (omega (arith, pages, here.0))

-- ---- whether a record is in reach
pub too_low : (v : View) (g low n : ℕ) → n ≤ low → (leb n low || ltb (used_in v g) n) ≡ true
too_low v g low n h = rw (le-leb n low h)

module _ (v : View) (g low n used : ℕ) (l : low < n) (e : used ≡ used_in v g) where
  pub too_high : used < n → (leb n low || ltb (used_in v g) n) ≡ true
  too_high h = rw (← e, lt-leb n low l, lt-ltb used n h)

  pub in_reach : n ≤ used → (leb n low || ltb (used_in v g) n) ≡ false
  in_reach h = rw (← e, lt-leb n low l, le-ltb used n h)

-- ---- what passed tests of a merge tell
module _ (s : Sizes) (m : List ℕ) (g n used : ℕ) (w : Fitted s m) (h : g < s.ranges) (e : used ≡ used_in (view_of s m) g) (k : n ≤ used) where
  pub through_few : n ≤ s.capacity
  through_few = omega (arith, w.linked.used_few g h)

  pub merge_ready : (c low p : ℕ) (f : Option ℕ) → c < s.columns → low ≡ (page_in (view_of s m) (current_in (shape_in s) (view_of s m) g c)).lineage → low < n
      → f ≡ found_at s.pages (free_in (shape_in s) (view_of s m)) → f ≡ Some p → MergeReady s (view_of s m) g c n p
  merge_ready c low p f x y l q z =
      let free = here s (view_of s m) f w.proper q p z in
      record {
        range_below = h;
        column_below = x;
        from = omega arith;
        to = through_few;
        free = free.1;
        page_below = omega (arith, free);
        chunks_are_current = w.chunks_are_current;
      }

-- the lineage of the page was read before
pub reach_says : (d : Result ℕ Refusal) (S : Shape) (v : View) (g c low n : ℕ) → low ≡ (page_in v (current_in S v g c)).lineage → Says d (verdict (reach_tests S v g low n))
    → Says d (verdict (reach_tests S v g (page_in v (current_in S v g c)).lineage n))
reach_says d S v g c low n e h = rw e at h

-- ---- a table of a list has at most as many entries as it has room for
pub table_few : (t : Scans) (ps : List ScanEntry) → t ≡ table_of ps → t.count ≤ most_scans
unfolding table_of
table_few t ps e = rw e (min-le_left most_scans (open_count ps))

-- ---- what a merge asks for, by what its tests found
pub mergeable : (on : Form → Bool) (s : Sizes) (n : ℕ) (m : List ℕ) (t : Scans) (g c k p : ℕ) → Admits on (Ok (s, n)) m t
    → Finds (Ok p) (MergeReady s (view_of s m) g c k) → MergeReady s (view_of s (take n m)) g c k p
mergeable on s n m t g c k p b y = rw (part_seen (admitted on s n m t b).0) (found _ p y)

pub ruleset merging = (no_page_lem, page_left, too_low, too_high, in_reach, through_few, merge_ready, reach_says, mergeable)
