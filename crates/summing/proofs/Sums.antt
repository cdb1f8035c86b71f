-- The steps of the tally, and its bounds: n rows are at most n, and the sum of their values lies between n times 2 ^ 31 and the same below 0.
use Rattle.std.proofs.Common.{ℕ, zero, suc, ◌+◌, ◌*◌, ◌≤◌, ◌<◌, ◌≡◌, refl, Bool, true, false, cond, ℤ, pos, ◌+ℤ◌, neg_ℤ, ◌≤ℤ◌, arith, add-one}
use Rattle.std.proofs.lemmas.Int.{ints, to_z-of_z}
use mir.Syntax.{w32, w64}
use mir.Val.{SFits, of_z, to_z}
use Rattle.terms.specs.Measures.{most_rows}
use Rattle.terms.specs.declared.Shape.{Shape}
use Rattle.std.specs.Prelude.{Ok}
use Rattle.terms.specs.declared.Fields.{Fields}
use Rattle.layout.specs.View.{View, rows_given}
use Rattle.history.specs.History.{range_of}
use Rattle.terms.specs.declared.ScanEntry.{ScanEntry}
use Rattle.layout.specs.declared.Sizes.{Sizes}
use Rattle.layout.specs.Sizes.{Proper}
use Rattle.model.specs.Preconditions.{Linked}
use Rattle.rows.proofs.Indices.{range_in}
use Rattle.model.specs.declared.Reader.{Reader}
use Rattle.model.specs.Reading as R
use Rattle.model.specs.Reading.{reader, snapshot_of, word_in, visible_in, scan_page, tally, sum_in}
use Rattle.summing.specs.declared.Tally.{Tally}
use Rattle.summing.specs.Sums.{Tallied}

-- the rows of range g
pub range_is : (g r : ℕ) → g * 64 ≤ r → r < (g + 1) * 64 → range_of r ≡ g
unfolding range_of
range_is g r a b = omega arith

-- ---- the rows given, of which there are n
module _ (s : Sizes) (proper : Proper s) (v : View) (linked : Linked s v) (n : ℕ) (e : n ≡ rows_given v) where
  -- they are at most all the rows that there are
  pub given_few : n ≤ most_rows
  given_few = omega (arith, proper.rows_are, proper.ranges_to, linked.rows_few)

  -- so is the number of one of them
  pub row_few : (r : ℕ) → r < n → r ≤ most_rows
  row_few r l = omega (arith, given_few)

  -- and its range is one of the store's
  pub given_range : (r g : ℕ) → r < n → g ≡ range_of r → g < s.ranges
  given_range r g l i = rw i (range_in s proper r (omega (arith, linked.rows_few)))

module _ (S : Shape) (v : View) (scan : ScanEntry) (c : ℕ) where
  abbrev value : ℕ → ℤ
  value r = to_z w32 (word_in S v (reader (snapshot_of scan) 0) (scan_page S v scan.merges (range_of r) c) r c)

  abbrev more : ℕ → R.Tally → R.Tally
  more r t = record { count = suc t.count; total = t.total +ℤ value r }

  abbrev Bounded : ℕ → R.Tally → Type 0
  Bounded n t = (t.count ≤ n) × (neg_ℤ (pos (n * 2147483648)) ≤ℤ t.total) × (t.total ≤ℤ pos (n * 2147483648))

  pub tally_bound : (n : ℕ) → Bounded n (tally S v scan c n)
  unfolding tally
  tally_bound zero = (omega arith, omega (arith, ints), omega (arith, ints))
  tally_bound (suc r) = go (visible_in S v (reader (snapshot_of scan) 0) r) (tally S v scan c r) (tally_bound r)
    where
      go : (b : Bool) (t : R.Tally) → Bounded r t → Bounded (suc r) (cond b (more r t) t)
      go true t h = (omega arith, omega (arith, ints), omega (arith, ints))
      go false t h = (omega arith, omega (arith, ints), omega (arith, ints))

  pub none_tallied : Tallied S v scan c 0 record { count = 0; total = pos 0 }
  unfolding tally
  none_tallied = record { count_is = refl; total_is = refl }

  pub sum_is : (t : Tally) → SFits w64 t.total → Tallied S v scan c (rows_given v) t → Ok (Fields.Sum t.count (to_z w64 (of_z w64 t.total))) ≡ sum_in S v scan c
  unfolding sum_in
  sum_is t f h = rw (to_z-of_z w64 t.total f, h.count_is, h.total_is)

  -- row r more, which the scan's reader sees or not
  module _ (r : ℕ) (t : Tally) (h : Tallied S v scan c r t) (who : Reader) (w : who ≡ reader (snapshot_of scan) 0) where
    pub row_unseen : visible_in S v who r ≡ false → Tallied S v scan c (r + 1) t
    unfolding tally
    row_unseen u = rw (add-one r) record { count_is = rw (← w, u) h.count_is; total_is = rw (← w, u) h.total_is }

    pub row_seen : visible_in S v who r ≡ true → (page : ℕ) → page ≡ scan_page S v scan.merges (range_of r) c → (total : ℤ)
        → total ≡ t.total +ℤ to_z w32 (word_in S v who page r c) → Tallied S v scan c (r + 1) record { count = t.count + 1; total = total }
    unfolding tally
    row_seen u page p total e =
        rw (add-one r) record { count_is = rw (← w, u, h.count_is) (add-one _); total_is = rw (← w, u, ← p, e, h.total_is) }
