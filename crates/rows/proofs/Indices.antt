-- That an index lies in its region: the products of the sizes.
use Prim.Native.Nat.{ℕ, ◌+◌, ◌*◌, ◌-◌, ◌≤◌, ◌<◌}
use mathlib.Core.Path.{◌≡◌}
use native.Mathlib.Omega.{arith}
use native.Mathlib.Nat.{mul-le-mul}
use lib.ListN.{get_or}
use Rattle.terms.specs.Measures.{most_columns, most_slots, most_pages}
use Rattle.layout.specs.declared.Sizes.{Sizes}
use Rattle.layout.specs.declared.Region.TheVariants.{RowLink}
use Rattle.layout.specs.View.{View, rows_given, used_in}
use Rattle.history.specs.History.{range_of}
use Rattle.layout.specs.Sizes.{Proper}
use Rattle.layout.proofs.Indices.{tail_in, values_in_lem, chunks_in, slots_few, chunks_few}
use Rattle.model.specs.Preconditions.{Linked}

module _ (s : Sizes) (proper : Proper s) where
  pub slot_in : (g k : ℕ) → g < s.ranges → 1 ≤ k → k ≤ s.capacity → g * s.capacity + (k - 1) < s.slots
  slot_in g k h l m = omega (arith, tail_in s proper g h)

  -- the first n records of range g
  pub stretch_in : (g n : ℕ) → g < s.ranges → n ≤ s.capacity → g * s.capacity + n ≤ s.slots
  stretch_in g n h l = omega (arith, tail_in s proper g h)

  pub pages_few : s.pages ≤ most_pages
  pages_few = omega (arith, proper.pages_are, proper.spares_to, chunks_few s proper)

  -- the values of all records are at most so many
  pub values_few : s.values ≤ most_slots * most_columns
  values_few = omega (arith, proper.values_are, mul-le-mul (slots_few s proper) proper.columns_to)

  pub value_in_lem : (at c : ℕ) → at < s.slots → c < s.columns → at * s.columns + c < s.values
  value_in_lem at c h l = omega (arith, values_in_lem s proper at h)

  pub chunk_in : (g c : ℕ) → g < s.ranges → c < s.columns → g * s.columns + c < s.chunks
  chunk_in g c h l = omega (arith, chunks_in s proper g h)

  pub range_in : (r : ℕ) → r < s.rows → range_of r < s.ranges
  unfolding range_of
  range_in r h = omega (arith, proper.rows_are)

  -- a given row: its index, its range, and its newest record
  pub row_in_lem : (v : View) → Linked s v → (r : ℕ) → r < rows_given v
      → (r < s.rows) × (range_of r < s.ranges) × (get_or (v RowLink) r 0 ≤ used_in v (range_of r)) × (used_in v (range_of r) ≤ s.capacity)
  row_in_lem v linked r h =
      let l : r < s.rows = omega (arith, linked.rows_few) in
      (l, range_in r l, linked.rows_linked r h, linked.used_few (range_of r) (range_in r l))

  -- its range g and its newest record as they were read
  module _ (v : View) (linked : Linked s v) (r g : ℕ) (h : r < rows_given v) (e : g ≡ range_of r) where
    pub row_range : g < s.ranges
    row_range = rw e (row_in_lem v linked r h).1

    pub row_link : (link : ℕ) → link ≡ get_or (v RowLink) r 0 → link ≤ used_in v g
    row_link link l = rw (e, l) (row_in_lem v linked r h).2
