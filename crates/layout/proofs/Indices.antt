-- Where the words of a row, a record and a page lie: every index of the code is below its region's length, and no sum wraps.
use Prim.Native.Nat.{ℕ, ◌+◌, ◌*◌, ◌/◌, ◌≤◌, ◌<◌}
use native.Mathlib.Omega.{arith}
use native.Mathlib.Nat.{mul-le-mul, mul-le-mul_right, suc-mul, mul_comm, div-lt_iff_lt-mul}
use Rattle.terms.specs.Measures.{range_rows, most_slots, most_chunks}
use Rattle.layout.specs.declared.Sizes.{Sizes}
use Rattle.layout.specs.Regions.{need}
use Rattle.layout.specs.Sizes.{Proper}

-- block p, of blocks of one size, ends within them
block_in : (p n size : ℕ) → p < n → p * size + size ≤ n * size
block_in p n size h = omega (arith, mul-le-mul_right size h, suc-mul p size)

module _ (s : Sizes) (p : Proper s) where
  -- the records of a range
  pub tail_in : (g : ℕ) → g < s.ranges → g * s.capacity + s.capacity ≤ s.slots
  tail_in g h = omega (arith, p.slots_are, block_in g s.ranges s.capacity h)

  -- the values of a record
  pub values_in_lem : (k : ℕ) → k < s.slots → k * s.columns + s.columns ≤ s.values
  values_in_lem k h = omega (arith, p.values_are, block_in k s.slots s.columns h)

  -- the current pages of a range
  pub chunks_in : (g : ℕ) → g < s.ranges → g * s.columns + s.columns ≤ s.chunks
  chunks_in g h = omega (arith, p.chunks_are, mul_comm s.columns s.ranges, block_in g s.ranges s.columns h)

  -- the range of a row
  pub range_in : (r : ℕ) → r < s.rows → r / range_rows < s.ranges
  range_in r h = omega (arith, p.rows_are)

  pub slots_few : s.slots ≤ most_slots
  slots_few = omega (arith, p.slots_are, mul-le-mul p.ranges_to p.capacity_to)

  pub chunks_some : 1 ≤ s.chunks
  chunks_some = omega (arith, p.chunks_are, mul-le-mul p.columns_from p.ranges_from)

  pub chunks_few : s.chunks ≤ most_chunks
  chunks_few = omega (arith, p.chunks_are, mul-le-mul p.columns_to p.ranges_to)

  -- the range of a chunk
  pub chunk_range : (i : ℕ) → i < s.chunks → i / s.columns < s.ranges
  chunk_range i b =
      let c : i < s.ranges * s.columns = omega (arith, p.chunks_are, mul_comm s.columns s.ranges) in
      (div-lt_iff_lt-mul {k = s.columns} {x = i} {y = s.ranges} p.columns_from).1 c

-- the regions whose lengths are not fixed are among the words needed
pub sizes_need : (s : Sizes) → s.rows + s.slots + s.values + s.ranges + s.chunks + s.pages * range_rows ≤ need s
unfolding need
sizes_need s = omega arith
