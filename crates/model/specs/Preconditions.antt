-- What the functions over the lent memory ask for before they read or write: the few facts of the view that an access rests on, by name. Every call tests the stored facts first, so that it can hand these on.
use Rattle.std.specs.Prelude.{ℕ, ◌≤◌, ◌<◌, ◌≡◌, eqb, get_or}
use Rattle.terms.specs.Measures.{most_transactions}
use Rattle.terms.specs.declared.Shape.{Shape}
use Rattle.layout.specs.declared.Sizes.{Sizes}
use Rattle.layout.specs.declared.Region.{Region}
use Rattle.layout.specs.View.{View, rows_given, used_in}
use Rattle.history.specs.History.{range_of}
use Rattle.terms.specs.Entries.{first_index}
use Rattle.model.specs.Stored.{open_index, page_in, chunks_of, pages_of}
use Rattle.layout.specs.Codes.{as_current}
use Rattle.layout.specs.Regions.{slot}

-- the shape that sizes were made of
abbrev pub shape_in : Sizes → Shape
shape_in s = record { columns = s.columns; ranges = s.ranges; capacity = s.capacity; spares = s.spares }

-- The counts lie within the measures: rows given, and tail records used of each range.
pub record Counted (s : Sizes) (v : View) : Type 0 where
  pub rows_given : rows_given v ≤ s.rows
  pub records_used : (g : ℕ) → g < s.ranges → used_in v g ≤ s.capacity

-- What reading a row and following its links relies on: no more rows are given and no more records used than there are, a row's link is a used record or 0,
-- and a used record's link is lower than its own number. So a walk ends, and stays among the records that there are.
pub record Linked (s : Sizes) (v : View) : Type 0 where
  pub rows_few : rows_given v ≤ s.rows
  pub used_few : (g : ℕ) → g < s.ranges → used_in v g ≤ s.capacity
  pub rows_linked : (r : ℕ) → r < rows_given v → get_or (v Region.RowLink) r 0 ≤ used_in v (range_of r)
  pub links_lower : (g k : ℕ) → g < s.ranges → 1 ≤ k → k ≤ used_in v g → get_or (v Region.TailLink) (slot (shape_in s) g k) 0 < k

-- Each current page is one of the pool.
abbrev pub Pooled : Sizes → View → Type 0
Pooled s v = (i : ℕ) → i < s.chunks → get_or (v Region.Current) i 0 < s.pages

-- Each chunk names a page of the pool that is current and of that chunk: so no two chunks name one page.
pub record ChunksCurrent (S : Shape) (v : View) : Type 0 where
  pub inside : (i : ℕ) → i < chunks_of S → get_or (v Region.Current) i 0 < pages_of S
  pub state : (i : ℕ) → i < chunks_of S → (page_in v (get_or (v Region.Current) i 0)).state ≡ as_current
  pub chunk : (i : ℕ) → i < chunks_of S → (page_in v (get_or (v Region.Current) i 0)).chunk ≡ i

-- j is the index of the first free open entry
pub record FreeAt (v : View) (j : ℕ) : Type 0 where
  pub low : j < most_transactions
  pub first : j ≡ first_index (λ k. eqb k 0) (v Region.Opens)

-- j is the index of open transaction t
pub record OpenAt (v : View) (t j : ℕ) : Type 0 where
  pub low : j < most_transactions
  pub found : j ≡ open_index v t
