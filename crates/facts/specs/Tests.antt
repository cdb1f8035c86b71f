-- What the functions that test the facts cite in their contracts beside the facts: counts that are within the sizes, and the facts in the order in which the memory is gone through. Nothing here is needed to read the facts.
use Rattle.std.specs.Prelude.{ℕ, ◌≤◌, ◌≡◌, Bool, true, ◌&&◌, List, map, leb}
use Rattle.layout.specs.declared.Sizes.{Sizes}
use Rattle.layout.specs.Sizes.{Proper}
use Rattle.layout.specs.declared.Region.TheVariants.{Opens, RowTransaction, RowStamp, TailTransaction, TailStamp, PageReplaced, PageNewest}
use Rattle.terms.specs.Measures.{within_limits}
use Rattle.terms.specs.declared.ScanEntry.{ScanEntry}
use Rattle.words.specs.Words.{words}
use Rattle.loops.specs.Search.{all_between}
use Rattle.layout.specs.View.{View, rows_given, transactions_given, scans_given, last_stamp, merges_made, used_in, view_of, Suffices}
use Rattle.facts.specs.Usable.{stored_shape, stored_sizes}
use Rattle.scans.specs.Entries.{every_open, differ}
use Rattle.facts.specs.Facts.{stored_within, commits_within, links_hold, chunks_current, each, row_linked, rows_between, range_between, range_names_rows, range_linked, chunk_current, current_at_most, current_lineage, waiting_at_most, waiting_lineage}

-- a memory in which every access to what is given and used lies within it: the counts of rows and of records are within the sizes
pub record Ready (s : Sizes) (m : List ℕ) : Type 0 where
  pub room : Suffices s m
  pub proper : Proper s
  pub rows_in : rows_given (view_of s m) ≤ s.rows
  pub records_in : (g : ℕ) → used_in (view_of s m) g ≤ s.capacity

-- The facts that speak of the memory alone.
pub record MemoryFacts (s : Sizes) (v : View) : Type 0 where
  pub counts : stored_within s v ≡ true
  pub links : links_hold s v ≡ true
  pub chunks_are_current : chunks_current s v ≡ true

-- What holds of a memory that passed, whatever table it came with, even one that stands for no list: every access of a call rests on this.
pub record Passed (s : Sizes) (m : List ℕ) : Type 0 where
  pub sizes_are : s ≡ stored_sizes (words m)
  pub within : within_limits (stored_shape (words m)) ≡ true
  pub room : Suffices s m
  pub facts : MemoryFacts s (view_of s m)

-- ---- the facts by what they speak of

-- the used tail records of range g
unfoldable pub range_holds : Sizes → View → ℕ → Bool
range_holds s v g =
    range_names_rows s v g
    && (range_between s v TailTransaction 1 (transactions_given v) g && (range_linked s v g && range_between s v TailStamp 0 (last_stamp v) g))

-- the given rows
unfoldable pub rows_hold : Sizes → View → Bool
rows_hold s v =
    rows_between v RowTransaction 1 (transactions_given v) && (each (rows_given v) (row_linked s v) && rows_between v RowStamp 0 (last_stamp v))

-- the page that chunk i names
unfoldable pub current_holds : Sizes → View → ℕ → Bool
current_holds s v i = chunk_current s v i && (current_at_most v PageNewest (last_stamp v) i && current_lineage s v i)

-- the waiting pages
unfoldable pub waiting_hold : Sizes → View → Bool
waiting_hold s v =
    each s.pages (waiting_at_most v PageNewest (last_stamp v))
    && (each s.pages (waiting_at_most v PageReplaced (merges_made v)) && each s.pages (waiting_lineage s v))

unfoldable pub pages_hold : Sizes → View → Bool
pages_hold s v = each s.chunks (current_holds s v) && waiting_hold s v

-- the open transactions
unfoldable pub opens_hold : View → Bool
opens_hold v = all_between 0 (transactions_given v) (v Opens) && differ (v Opens)

-- the open scans: their counts, and all of them
unfoldable pub scan_counts_hold : View → List ScanEntry → Bool
scan_counts_hold v ps = every_open (λ p. leb p.merges (merges_made v)) ps && commits_within v ps

unfoldable pub scans_hold : View → List ScanEntry → Bool
scans_hold v ps =
    every_open (λ p. leb p.number (scans_given v)) ps
    && (every_open (λ p. leb p.stamp (last_stamp v)) ps
    && (scan_counts_hold v ps && differ (map (λ p. p.number) ps)))
