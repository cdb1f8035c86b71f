-- The steps between the model's definitions of merge and release and the code's functions: each function writes what one of these says.
use Rattle.std.specs.Prelude.{ℕ, zero, suc, ◌+◌, ◌*◌, ◌≤◌, ◌<◌, ◌≡◌, Bool, not, cond, ◌&&◌, List, ltb, get_or}
use Rattle.terms.specs.Measures.{range_rows}
use Rattle.terms.specs.declared.Shape.{Shape}
use Rattle.loops.specs.Change.{changed}
use Rattle.layout.specs.declared.Sizes.{Sizes}
use Rattle.layout.specs.declared.Region.{Region}
use Rattle.layout.specs.View.{View, renew, put}
use Rattle.layout.specs.Regions.{merges_at}
use Rattle.model.specs.Stored.{record_in, page_in, value_in, current_in, within, waiting_page}
use Rattle.layout.specs.Codes.{as_free, as_current, as_waiting}
use Rattle.model.specs.Writing.{applies, applied, free_in}
use Rattle.model.specs.Preconditions.{shape_in, ChunksCurrent}

-- ---- merge
-- the record at slot k, a committed setting of column c, goes into page p
unfoldable pub applied_one : Shape → ℕ → ℕ → ℕ → View → View
applied_one S k c p v =
    let x = record_in v k in
    cond (applies c x) (put Region.Cells (p * range_rows + within x.row) (value_in S v k c) v) v

-- and its stamp counts
unfoldable pub later_one : ℕ → ℕ → View → ℕ → ℕ
later_one k c v stamp =
    let x = record_in v k in
    cond (applies c x && ltb stamp x.stamp) x.stamp stamp

-- n records after `low` of range g go into page p
unfoldable pub applied_all : Shape → ℕ → ℕ → ℕ → ℕ → ℕ → View → View
applied_all S g c p low n v = renew Region.Cells (applied S v g c p low n (v Region.Cells)) v

-- the words of page p, made current by merge m
unfoldable pub page_put : ℕ → ℕ → ℕ → ℕ → ℕ → View → View
page_put p chunk m lineage newest v =
    put Region.PageNewest p newest
    (put Region.PageLineage p lineage (put Region.PageMade p m (put Region.PageChunk p chunk (put Region.PageState p as_current v))))

-- page p takes the place of page `old`, which waits
unfoldable pub page_replaced : ℕ → ℕ → ℕ → ℕ → View → View
page_replaced old p chunk m v =
    put Region.Header merges_at m
    (put Region.Current chunk p (put Region.PageReplaced old m (put Region.PageState old as_waiting v)))

-- What a merge of column c of range g through record n into page p asks of the memory: its tests have shown it, but for the last, which is a stored fact.
pub record MergeReady (s : Sizes) (v : View) (g c n p : ℕ) : Type 0 where
  pub range_below : g < s.ranges
  pub column_below : c < s.columns
  pub from : (page_in v (current_in (shape_in s) v g c)).lineage ≤ n
  pub to : n ≤ s.capacity
  pub free : p ≡ free_in (shape_in s) v
  pub page_below : p < s.pages
  pub chunks_are_current : ChunksCurrent (shape_in s) v

-- ---- release
-- the least of the first n numbers of a list, or the highest word
unfoldable pub least_of : List ℕ → ℕ → ℕ
least_of l zero = 4294967295
least_of l (suc n) = cond (ltb (get_or l n 0) (least_of l n)) (get_or l n 0) (least_of l n)

-- Page p waits, and no scan needs it: `least` are the fewest merges that were made before an open scan.
unfoldable pub freeable : ℕ → View → ℕ → Bool
freeable least v p = waiting_page (get_or (v Region.PageState) p 0) && not (ltb least (get_or (v Region.PageReplaced) p 0))

unfoldable pub freeables_freed : ℕ → ℕ → View → View
freeables_freed least n v = renew Region.PageState (changed (λ p w. cond (freeable least v p) as_free w) 0 n (v Region.PageState)) v
