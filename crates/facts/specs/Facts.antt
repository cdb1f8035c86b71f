-- The stored facts: section 9 of docs/SPECIFICATION.md, one definition for each of its rules, for 9.6 two, in its order, over
-- the view of a memory and the list of open scans. A call answers 2 where one of them fails, and besides only for the lengths and measures of 8.8 (Usable): they speak of given rows, used tail
-- records, current and waiting pages and open numbers alone, and what stands elsewhere may be anything.
-- What a word counts as that no fact governs: the chunk of a waiting page is taken modulo columns × ranges (rule 8.4).
use Rattle.std.specs.Prelude.{ℕ, zero, suc, ◌+◌, ◌-◌, ◌/◌, ◌%◌, Bool, true, ◌&&◌, ◌||◌, List, map, eqb, leb, ltb, get_or}
use Rattle.layout.specs.Regions.{first_slot}
use Rattle.layout.specs.Codes.{as_current, as_waiting}
use Rattle.terms.specs.Measures.{range_rows, most_numbers, most_scans}
use Rattle.terms.specs.declared.ScanEntry.{ScanEntry}
use Rattle.loops.specs.Search.{region, all_between}
use Rattle.layout.specs.declared.Sizes.{Sizes}
use Rattle.layout.specs.declared.Region.{Region}
use Rattle.layout.specs.declared.Region.TheVariants.{Opens, RowTransaction, RowStamp, RowLink, TailTransaction, TailRow, TailLink, TailStamp, Used, Current, PageState, PageChunk, PageReplaced, PageLineage, PageNewest}
use Rattle.layout.specs.View.{View, rows_given, transactions_given, scans_given, last_stamp, merges_made, commits_made, used_in}
use Rattle.scans.specs.Entries.{open_count, every_open, differ}

-- ---- for all

-- every number below n passes
unfoldable pub each : ℕ → (ℕ → Bool) → Bool
each zero f = true
each (suc n) f = each n f && f n

-- the words of region k of the given rows, and of the used tail records, are from low to high
unfoldable pub rows_between : View → Region → ℕ → ℕ → Bool
rows_between v k low high = all_between low high (region (v k) 0 (rows_given v))

unfoldable pub range_between : Sizes → View → Region → ℕ → ℕ → ℕ → Bool
range_between s v k low high g = all_between low high (region (v k) (first_slot s.capacity g) (used_in v g))

-- ---- current and waiting pages. A page is current if a chunk names it, and it waits if its state is that of a waiting page or above. Any other page is free, whatever its words say.

-- word k of the page that chunk i names is at most a number
unfoldable pub current_at_most : View → Region → ℕ → ℕ → Bool
current_at_most v k most i = leb (get_or (v k) (get_or (v Current) i 0) 0) most

-- word k of page p is at most a number, if the page waits
unfoldable pub waiting_at_most : View → Region → ℕ → ℕ → Bool
waiting_at_most v k most p = ltb (get_or (v PageState) p 0) as_waiting || leb (get_or (v k) p 0) most

-- ---- 9.1: counts within the measures; the measures are tested before (`usable`)
unfoldable pub stored_within : Sizes → View → Bool
stored_within s v =
    leb (rows_given v) s.rows
    && (all_between 0 s.capacity (v Used) && (leb (transactions_given v) most_numbers && leb (scans_given v) most_numbers))

unfoldable pub counts_within : Sizes → View → List ScanEntry → Bool
counts_within s v ps = stored_within s v && leb (open_count ps) most_scans

-- ---- 9.2: a used record's row
unfoldable pub row_named : Sizes → View → ℕ → ℕ → Bool
row_named s v g i = let r = get_or (v TailRow) (first_slot s.capacity g + i) 0 in ltb r (rows_given v) && eqb (r / range_rows) g

unfoldable pub range_names_rows : Sizes → View → ℕ → Bool
range_names_rows s v g = each (used_in v g) (row_named s v g)

unfoldable pub records_name_rows : Sizes → View → Bool
records_name_rows s v = each s.ranges (range_names_rows s v)

-- ---- 9.3: open and recorded numbers
unfoldable pub numbers_given : Sizes → View → List ScanEntry → Bool
numbers_given s v ps =
    rows_between v RowTransaction 1 (transactions_given v)
    && (each s.ranges (range_between s v TailTransaction 1 (transactions_given v))
    && (all_between 0 (transactions_given v) (v Opens) && every_open (λ p. leb p.number (scans_given v)) ps))

-- ---- 9.4: links
-- link of row r, in range g: at most the number `most`
unfoldable pub link_holds : Sizes → View → ℕ → ℕ → ℕ → ℕ → Bool
link_holds s v g most r link = eqb link 0 || (leb link most && eqb (get_or (v TailRow) (first_slot s.capacity g + (link - 1)) 0) r)

unfoldable pub row_linked : Sizes → View → ℕ → Bool
row_linked s v r = link_holds s v (r / range_rows) (used_in v (r / range_rows)) r (get_or (v RowLink) r 0)

-- the record after i others: lower numbers are those up to i
unfoldable pub record_linked : Sizes → View → ℕ → ℕ → Bool
record_linked s v g i =
    link_holds s v g i (get_or (v TailRow) (first_slot s.capacity g + i) 0) (get_or (v TailLink) (first_slot s.capacity g + i) 0)

unfoldable pub range_linked : Sizes → View → ℕ → Bool
range_linked s v g = each (used_in v g) (record_linked s v g)

unfoldable pub links_hold : Sizes → View → Bool
links_hold s v = each (rows_given v) (row_linked s v) && each s.ranges (range_linked s v)

-- ---- 9.5: stamps
unfoldable pub stamps_within : Sizes → View → List ScanEntry → Bool
stamps_within s v ps =
    rows_between v RowStamp 0 (last_stamp v)
    && (each s.ranges (range_between s v TailStamp 0 (last_stamp v))
    && ((each s.chunks (current_at_most v PageNewest (last_stamp v)) && each s.pages (waiting_at_most v PageNewest (last_stamp v)))
    && every_open (λ p. leb p.stamp (last_stamp v)) ps))

-- ---- 9.6: counts of merges and of commits
unfoldable pub merges_within : Sizes → View → List ScanEntry → Bool
merges_within s v ps =
    every_open (λ p. leb p.merges (merges_made v)) ps && each s.pages (waiting_at_most v PageReplaced (merges_made v))

unfoldable pub commits_within : View → List ScanEntry → Bool
commits_within v ps = every_open (λ p. leb p.commits (commits_made v)) ps

-- ---- 9.7: open numbers differ
unfoldable pub open_differ : View → List ScanEntry → Bool
open_differ v ps = differ (v Opens) && differ (map (λ p. p.number) ps)

-- ---- 9.8: current pages
-- The page that a chunk names is in the pool, and its own words say that it is current and of that chunk: so it does not wait, and no two chunks name one page.
-- Free pages are those that are neither named nor waiting.
unfoldable pub chunk_current : Sizes → View → ℕ → Bool
chunk_current s v i =
    let p = get_or (v Current) i 0 in ltb p s.pages && (eqb (get_or (v PageState) p 0) as_current && eqb (get_or (v PageChunk) p 0) i)

unfoldable pub chunks_current : Sizes → View → Bool
chunks_current s v = each s.chunks (chunk_current s v)

-- ---- 9.9: lineages
abbrev pub page_range : Sizes → View → ℕ → ℕ
page_range s v p = get_or (v PageChunk) p 0 % s.chunks / s.columns

unfoldable pub current_lineage : Sizes → View → ℕ → Bool
current_lineage s v i = current_at_most v PageLineage (used_in v (i / s.columns)) i

unfoldable pub waiting_lineage : Sizes → View → ℕ → Bool
waiting_lineage s v p = waiting_at_most v PageLineage (used_in v (page_range s v p)) p

unfoldable pub lineages_within : Sizes → View → Bool
lineages_within s v = each s.chunks (current_lineage s v) && each s.pages (waiting_lineage s v)

-- ---- all of them, in that order
unfoldable pub facts_hold : Sizes → View → List ScanEntry → Bool
facts_hold s v ps =
    counts_within s v ps
    && (records_name_rows s v
    && (numbers_given s v ps
    && (links_hold s v
    && (stamps_within s v ps && (merges_within s v ps && (commits_within v ps && (open_differ v ps && (chunks_current s v && lineages_within s v))))))))
