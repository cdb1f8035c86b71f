-- The footprint of a call: the words of a memory, and the entries of a list, that it may change where it is accepted; it changes no other, in whatever memory. proofs/Footprint.antt proves it.
use Rattle.std.specs.Prelude.{◌≡◌, ◌⊎◌, Bool, List, [], ◌∷◌, ◌++◌, ℕ, zero, suc, ◌+◌, ◌*◌, T, eqb, length, get_or}
use Rattle.terms.specs.Measures.{range_rows}
use Rattle.terms.specs.declared.Shape.{Shape}
use Rattle.history.specs.History.{Call, begin, insert, update, delete, commit, abort, latest, read_at, own_read, open_scan, scan_read, sum, close, merge, release, page_cell, lineage, crossings, begin_as, keeper_at, move, any, range_of}
use Rattle.layout.specs.Regions.{first_slot, rows_at, transactions_at, scans_at, stamp_at, merges_at, commits_at}
use Rattle.layout.specs.View.{View, rows_given}
use Rattle.layout.specs.declared.Region.{Region}
use Rattle.layout.specs.declared.Region.TheVariants.{Header, Opens, RowTransaction, RowState, RowStamp, RowLink, RowMask, TailTransaction, TailRow, TailKind, TailMask, TailLink, TailState, TailStamp, TailValues, Used, Current, PageState, PageChunk, PageMade, PageReplaced, PageLineage, PageNewest, Cells, Changes, RowOrdinal, TailOrdinal, RowKeeper, TailKeeper, OpenKeeper}
use Rattle.layout.specs.Parts.{Part, stretch, word, words_where}
use Rattle.terms.specs.declared.ScanEntry.{ScanEntry}
use Rattle.terms.specs.Entries.{free_entry, first_index, is_scan}
use Rattle.model.specs.Stored.{current_in, chunk_of, pages_of, within, open_index}
use Rattle.model.specs.Writing.{next_slot, records_wanted, free_in, releasable}

-- ---- merge, in the words of Item 5 of document 02. Page p is the free page that it takes, `old` the page that was current.
-- the bytes "of the page it writes": its cells, and the page's own words, which say whose range and column it has, which merge made it and the latest stamp in it
abbrev pub page_written : ℕ → List Part
page_written p = stretch Cells (p * range_rows) range_rows ∷ word PageChunk p ∷ word PageMade p ∷ word PageNewest p ∷ []

-- "and those that say which page is current, waiting or free": the page that the chunk names, the states of both pages, and since which merge the old one waits: by that number a scan knows its page, and a release whether one does
abbrev pub standing_written : ℕ → ℕ → ℕ → List Part
standing_written chunk old p = word Current chunk ∷ word PageState p ∷ word PageState old ∷ word PageReplaced old ∷ []

-- "the lineage"
abbrev pub lineage_written : ℕ → List Part
lineage_written p = word PageLineage p ∷ []

-- "and the merges made"
abbrev pub merges_written : List Part
merges_written = word Header merges_at ∷ []

unfoldable pub merge_footprint : Shape → View → ℕ → ℕ → List Part
merge_footprint S v g c =
    let p = free_in S v in
    page_written p ++ (standing_written (chunk_of S g c) (current_in S v g c) p ++ (lineage_written p ++ merges_written))

-- ---- the other calls
-- the words of row r
abbrev pub row_written : ℕ → List Part
row_written r = word RowTransaction r ∷ word RowState r ∷ word RowStamp r ∷ word RowOrdinal r ∷ word RowLink r ∷ word RowMask r ∷ word RowKeeper r ∷ []

-- the cells of row r in the current pages of its range, for the first n columns
abbrev pub cells_written : Shape → View → ℕ → ℕ → List Part
cells_written S v r zero = []
cells_written S v r (suc c) = word Cells (current_in S v (range_of r) c * range_rows + within r) ∷ cells_written S v r c

-- n tail records from slot s on, but for the values in them
abbrev pub records_written : ℕ → ℕ → List Part
records_written s n =
    stretch TailTransaction s n
    ∷ stretch TailRow s n
    ∷ stretch TailKind s n
    ∷ stretch TailMask s n
    ∷ stretch TailLink s n
    ∷ stretch TailState s n
    ∷ stretch TailStamp s n
    ∷ stretch TailOrdinal s n
    ∷ stretch TailKeeper s n
    ∷ []

-- and the values
abbrev pub values_written : Shape → ℕ → ℕ → Part
values_written S s n = stretch TailValues (s * S.columns) (n * S.columns)

-- what takes records of row r writes beside them: its newest record, the records used of its range, and a note of the change
abbrev pub row_changed : View → ℕ → ℕ → List Part
row_changed v t r = word RowLink r ∷ word Used (range_of r) ∷ word Changes (open_index v t) ∷ []

-- the i-th after `from` of these transactions is t
abbrev pub bears_at : List ℕ → ℕ → ℕ → ℕ → Bool
bears_at ks from t i = eqb (get_or ks (from + i) 0) t

-- the words of region k at the used records of the first n ranges that bear transaction t; `used` has the records used of each range, `ks` the transaction of each record
abbrev pub records_bearing : Shape → List ℕ → List ℕ → ℕ → Region → ℕ → List Part
records_bearing S used ks t k zero = []
records_bearing S used ks t k (suc g) =
    let first = first_slot S.capacity g in
    words_where (bears_at ks first t) k first (get_or used g 0) ++ records_bearing S used ks t k g

-- the words of two regions: of the one at the given rows, of the other at the used records that bear transaction t
abbrev pub bearing : Shape → View → ℕ → Region → Region → List Part
bearing S v t rows tails = words_where (bears_at (v RowTransaction) 0 t) rows 0 (rows_given v) ++ records_bearing S (v Used) (v TailTransaction) t tails S.ranges

-- what the end of a transaction writes there: state, and stamp and ordinal of the commit
abbrev pub end_written : Shape → View → ℕ → List Part
end_written S v t = bearing S v t RowState TailState ++ (bearing S v t RowStamp TailStamp ++ bearing S v t RowOrdinal TailOrdinal)

-- the entry of an open transaction, at index j
abbrev pub open_written : ℕ → List Part
open_written j = word Opens j ∷ word Changes j ∷ word OpenKeeper j ∷ []

-- what a begin writes: the numbers given, and the first free entry
abbrev pub begin_written : View → List Part
begin_written v = word Header transactions_at ∷ open_written (first_index (λ k. eqb k 0) (v Opens))

unfoldable pub footprint : Shape → View → List ScanEntry → Call → List Part
footprint S v ps begin = begin_written v
footprint S v ps (begin_as k) = begin_written v
footprint S v ps (insert t vs) = word Header rows_at ∷ word Changes (open_index v t) ∷ row_written (rows_given v) ++ cells_written S v (rows_given v) S.columns
footprint S v ps (update t r m vs) =
    let s = next_slot S v (range_of r) in
    let n = records_wanted v r m in
    (word RowMask r ∷ values_written S s n ∷ row_changed v t r) ++ records_written s n
footprint S v ps (delete t r) = row_changed v t r ++ records_written (next_slot S v (range_of r)) 1
footprint S v ps (commit t s) = word Header stamp_at ∷ word Header commits_at ∷ open_written (open_index v t) ++ end_written S v t
footprint S v ps (abort t) = open_written (open_index v t) ++ end_written S v t
footprint S v ps (open_scan s) = word Header scans_at ∷ []
footprint S v ps (merge g c n) = merge_footprint S v g c
footprint S v ps release = words_where (releasable ps v) PageState 0 (pages_of S)
footprint S v ps (latest r c) = []
footprint S v ps (read_at s r c) = []
footprint S v ps (own_read t r c) = []
footprint S v ps (scan_read k r c) = []
footprint S v ps (sum k c) = []
footprint S v ps (close k) = []
footprint S v ps (page_cell c r) = []
footprint S v ps (lineage g c) = []
footprint S v ps (crossings r c mark from to stamps) = []
footprint S v ps (keeper_at s r c) = []
footprint S v ps (move to second) = []

-- ---- and of the scan list: the indices of the entries that a call may change
unfoldable pub entries_written : List ScanEntry → Call → List ℕ
entries_written ps (open_scan s) = first_index (λ p. eqb p.number 0) ps ∷ []
entries_written ps (close k) = first_index (is_scan k) ps ∷ []
entries_written ps begin = []
entries_written ps (insert t vs) = []
entries_written ps (update t r m vs) = []
entries_written ps (delete t r) = []
entries_written ps (commit t s) = []
entries_written ps (abort t) = []
entries_written ps (latest r c) = []
entries_written ps (read_at s r c) = []
entries_written ps (own_read t r c) = []
entries_written ps (scan_read k r c) = []
entries_written ps (sum k c) = []
entries_written ps (merge g c n) = []
entries_written ps release = []
entries_written ps (page_cell c r) = []
entries_written ps (lineage g c) = []
entries_written ps (crossings r c mark from to stamps) = []
entries_written ps (begin_as k) = []
entries_written ps (keeper_at s r c) = []
entries_written ps (move to second) = []

-- The list ps' is the list ps but for entries of these indices.
abbrev pub EntriesWithin : List ℕ → List ScanEntry → List ScanEntry → Type 0
EntriesWithin is ps ps' = (length ps' ≡ length ps) × ((i : ℕ) → (get_or ps' i free_entry ≡ get_or ps i free_entry) ⊎ T (any (eqb i) is))
