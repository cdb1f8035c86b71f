-- What the accepted calls write. Each is a few puts, or one pass that writes one region.
use Rattle.std.specs.Prelude.{Bool, not, cond, ◌&&◌, List, ℕ, zero, suc, ◌+◌, ◌*◌, ◌-◌, ltb, eqb, get_or, set, ℤ, pos}
use Rattle.std.specs.Int.Bits.{bit_or, bit_xor}
use Rattle.std.specs.Int.{w32}
use Rattle.std.proofs.Common.{of_z}
use Rattle.terms.specs.Measures.{range_rows}
use Rattle.terms.specs.declared.Shape.{Shape}
use Rattle.terms.specs.declared.Form.{Form}
use Rattle.history.specs.History.{Commit, no_commit, any, bit, range_of}
use Rattle.loops.specs.Change.{changed, filled, numbered, copied, marked}
use Rattle.layout.specs.Regions.{columns_word, columns_at, ranges_at, capacity_at, spares_at, rows_at, transactions_at, stamp_at, merges_at, commits_at, first_slot, slot}
use Rattle.layout.specs.View.{View, blank, renew, put, rows_given, transactions_given, merges_made, commits_made, used_in}
use Rattle.layout.specs.declared.Region.{Region}
use Rattle.layout.specs.declared.Region.TheVariants.{Header, Opens, RowTransaction, RowState, RowStamp, RowLink, RowMask, TailTransaction, TailRow, TailKind, TailMask, TailLink, TailState, TailStamp, TailValues, Used, Current, PageState, PageChunk, PageMade, PageReplaced, PageLineage, PageNewest, Cells, Changes, RowOrdinal, TailOrdinal, RowKeeper, TailKeeper, OpenKeeper}
use Rattle.terms.specs.declared.ScanEntry.{ScanEntry}
use Rattle.layout.specs.Sizes.{sizes_of}
use Rattle.terms.specs.Entries.{first_index}
use Rattle.model.specs.Stored.{RecordWords, row_in, record_in, page_in, value_in, current_in, chunk_of, chunks_of, pages_of, cell_in, within, next_word, committed_state, setting_kind, free_page, current_page, waiting_page, first_from, open_index, row_keeper, open_keeper}
use Rattle.layout.specs.Codes.{as_open, as_committed, as_aborted, as_original, as_setting, as_delete, as_free, as_current, as_waiting}

-- ---- open transactions
-- begin: the first free entry takes the next number and the keeper, with nothing noted
unfoldable pub begun : ℕ → View → View
begun keeper v =
    let n = transactions_given v + 1 in
    let j = first_index (λ k. eqb k 0) (v Opens) in
    put Header transactions_at n (put OpenKeeper j keeper (put Changes j 0 (put Opens j n v)))

-- A row or record made by open transaction t is noted. One note for a call is enough: what is asked of the count is whether it is 0.
unfoldable pub noted : ℕ → View → View
noted t v =
    let j = open_index v t in
    put Changes j (next_word (get_or (v Changes) j 0)) v

-- The records of every range that bear transaction t get w: in each range those used.
abbrev pub mark_tails : Shape → List ℕ → List ℕ → ℕ → ℕ → ℕ → List ℕ → List ℕ
mark_tails S used ks t w zero l = l
mark_tails S used ks t w (suc g) l =
    marked ks (first_slot S.capacity g) (get_or used g 0) t (first_slot S.capacity g) w (mark_tails S used ks t w g l)

-- every given row and used record that bears t gets w: the rows in one region, the records in another
unfoldable pub mark_all : Shape → ℕ → Region → Region → ℕ → View → View
mark_all S t rows tails w v =
    renew tails (mark_tails S (v Used) (v TailTransaction) t w S.ranges (v tails)) (renew rows (marked (v RowTransaction) 0 (rows_given v) t 0 w (v rows)) v)

-- commit and abort: they get the state, and the stamp and the ordinal of the commit
unfoldable pub settled : Shape → ℕ → ℕ → Commit → View → View
settled S t state s v =
    mark_all S t RowOrdinal TailOrdinal s.ordinal (mark_all S t RowStamp TailStamp s.stamp (mark_all S t RowState TailState state v))

-- the entry of t is free again
unfoldable pub freed : ℕ → View → View
freed t v =
    let j = open_index v t in
    put OpenKeeper j 0 (put Changes j 0 (put Opens j 0 v))

-- the commit that comes next, at stamp s
abbrev pub next_in : View → ℕ → Commit
next_in v s = record { stamp = s; ordinal = next_word (commits_made v) }

unfoldable pub committed_in : Shape → ℕ → ℕ → View → View
committed_in S t s v =
    put Header commits_at (next_in v s).ordinal (put Header stamp_at s (freed t (settled S t as_committed (next_in v s) v)))

unfoldable pub aborted_in : Shape → ℕ → View → View
aborted_in S t v = freed t (settled S t as_aborted no_commit v)

-- ---- insert
-- the values of the first n columns go into cell i of the current pages of range g
abbrev pub put_cells : Shape → List ℕ → ℕ → ℕ → List ℤ → ℕ → List ℕ → List ℕ
put_cells S current g i vs zero cells = cells
put_cells S current g i vs (suc c) cells =
    set (put_cells S current g i vs c cells) (get_or current (chunk_of S g c) 0 * range_rows + i) (of_z w32 (get_or vs c (pos 0)))

-- row r of open transaction t, whose keeper it bears
unfoldable pub inserted_at : Shape → ℕ → List ℤ → ℕ → View → View
inserted_at S t vs r v =
    noted t
    (put Header rows_at (r + 1)
    (renew Cells (put_cells S (v Current) (range_of r) (within r) vs S.columns (v Cells))
    (put RowMask r 0 (put RowLink r 0 (put RowKeeper r (open_keeper v t) (put RowOrdinal r 0 (put RowStamp r 0 (put RowState r as_open (put RowTransaction r t v)))))))))

unfoldable pub inserted_in : Shape → ℕ → List ℤ → View → View
inserted_in S t vs v = inserted_at S t vs (rows_given v) v

-- ---- update and delete
-- the slot of the next record of range g
unfoldable pub next_slot : Shape → View → ℕ → ℕ
next_slot S v g = slot S g (used_in v g + 1)

-- One tail record more for row r, of open transaction t, with a keeper: it links to the row's newest one and is the row's newest now.
unfoldable pub appended : Shape → ℕ → ℕ → ℕ → ℕ → ℕ → View → View
appended S t keeper r kind mask v =
    let g = range_of r in
    let k = used_in v g + 1 in
    let s = next_slot S v g in
    put RowLink r k
    (put Used g k
    (put TailKeeper s keeper
    (put TailOrdinal s 0
    (put TailStamp s 0
    (put TailState s as_open
    (put TailLink s (row_in v r).link (put TailMask s mask (put TailKind s kind (put TailRow s r (put TailTransaction s t v))))))))))

-- the words of all columns of the record at slot s
unfoldable pub filled_in : Shape → ℕ → (ℕ → ℕ) → View → View
filled_in S s f v = renew TailValues (changed (λ c w. f c) (s * S.columns) S.columns (v TailValues)) v

-- the columns of a mask that no update has set
abbrev pub new_bits : ℕ → ℕ → ℕ
new_bits mask old = bit_xor (bit_or mask old) old

unfoldable pub new_bits_in : View → ℕ → ℕ → ℕ
new_bits_in v r mask = new_bits mask (row_in v r).mask

-- how many records an update takes
unfoldable pub records_wanted : View → ℕ → ℕ → ℕ
records_wanted v r mask = cond (eqb (new_bits_in v r mask) 0) 1 2

-- The original value of a column that was never set is the row's cell in the current page.
abbrev pub original_word : Shape → View → ℕ → ℕ → ℕ
original_word S v r c = cell_in v (current_in S v (range_of r) c) (within r)

-- Original values bear the keeper of the row's inserter, whoever's update writes them down.
unfoldable pub original_appended : Shape → ℕ → ℕ → ℕ → View → View
original_appended S t r mask v = filled_in S (next_slot S v (range_of r)) (original_word S v r) (appended S t (row_keeper v r) r as_original (new_bits_in v r mask) v)

unfoldable pub setting_appended : Shape → ℕ → ℕ → ℕ → ℕ → List ℤ → View → View
setting_appended S t keeper r mask vs v =
    filled_in S (next_slot S v (range_of r)) (λ c. of_z w32 (get_or vs c (pos 0))) (appended S t keeper r as_setting mask v)

unfoldable pub updated_in : Shape → ℕ → ℕ → ℕ → List ℤ → View → View
updated_in S t r mask vs v =
    let keeper = open_keeper v t in
    let two = setting_appended S t keeper r mask vs (original_appended S t r mask v) in
    let one = setting_appended S t keeper r mask vs v in
    noted t (put RowMask r (bit_or mask (row_in v r).mask) (cond (eqb (new_bits_in v r mask) 0) one two))

unfoldable pub deleted_in : Shape → ℕ → ℕ → View → View
deleted_in S t r v = noted t (appended S t (open_keeper v t) r as_delete 0 v)

-- ---- merge
-- whether record x is a committed setting of column c
unfoldable pub applies : ℕ → RecordWords → Bool
applies c x = bit x.mask c && (setting_kind x.kind && committed_state x.state)

-- One forward pass over the n records after `low` of range g: each committed setting overwrites the cell of its row in page p.
unfoldable pub applied : Shape → View → ℕ → ℕ → ℕ → ℕ → ℕ → List ℕ → List ℕ
applied S v g c p low zero cells = cells
applied S v g c p low (suc n) cells =
    let s = slot S g (suc (low + n)) in
    let x = record_in v s in
    let done = applied S v g c p low n cells in
    cond (applies c x) (set done (p * range_rows + within x.row) (value_in S v s c)) done

-- and the latest of their stamps
unfoldable pub newest_of : Shape → View → ℕ → ℕ → ℕ → ℕ → ℕ → ℕ
newest_of S v g c low zero stamp = stamp
newest_of S v g c low (suc n) stamp =
    let x = record_in v (slot S g (suc (low + n))) in
    let done = newest_of S v g c low n stamp in
    cond (applies c x && ltb done x.stamp) x.stamp done

-- Rule 8.6: a page is free that neither waits nor is the one that its chunk names.
unfoldable pub named_in : Shape → View → ℕ → Bool
named_in S v p = ltb (page_in v p).chunk (chunks_of S) && eqb (get_or (v Current) (page_in v p).chunk 0) p

-- a free page whose state still says current: no call leaves one
unfoldable pub stray_in : Shape → View → ℕ → Bool
stray_in S v p = current_page (page_in v p).state && not (named_in S v p)

-- the first free page whose state says so, else the first stray one, else the number of pages
unfoldable pub free_in : Shape → View → ℕ
free_in S v =
    let p = first_from (λ p. free_page (page_in v p).state) (pages_of S) 0 in
    cond (ltb p (pages_of S)) p (first_from (stray_in S v) (pages_of S) 0)

unfoldable pub merged_in : Shape → ℕ → ℕ → ℕ → View → View
merged_in S g c n v =
    let old = current_in S v g c in
    let x = page_in v old in
    let p = free_in S v in
    let m = next_word (merges_made v) in
    let low = x.lineage in
    put Header merges_at m
    (put Current (chunk_of S g c) p
    (put PageReplaced old m
    (put PageState old as_waiting
    (put PageNewest p (newest_of S v g c low (n - low) x.newest)
    (put PageLineage p n
    (put PageMade p m
    (put PageChunk p (chunk_of S g c)
    (put PageState p as_current
    (renew Cells (applied S v g c p low (n - low) (copied (v Cells) (old * range_rows) range_rows (p * range_rows) (v Cells))) v)))))))))

-- ---- release
-- A scan that was opened before merge m needs the page that m replaced.
abbrev pub needed_in : List ScanEntry → ℕ → Bool
needed_in ps m = any (λ s. not (eqb s.number 0) && ltb s.merges m) ps

unfoldable pub releasable : List ScanEntry → View → ℕ → Bool
releasable ps v p =
    let x = page_in v p in
    waiting_page x.state && not (needed_in ps x.replaced)

unfoldable pub released_in : Shape → List ScanEntry → View → View
released_in S ps v = renew PageState (changed (λ p w. cond (releasable ps v p) as_free w) 0 (pages_of S) (v PageState)) v

-- ---- making, in a form: every word is 0 but the form and the measures, the current pages and their chunks
unfoldable pub made_view : Form → Shape → View
made_view F S =
    put Header columns_at (columns_word F S.columns)
    (put Header ranges_at S.ranges
    (put Header capacity_at S.capacity
    (put Header spares_at S.spares
    (renew Current (numbered 0 (chunks_of S) (blank (sizes_of F S) Current))
    (renew PageChunk (numbered 0 (chunks_of S) (blank (sizes_of F S) PageChunk))
    (renew PageState (filled 0 (chunks_of S) as_current (blank (sizes_of F S) PageState)) (blank (sizes_of F S))))))))
