-- The relation between the store's memory and scan list and the plain history: what each word means. Each part speaks of the lists or accessors that it
-- needs and of the parts of the history that it needs, so that a call that leaves those leaves the part as it stands. `StepKept` says that every call keeps it; proofs/ has a
-- file for each family of calls, and Calls joins them.
use Rattle.std.specs.Prelude.{◌≡◌, ◌≢◌, Bool, not, cond, ◌&&◌, List, [], ◌∷◌, ℕ, suc, ◌+◌, ◌*◌, ◌≤◌, ◌<◌, T, eqb, length, get_or, take, pos}
use Rattle.std.specs.Int.{w32}
use Rattle.std.proofs.Common.{to_z}
use Rattle.terms.specs.Measures.{most_columns, most_ranges, most_records, most_spares, most_transactions, most_scans}
use Rattle.terms.specs.declared.Shape.{Shape}
use Rattle.terms.specs.declared.Form.{Form}
use Rattle.history.specs.History.{History, Row, Record, Commit, State, unknown, active, aborted, committed, Content, original, setting, ending, Scan, Merge, is_active, state_of, keeper_of, bearer, row_at, bit, sets, range_of, records_of, merged_through, scan_at, seen_at, cell_through, count, Call, answer, stamps_after, next, commit_of}
use Rattle.history.specs.Lists.{All}
use Rattle.history.specs.Forms.{works_on, form_next}
use Rattle.history.specs.Records.{among, was_set, no_record, last_of}
use Rattle.history.specs.Invariants.{Through, Invariants}
use Rattle.layout.specs.View.{View, used_in, Long, Fits}
use Rattle.layout.specs.declared.Region.TheVariants.{Opens, Changes, RowKeeper, TailKeeper, OpenKeeper}
use Rattle.terms.specs.declared.ScanEntry.{ScanEntry}
use Rattle.layout.specs.Sizes.{sizes_of}
use Rattle.layout.specs.Regions.{columns_word, columns_at, ranges_at, capacity_at, spares_at, rows_at, transactions_at, scans_at, stamp_at, merges_at, commits_at}
use Rattle.model.specs.Stored.{RowWords, RecordWords, PageWords, row_in, record_in, page_in, value_in, current_in, cell_in, within, chunk_of, chunks_of, pages_of, header_in, current_page, waiting_page, count_below}
use Rattle.layout.specs.Codes.{as_open, as_committed, as_aborted, as_original, as_setting, as_delete, as_current, keeper_limit}
use Rattle.model.specs.Reading.{scan_page}
use Rattle.model.specs.Calls.{Typed, say, stamps_next, store_next, entries_next}

-- ---- rows and tail records
-- A number that was not given has no row and no record; its word does not matter.
abbrev pub state_word : State → ℕ
state_word unknown = as_aborted
state_word active = as_open
state_word aborted = as_aborted
state_word (committed s) = as_committed

-- row r, over the states, its row in the history and the records of its range
pub record RowIs (st : ℕ → State) (w : Row) (recs : List Record) (r : ℕ) (x : RowWords) : Type 0 where
  pub transaction : x.transaction ≡ w.inserter
  pub state : x.state ≡ state_word (st w.inserter)
  pub stamp : x.stamp ≡ (commit_of (st w.inserter)).stamp
  pub ordinal : x.ordinal ≡ (commit_of (st w.inserter)).ordinal
  pub link : x.link ≡ last_of recs r (length recs)
  pub mask : (c : ℕ) → bit x.mask c ≡ was_set recs r c

-- what a record holds; `value` has its words by column, of which there are C. The columns that its mask does not name may hold anything.
abbrev pub ContentIs : ℕ → Content → (kind mask : ℕ) → (ℕ → ℕ) → Type 0
ContentIs C (original cs vs) kind mask value =
    (kind ≡ as_original) × ((c : ℕ) → bit mask c ≡ among c cs) × ((c : ℕ) → c < C → T (bit mask c) → to_z w32 (value c) ≡ get_or vs c (pos 0))
ContentIs C (setting m vs) kind mask value =
    (kind ≡ as_setting) × (mask ≡ m) × ((c : ℕ) → c < C → T (bit m c) → to_z w32 (value c) ≡ get_or vs c (pos 0))
ContentIs C ending kind mask value = kind ≡ as_delete

pub record RecordIs (C : ℕ) (st : ℕ → State) (y : Record) (x : RecordWords) (value : ℕ → ℕ) : Type 0 where
  pub transaction : x.transaction ≡ y.transaction
  pub row : x.row ≡ y.row
  pub state : x.state ≡ state_word (st y.transaction)
  pub stamp : x.stamp ≡ (commit_of (st y.transaction)).stamp
  pub ordinal : x.ordinal ≡ (commit_of (st y.transaction)).ordinal
  pub content : ContentIs C y.content x.kind x.mask value

-- the records of one range; the record with number k + 1 is `rec k`
pub record TailIs (C : ℕ) (st : ℕ → State) (recs : List Record) (used : ℕ) (rec : ℕ → RecordWords) (value : ℕ → ℕ → ℕ) : Type 0 where
  pub used_all : used ≡ length recs
  pub each : (k : ℕ) → k < length recs → RecordIs C st (get_or recs k no_record) (rec k) (value k)
  pub links : (k : ℕ) → k < length recs → (rec k).link ≡ last_of recs (get_or recs k no_record).row k

-- the same of the words of range g
abbrev pub TailOf : Shape → (ℕ → State) → List Record → View → ℕ → Type 0
TailOf S st recs v g = TailIs S.columns st recs (used_in v g) (λ k. record_in v (g * S.capacity + k)) (λ k. value_in S v (g * S.capacity + k))

-- the records of every range, where `list g` has those of range g
abbrev pub TailsFor : Shape → (ℕ → State) → (ℕ → List Record) → View → Type 0
TailsFor S st list v = (g : ℕ) → g < S.ranges → TailOf S st (list g) v g

abbrev pub TailsAre : Shape → History → View → Type 0
TailsAre S h v = TailsFor S (state_of h) (records_of h) v

abbrev pub RowsAre : History → View → Type 0
RowsAre h v = (r : ℕ) → r < length h.rows → RowIs (state_of h) (row_at h r) (records_of h (range_of r)) r (row_in v r)

-- ---- pages
-- no setting of column c in record y is committed after n
abbrev pub NotAfter : (ℕ → State) → ℕ → ℕ → Record → Type 0
NotAfter st c n y = T (sets c y.content) → (s : Commit) → st y.transaction ≡ committed s → s.stamp ≤ n

-- What a page of range g and column c holds, of the rows that pass Q: the value committed last among the records up to its lineage, else the inserted
-- value, else 0 where no row was inserted.
pub record Holds (h : History) (g c : ℕ) (Q : ℕ → Type 0) (x : PageWords) (cell : ℕ → ℕ) : Type 0 where
  pub through : Through h g x.lineage
  pub newest : All (NotAfter (state_of h) c x.newest) (take x.lineage (records_of h g))
  pub stamped : x.newest ≤ h.last.stamp
  pub cells : (r : ℕ) → range_of r ≡ g → Q r → to_z w32 (cell (within r)) ≡ cell_through h c r x.lineage

abbrev pub every_row : ℕ → Type 0
every_row r = Unit {0}

-- the current page p of range g and column c
pub record CurrentIs (S : Shape) (h : History) (g c p : ℕ) (x : PageWords) (cell : ℕ → ℕ) : Type 0 where
  pub inside : p < pages_of S
  pub state : x.state ≡ as_current
  pub chunk : x.chunk ≡ chunk_of S g c
  pub made : x.made ≤ length h.merges
  pub lineage : x.lineage ≡ merged_through h g c
  pub holds : Holds h g c every_row x cell

abbrev pub CurrentOf : Shape → History → View → ℕ → ℕ → Type 0
CurrentOf S h v g c = CurrentIs S h g c (current_in S v g c) (page_in v (current_in S v g c)) (cell_in v (current_in S v g c))

abbrev pub CurrentsAre : Shape → History → View → Type 0
CurrentsAre S h v = (g c : ℕ) → g < S.ranges → c < S.columns → CurrentOf S h v g c

-- A waiting page was replaced not later than the current page of its chunk was made; `made` has that for each range and column.
pub record WaitingIs (S : Shape) (h : History) (made : ℕ → ℕ → ℕ) (x : PageWords) : Type 0 where
  pub chunk : x.chunk < chunks_of S
  pub rises : x.made < x.replaced
  pub replaced_by : x.replaced ≤ length h.merges
  pub early : (g c : ℕ) → g < S.ranges → c < S.columns → x.chunk ≡ chunk_of S g c → x.replaced ≤ made g c
  pub reach : (g c : ℕ) → g < S.ranges → c < S.columns → x.chunk ≡ chunk_of S g c → x.lineage ≤ length (records_of h g)
  pub stamped : x.newest ≤ h.last.stamp

abbrev pub made_in : Shape → View → ℕ → ℕ → ℕ
made_in S v g c = (page_in v (current_in S v g c)).made

abbrev pub WaitingAre : Shape → History → View → Type 0
WaitingAre S h v = (p : ℕ) → p < pages_of S → T (waiting_page (page_in v p).state) → WaitingIs S h (made_in S v) (page_in v p)

-- how many elements of a list pass, with their numbers; the first has the number i
abbrev pub count_from : {A : Type 0} → (ℕ → A → Bool) → ℕ → List A → ℕ
count_from p i [] = 0
count_from p i (x ∷ l) = cond (p i x) (suc (count_from p (suc i) l)) (count_from p (suc i) l)

-- how many pages are current, and which merges' pages wait: equal counts for every test of the merge's number
pub record PoolIs (S : Shape) (merges : List Merge) (page : ℕ → PageWords) : Type 0 where
  pub current : count_below (λ p. current_page (page p).state) (pages_of S) ≡ chunks_of S
  pub waiting : (q : ℕ → Bool)
      → count_below (λ p. waiting_page (page p).state && q (page p).replaced) (pages_of S) ≡ count_from (λ i m. m.waiting && q i) 1 merges

-- ---- open transactions and open scans: equal counts for every test
abbrev pub OpensAre : List State → List ℕ → Type 0
OpensAre ts l = (q : ℕ → Bool) → count (λ k. not (eqb k 0) && q k) l ≡ count_from (λ i s. is_active s && q i) 1 ts

abbrev pub scan_as : ℕ → Scan → ScanEntry
scan_as i s = record { number = i; stamp = s.snapshot.stamp; merges = s.merges; commits = s.snapshot.commits }

pub record ScansAre (ss : List Scan) (l : List ScanEntry) : Type 0 where
  pub room : most_scans ≤ length l
  pub same : (q : ScanEntry → Bool)
      → count (λ p. not (eqb p.number 0) && q p) l ≡ count_from (λ i s. s.running && q (scan_as i s)) 1 ss

-- transaction t has made no row and no record
pub record Unchanged (rows : List Row) (tail : List Record) (t : ℕ) : Type 0 where
  pub no_row : All (λ (w : Row). w.inserter ≢ t) rows
  pub no_record : All (λ (y : Record). y.transaction ≢ t) tail

-- The count of changes noted of an open transaction: it has not gone round, and 0 means that there are none.
pub record NotedIs (rows : List Row) (tail : List Record) (t n : ℕ) : Type 0 where
  pub bound : n ≤ length rows + length tail
  pub none : n ≡ 0 → Unchanged rows tail t

abbrev pub NotesAre : List Row → List Record → List ℕ → List ℕ → Type 0
NotesAre rows tail opens notes = (j : ℕ) → j < most_transactions → get_or opens j 0 ≢ 0 → NotedIs rows tail (get_or opens j 0) (get_or notes j 0)

-- ---- keepers
-- the keepers of the rows, of the records of every range and of the open transactions; `keeper` has that of each transaction
pub record KeepersAre (S : Shape) (keeper : ℕ → ℕ) (row : ℕ → Row) (given : ℕ) (list : ℕ → List Record) (row_words tail_words opens open_words : List ℕ) : Type 0 where
  pub of_rows : (r : ℕ) → r < given → get_or row_words r 0 ≡ keeper (row r).inserter
  pub of_records : (g k : ℕ) → g < S.ranges → k < length (list g) → get_or tail_words (g * S.capacity + k) 0 ≡ keeper (bearer row (get_or (list g) k no_record))
  pub of_opens : (j : ℕ) → get_or opens j 0 ≢ 0 → get_or open_words j 0 ≡ keeper (get_or opens j 0)
  pub small : (t : ℕ) → keeper t < keeper_limit

abbrev pub KeepersFor : Shape → History → View → Type 0
KeepersFor S h v = KeepersAre S (keeper_of h) (row_at h) (length h.rows) (records_of h) (v RowKeeper) (v TailKeeper) (v Opens) (v OpenKeeper)

-- no commit of record y is after the first n
abbrev pub TakenBefore : (ℕ → State) → ℕ → Record → Type 0
TakenBefore st n y = (s : Commit) → st y.transaction ≡ committed s → s.ordinal ≤ n

-- ---- a scan's page holds the rows that the scan may see. It was made before the scan was opened, and so was every commit that it has taken in.
pub record ScanPageIs (S : Shape) (h : History) (s : Scan) (g c p : ℕ) (x : PageWords) (cell : ℕ → ℕ) : Type 0 where
  pub inside : p < pages_of S
  pub early : s.merges ≤ length h.merges
  pub chunk : x.chunk ≡ chunk_of S g c
  pub made : x.made ≤ s.merges
  pub taken_before : All (TakenBefore (state_of h) s.snapshot.commits) (take x.lineage (records_of h g))
  pub holds : Holds h g c (λ r. T (seen_at h s.snapshot (row_at h r).inserter)) x cell

abbrev pub ScanPageOf : Shape → History → View → Scan → ℕ → ℕ → Type 0
ScanPageOf S h v s g c = ScanPageIs S h s g c (scan_page S v s.merges g c) (page_in v (scan_page S v s.merges g c)) (cell_in v (scan_page S v s.merges g c))

abbrev pub ScanPagesAre : Shape → History → View → Type 0
ScanPagesAre S h v = (k : ℕ) → T (scan_at h k).running → (g c : ℕ) → g < S.ranges → c < S.columns → ScanPageOf S h v (scan_at h k) g c

-- ---- the header
pub record HeaderIs (F : Form) (S : Shape) (rows transactions scans : ℕ) (last : Commit) (merges : ℕ) (word : ℕ → ℕ) : Type 0 where
  pub columns : word columns_at ≡ columns_word F S.columns
  pub ranges : word ranges_at ≡ S.ranges
  pub capacity : word capacity_at ≡ S.capacity
  pub spares : word spares_at ≡ S.spares
  pub rows_given : word rows_at ≡ rows
  pub transactions_given : word transactions_at ≡ transactions
  pub scans_given : word scans_at ≡ scans
  pub last_stamp : word stamp_at ≡ last.stamp
  pub commits_made : word commits_at ≡ last.ordinal
  pub merges_made : word merges_at ≡ merges

abbrev pub HeaderFor : Form → Shape → History → View → Type 0
HeaderFor F S h v = HeaderIs F S (length h.rows) (length h.transactions) (length h.scans) h.last (length h.merges) (header_in v)

-- every region has its length in the form F, and every word fits 32 bits
pub record Whole (F : Form) (S : Shape) (v : View) : Type 0 where
  pub long : Long (sizes_of F S) v
  pub fits : Fits v

pub record Represents (F : Form) (S : Shape) (v : View) (ps : List ScanEntry) (h : History) : Type 0 where
  pub header : HeaderFor F S h v
  pub opens : OpensAre h.transactions (v Opens)
  pub notes : NotesAre h.rows h.tail (v Opens) (v Changes)
  pub keepers : KeepersFor S h v
  pub rows : RowsAre h v
  pub tails : TailsAre S h v
  pub currents : CurrentsAre S h v
  pub waits : WaitingAre S h v
  pub pool : PoolIs S h.merges (page_in v)
  pub scans : ScansAre h.scans ps
  pub scan_pages : ScanPagesAre S h v
  pub whole : Whole F S v

-- ---- the shape's limits as numbers, and what the history keeps
pub record Small (S : Shape) : Type 0 where
  pub columns : S.columns ≤ most_columns
  pub ranges : S.ranges ≤ most_ranges
  pub capacity : S.capacity ≤ most_records
  pub spares : S.spares ≤ most_spares
  pub some_column : 1 ≤ S.columns
  pub some_range : 1 ≤ S.ranges

-- what is known of every history that calls lead to
pub record WellFormed (S : Shape) (h : History) : Type 0 where
  pub small : Small S
  pub invariants : Invariants S h

-- ---- one call that works on the form F, on a store in it that represents a history: it answers as the history does, fills its slice alike, and what it leaves represents the next history
pub record SameCall (F : Form) (S : Shape) (v : View) (ps : List ScanEntry) (h : History) (c : Call) : Type 0 where
  pub answered : say S v ps c ≡ answer S h c
  pub filled : stamps_next S v ps c ≡ stamps_after S h c
  pub shown : Represents (form_next S h c F) S (store_next S v ps c) (entries_next S v ps c) (next S h c)
  pub well_formed : WellFormed S (next S h c)

abbrev pub StepKept : Type 0
StepKept = (F : Form) (S : Shape) (v : View) (ps : List ScanEntry) (h : History) (c : Call) → Typed c → T (works_on c F) → Represents F S v ps h → WellFormed S h → SameCall F S v ps h c
