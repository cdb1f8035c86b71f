-- The refusals (sections 3 and 4 of docs/SPECIFICATION.md), said of what a lent memory and a lent scan list hold, each in the words of its rule and in the order of
-- the call's tests. Nothing here cites a test of the model, of the history or of the code: a condition speaks of the words of the memory and the entries of the list.
-- `Refuses` (Demands) says that a call answers by these conditions; which stamps are crossings is the model's to say (Versions). Two words are settled here. Open is what stands in the list of open numbers, and nothing
-- else: state words do not make a number open. What is not open is committed where its state word says so, and aborted otherwise.
use Rattle.std.specs.Prelude.{◌≡◌, ◌≢◌, ◌⊎◌, false, not, List, [], ◌∷◌, ℕ, ◌+◌, ◌*◌, ◌%◌, ◌≤◌, ◌<◌, T, eqb, length, get_or}
use Rattle.terms.specs.Measures.{range_rows, most_transactions, most_scans, most_numbers}
use Rattle.terms.specs.declared.Shape.{Shape}
use Rattle.terms.specs.Entries.{free_entry}
use Rattle.terms.specs.declared.ScanEntry.{ScanEntry}
use Rattle.terms.specs.declared.Refusal.{Refusal}
use Rattle.terms.specs.declared.Form.{Form}
use Rattle.words.specs.Words.{words}
use Rattle.layout.specs.Sizes.{bytes_needed}
use Rattle.layout.specs.View.{View, rows_given, transactions_given, scans_given, last_stamp, used_in}
use Rattle.layout.specs.declared.Region.TheVariants.{Opens, OpenKeeper}
use Rattle.history.specs.History.{Call, begin, insert, update, delete, commit, abort, latest, read_at, own_read, open_scan, scan_read, sum, close, merge, release, page_cell, lineage, crossings, begin_as, keeper_at, move, bit, count, range_of}
use Rattle.history.specs.Forms.{FormUse, either, newest, moving, form_use, works_on}
use Rattle.facts.specs.Usable.{stored_shape, stored_form, usable}
use Rattle.model.specs.Versions.{crossings_in}
use Rattle.model.specs.Stored.{RecordWords, row_in, record_in, page_in, current_in, pages_of, count_below, delete_kind, waiting_page, row_keeper, record_keeper}
use Rattle.layout.specs.Codes.{as_committed, keeper_limit}
use Rattle.layout.specs.Regions.{slot}
use Rattle.promise.specs.Promise.{store_view, second_of}

-- ---- what the memory holds
-- transaction t is open; number 0 marks a free entry
abbrev pub Open : View → ℕ → Type 0
Open v t = (t ≢ 0) × ((j : ℕ) × (j < most_transactions) × (get_or (v Opens) j 0 ≡ t))

abbrev pub ScanOpen : List ScanEntry → ℕ → Type 0
ScanOpen ps k = (k ≢ 0) × ((j : ℕ) × (j < length ps) × ((get_or ps j free_entry).number ≡ k))

-- what transaction t made, with this state word, is committed or aborted
abbrev pub Committed : View → ℕ → ℕ → Type 0
Committed v t state = ¬ Open v t × (state ≡ as_committed)

abbrev pub Aborted : View → ℕ → ℕ → Type 0
Aborted v t state = ¬ Open v t × (state ≢ as_committed)

-- one of the records 1 to n of range g
abbrev pub RecordUpTo : Shape → View → ℕ → ℕ → (RecordWords → Type 0) → Type 0
RecordUpTo S v g n P = (k : ℕ) × (1 ≤ k) × (k ≤ n) × P (record_in v (slot S g k))

-- one of the used records of row r
abbrev pub RecordOf : Shape → View → ℕ → (RecordWords → Type 0) → Type 0
RecordOf S v r P = RecordUpTo S v (range_of r) (used_in v (range_of r)) (λ x. (x.row ≡ r) × P x)

-- transaction t inserted, updated or deleted row r
abbrev pub Touched : Shape → View → ℕ → ℕ → Type 0
Touched S v t r = ((row_in v r).transaction ≡ t) ⊎ RecordOf S v r (λ x. x.transaction ≡ t)

-- ---- the conditions that take more than a comparison
-- 3.8: no bit, or the bit of a column that is not there
abbrev pub WrongMask : Shape → ℕ → Type 0
WrongMask S m = ((c : ℕ) → bit m c ≡ false) ⊎ ((c : ℕ) × (S.columns ≤ c) × T (bit m c))

-- 3.9: some open transaction other than the caller inserted the row or has a record of it
abbrev pub Held : Shape → View → ℕ → ℕ → Type 0
Held S v t r = (k : ℕ) × Open v k × (k ≢ t) × Touched S v k r

-- 3.10: not held, and deleted by what is committed or by the caller, or its insert aborted
abbrev pub Gone : Shape → View → ℕ → ℕ → Type 0
Gone S v t r =
    ¬ Held S v t r
    × (RecordOf S v r (λ x. T (delete_kind x.kind) × (Committed v x.transaction x.state ⊎ (x.transaction ≡ t))) ⊎ Aborted v (row_in v r).transaction (row_in v r).state)

-- 3.12. Two records are wanted for a column that the row's mask does not note as set: the mask is the store's own record
-- of the columns that an accepted update of the row has set, aborted ones included.
abbrev pub Lacks : Shape → View → ℕ → ℕ → Type 0
Lacks S v r n = S.capacity < used_in v (range_of r) + n

abbrev pub LacksWanted : Shape → View → ℕ → ℕ → Type 0
LacksWanted S v r m = Lacks S v r 1 ⊎ (((c : ℕ) × T (bit m c) × (bit (row_in v r).mask c ≡ false)) × Lacks S v r 2)

-- 3.14: how many are open
abbrev pub transactions_open : View → ℕ
transactions_open v = count (λ t. not (eqb t 0)) (v Opens)

abbrev pub scans_open : List ScanEntry → ℕ
scans_open ps = count (λ p. not (eqb p.number 0)) ps

-- 3.13, of two stamps
abbrev pub NoSpan : View → ℕ → ℕ → Type 0
NoSpan v from to = (to < from) ⊎ (last_stamp v < to)

-- 3.16: merged through n already, or n above the records used
abbrev pub OutOfReach : Shape → View → ℕ → ℕ → ℕ → Type 0
OutOfReach S v g c n = (n ≤ (page_in v (current_in S v g c)).lineage) ⊎ (used_in v g < n)

-- 3.17: one of the records 1 to n is of an open transaction
abbrev pub OpenUpTo : Shape → View → ℕ → ℕ → Type 0
OpenUpTo S v g n = RecordUpTo S v g n (λ x. Open v x.transaction)

-- 3.18: as many pages wait as there are spares, or more
abbrev pub NoneFree : Shape → View → Type 0
NoneFree S v = S.spares ≤ count_below (λ p. waiting_page (page_in v p).state) (pages_of S)

-- 3.22: a given row, a used tail record or an open transaction bears a keeper other than 0; a keeper is the lower two bytes of its word
abbrev pub Bears : ℕ → Type 0
Bears word = word % keeper_limit ≢ 0

abbrev pub KeeperBorne : Shape → View → Type 0
KeeperBorne S v =
    ((r : ℕ) × (r < rows_given v) × Bears (row_keeper v r))
    ⊎ ((g : ℕ) × (g < S.ranges) × ((k : ℕ) × (1 ≤ k) × (k ≤ used_in v g) × Bears (record_keeper v (slot S g k))))
    ⊎ ((j : ℕ) × (j < most_transactions) × ((get_or (v Opens) j 0 ≢ 0) × Bears (get_or (v OpenKeeper) j 0)))

-- ---- each call's conditions, in the order of its tests
pub record Clause : Type 1 where
  pub refusal : Refusal
  pub applies : Type 0

infix 68 ◌on◌
abbrev pub ◌on◌ : Refusal → Type 0 → Clause
n on P = record { refusal = n; applies = P }

-- of begin, with a keeper or without
abbrev pub stated_begin : View → List Clause
stated_begin v = Refusal.Number on (most_numbers ≤ transactions_given v) ∷ Refusal.Busy on (most_transactions ≤ transactions_open v) ∷ []

-- of a read at a stamp, and of its keeper
abbrev pub stated_read_at : Shape → View → ℕ → ℕ → ℕ → List Clause
stated_read_at S v s r c = Refusal.Time on (last_stamp v < s) ∷ Refusal.Row on (rows_given v ≤ r) ∷ Refusal.Column on (S.columns ≤ c) ∷ []

-- of a move: to the newest form there is none
abbrev pub stated_move : Form → Shape → View → List Clause
stated_move Form.First S v = Refusal.Keeper on KeeperBorne S v ∷ []
stated_move Form.Newest S v = []

unfoldable pub stated : Shape → View → List ScanEntry → Call → List Clause
stated S v ps begin = stated_begin v
stated S v ps (insert t vs) = Refusal.Transaction on (¬ Open v t) ∷ Refusal.Full on (S.ranges * range_rows ≤ rows_given v) ∷ []
stated S v ps (update t r m vs) =
    Refusal.Transaction on (¬ Open v t)
    ∷ Refusal.Row on (rows_given v ≤ r)
    ∷ Refusal.Mask on WrongMask S m
    ∷ Refusal.Held on Held S v t r
    ∷ Refusal.Gone on Gone S v t r
    ∷ Refusal.Tail on LacksWanted S v r m
    ∷ []
stated S v ps (delete t r) =
    Refusal.Transaction on (¬ Open v t)
    ∷ Refusal.Row on (rows_given v ≤ r)
    ∷ Refusal.Held on Held S v t r
    ∷ Refusal.Gone on Gone S v t r
    ∷ Refusal.Tail on Lacks S v r 1
    ∷ []
stated S v ps (commit t s) = Refusal.Transaction on (¬ Open v t) ∷ Refusal.Time on (s < last_stamp v) ∷ []
stated S v ps (abort t) = Refusal.Transaction on (¬ Open v t) ∷ []
stated S v ps (latest r c) = Refusal.Row on (rows_given v ≤ r) ∷ Refusal.Column on (S.columns ≤ c) ∷ []
stated S v ps (read_at s r c) = stated_read_at S v s r c
stated S v ps (own_read t r c) =
    Refusal.Transaction on (¬ Open v t) ∷ Refusal.Row on (rows_given v ≤ r) ∷ Refusal.Column on (S.columns ≤ c) ∷ []
stated S v ps (open_scan s) =
    Refusal.Time on (last_stamp v < s) ∷ Refusal.Number on (most_numbers ≤ scans_given v) ∷ Refusal.Busy on (most_scans ≤ scans_open ps) ∷ []
stated S v ps (scan_read k r c) =
    Refusal.Scan on (¬ ScanOpen ps k) ∷ Refusal.Row on (rows_given v ≤ r) ∷ Refusal.Column on (S.columns ≤ c) ∷ []
stated S v ps (sum k c) = Refusal.Scan on (¬ ScanOpen ps k) ∷ Refusal.Column on (S.columns ≤ c) ∷ []
stated S v ps (close k) = Refusal.Scan on (¬ ScanOpen ps k) ∷ []
stated S v ps (merge g c n) =
    Refusal.Range on (S.ranges ≤ g)
    ∷ Refusal.Column on (S.columns ≤ c)
    ∷ Refusal.Reach on OutOfReach S v g c n
    ∷ Refusal.Open on OpenUpTo S v g n
    ∷ Refusal.NoPage on NoneFree S v
    ∷ []
stated S v ps release = []
stated S v ps (page_cell c r) = Refusal.Column on (S.columns ≤ c) ∷ Refusal.Row on (rows_given v ≤ r) ∷ []
stated S v ps (lineage g c) = Refusal.Range on (S.ranges ≤ g) ∷ Refusal.Column on (S.columns ≤ c) ∷ []
stated S v ps (crossings r c mark from to stamps) =
    Refusal.Row on (rows_given v ≤ r)
    ∷ Refusal.Column on (S.columns ≤ c)
    ∷ Refusal.Time on NoSpan v from to
    ∷ Refusal.List on (length stamps < length (crossings_in S v r c mark from to))
    ∷ []
stated S v ps (begin_as k) = stated_begin v
stated S v ps (keeper_at s r c) = stated_read_at S v s r c
stated S v ps (move to second) = stated_move to S v

-- 2.5: refusal 2 is the first test of each call: for memory and list, for a form that the call does not work on, and for a second memory that is too short
abbrev pub TooShort : FormUse → Shape → List ℕ → Type 0
TooShort either S second = ⊥
TooShort newest S second = ⊥
TooShort (moving to) S second = length second < bytes_needed to S

unfoldable pub conditions : List ℕ → List ScanEntry → Call → List Clause
conditions m ps c =
    Refusal.Memory on (usable m ps ≡ false)
    ∷ Refusal.Memory on (works_on c (stored_form (words m)) ≡ false)
    ∷ Refusal.Memory on TooShort (form_use c) (stored_shape (words m)) (second_of c)
    ∷ stated (stored_shape (words m)) (store_view m) ps c

-- the first condition that applies is n's
abbrev pub First : List Clause → Refusal → Type 0
First [] n = ⊥
First (x ∷ xs) n = (x.applies × (x.refusal ≡ n)) ⊎ (¬ x.applies × First xs n)

-- none applies
abbrev pub NoneApplies : List Clause → Type 0
NoneApplies [] = Unit {0}
NoneApplies (x ∷ xs) = ¬ x.applies × NoneApplies xs
