-- What holds of the history after every list of calls. proofs/ has a file for each invariant, which shows that every step keeps it; `invariants` (proofs/Invariants.antt) joins them.
use Rattle.std.specs.Prelude.{◌≡◌, Bool, true, false, List, ℕ, zero, suc, ◌+◌, ◌*◌, ◌≤◌, ◌<◌, T, length, take, ℤ}
use Rattle.terms.specs.Measures.{range_rows, most_columns, most_transactions, most_scans, most_numbers}
use Rattle.terms.specs.declared.Shape.{Shape}
use Rattle.history.specs.History.{History, Row, Record, Commit, Snapshot, State, unknown, active, aborted, committed, original, count, is_active, is_committed, state_of, row_at, scan_at, sets, ends, records_of, merged_through, waiting_pages}
use Rattle.history.specs.Lists.{All, Pairs}
use Rattle.history.specs.Records.{is_original, was_set, has_original}

-- ---- nothing passes the measures: the room for rows, records, active transactions, running scans and pages is enough
pub record Limits (S : Shape) (h : History) : Type 0 where
  pub transactions : length h.transactions ≤ most_numbers
  -- a keeper for each
  pub keepers : length h.keepers ≡ length h.transactions
  -- an ordinal for each transaction that is committed, and no more
  pub commits : h.last.ordinal ≡ count is_committed h.transactions
  pub actives : count is_active h.transactions ≤ most_transactions
  pub rows : length h.rows ≤ S.ranges * range_rows
  pub records : (g : ℕ) → length (records_of h g) ≤ S.capacity
  pub scans : length h.scans ≤ most_numbers
  pub runnings : count (λ s. s.running) h.scans ≤ most_scans
  pub pages : waiting_pages h.merges ≤ S.spares

-- ---- the order of a row's changes
abbrev pub is_given : State → Bool
is_given unknown = false
is_given active = true
is_given aborted = true
is_given (committed s) = true

abbrev pub is_closed : State → Bool
is_closed unknown = false
is_closed active = false
is_closed aborted = true
is_closed (committed s) = true

-- an earlier commit and a later one, or the same: neither stamp nor ordinal falls
pub record UpTo (a b : Commit) : Type 0 where
  pub stamps : a.stamp ≤ b.stamp
  pub ordinals : a.ordinal ≤ b.ordinal

-- no commit is after the last
unfoldable pub Stamped : History → Type 0
Stamped h = (k : ℕ) (s : Commit) → state_of h k ≡ committed s → UpTo s h.last

-- an earlier change of a row, by transaction j, and a later one, by k
pub record Before (st : ℕ → State) (j k : ℕ) : Type 0 where
  pub holder : st j ≡ active → k ≡ j
  pub rises : (a b : Commit) → st j ≡ committed a → st k ≡ committed b → UpTo a b

-- an earlier record x and a later one y of one row
pub record Follows (st : ℕ → State) (x y : Record) : Type 0 where
  pub after : Before st x.transaction y.transaction
  pub ended_aborted : T (ends x.content) → st x.transaction ≡ aborted
  pub original_first : (c : ℕ) → T (is_original c y.content) → (sets c x.content ≡ false) × (is_original c x.content ≡ false)

abbrev pub RowFollows : (ℕ → State) → Record → Record → Type 0
RowFollows st x y = x.row ≡ y.row → Follows st x y

-- a record by itself
pub record RecordSound (st : ℕ → State) (row : ℕ → Row) (n : ℕ) (x : Record) : Type 0 where
  pub giver : T (is_given (st x.transaction))
  pub inside : x.row < n
  pub after : Before st (row x.row).inserter x.transaction
  pub values : (cs : List ℕ) (vs : List ℤ) → x.content ≡ original cs vs → vs ≡ (row x.row).values

pub record InOrder (h : History) : Type 0 where
  pub stamps : Stamped h
  pub inserters : (r : ℕ) → r < length h.rows → T (is_given (state_of h (row_at h r).inserter))
  pub records : All (RecordSound (state_of h) (row_at h) (length h.rows)) h.tail
  pub follow : Pairs (RowFollows (state_of h)) h.tail
  -- a column of a row was set exactly if the tail has its original value
  pub originals : (r c : ℕ) → c < most_columns → was_set h.tail r c ≡ has_original h.tail r c

-- ---- what a page holds stays
-- the records of range g up to n are there, and their transactions are closed
pub record Through (h : History) (g n : ℕ) : Type 0 where
  pub within : n ≤ length (records_of h g)
  pub closed_all : All (λ (x : Record). T (is_closed (state_of h x.transaction))) (take n (records_of h g))

unfoldable pub PagesSettled : History → Type 0
PagesSettled h = (g c : ℕ) → Through h g (merged_through h g c)

-- ---- no scan's snapshot has a later stamp than the last commit's, or more commits than were made
pub record Taken (t : Snapshot) (last : Commit) : Type 0 where
  pub stamp : t.stamp ≤ last.stamp
  pub commits : t.commits ≤ last.ordinal

unfoldable pub Timely : History → Type 0
Timely h = (k : ℕ) → Taken (scan_at h k).snapshot h.last

-- ---- each merge raises the lineage of one page
-- the sum of f over the numbers below n
unfoldable pub sum_below : (ℕ → ℕ) → ℕ → ℕ
sum_below f zero = 0
sum_below f (suc n) = sum_below f n + f n

-- the lineages of all pages together
unfoldable pub lineages : Shape → History → ℕ
lineages S h = sum_below (λ g. sum_below (λ c. merged_through h g c) S.columns) S.ranges

unfoldable pub MergesCounted : Shape → History → Type 0
MergesCounted S h = length h.merges ≤ lineages S h

-- ---- all of them, in one record: later proofs carry this one thing beside their own relation
pub record Invariants (S : Shape) (h : History) : Type 0 where
  pub limits : Limits S h
  pub order : InOrder h
  pub pages : PagesSettled h
  pub timely : Timely h
  pub merges : MergesCounted S h
