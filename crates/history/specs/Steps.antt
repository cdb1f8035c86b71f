-- What an accepted call does to the history, in nine ways and not in twenty-one calls, each with the tests that it passed as facts about numbers and states. Every call,
-- refused or not, is such a step (`next_step`, proofs/Steps.antt), and every invariant is kept by these.
use Rattle.std.specs.Prelude.{◌≡◌, ◌≢◌, true, not, List, [], ◌∷◌, ◌++◌, ℕ, ◌+◌, ◌*◌, ◌≤◌, ◌<◌, T, length, take, ℤ}
use Rattle.terms.specs.Measures.{range_rows, most_transactions, most_scans, most_numbers}
use Rattle.terms.specs.declared.Shape.{Shape}
use Rattle.history.specs.History.{Call, merge, History, Record, Commit, State, active, aborted, committed, Scan, Merge, snapshot_at, next_commit, ends, count, change, is_active, state_of, row_at, scan_at, stopped, range_of, records_of, merged_through, waiting_pages, after_release, seen_by, bad_mask, update_records, delete_records, with_rows, with_tail, with_transactions, with_scans, with_merges}
use Rattle.history.specs.Lists.{All}

-- Transaction t is active and may change row r: no other active one has, and in t's own view the row is inserted and not ended.
pub record Writable (h : History) (t r : ℕ) : Type 0 where
  pub active_own : state_of h t ≡ active
  pub given : r < length h.rows
  pub inserter_free : state_of h (row_at h r).inserter ≡ active → (row_at h r).inserter ≡ t
  pub records_free : All (λ (x : Record). x.row ≡ r → state_of h x.transaction ≡ active → x.transaction ≡ t) h.tail
  pub not_ended : All (λ (x : Record). x.row ≡ r → T (ends x.content) → T (not (seen_by h t x.transaction))) h.tail

-- the records that a call makes
pub data Made (S : Shape) (h : History) (t r : ℕ) : List Record → Type 0 where
  by_update : (m : ℕ) (vs : List ℤ) → T (not (bad_mask S m)) → Made S h t r (update_records h t r m vs)
  by_delete : Made S h t r (delete_records t r)

-- a transaction's last state, and the last commit with it
pub data Closing (h : History) : State → Commit → Type 0 where
  by_commit : {s : ℕ} → h.last.stamp ≤ s → Closing h (committed (next_commit h s)) (next_commit h s)
  by_abort : Closing h aborted h.last

-- the nine ways: none, two that end with new states, a row more, records more, two with new scans, two with new merges
pub data NewStates (h : History) : List State → List ℕ → Commit → Type 0 where
  began : (k : ℕ) → length h.transactions < most_numbers → count is_active h.transactions < most_transactions
      → NewStates h (h.transactions ++ active ∷ []) (h.keepers ++ k ∷ []) h.last
  closed : (t : ℕ) {x : State} {s : Commit} → state_of h t ≡ active → Closing h x s → NewStates h (change h.transactions t x) h.keepers s

pub data NewScans (h : History) : List Scan → Type 0 where
  scan_opened : {s : ℕ} → s ≤ h.last.stamp → length h.scans < most_numbers → count (λ s. s.running) h.scans < most_scans
      → NewScans h (h.scans ++ record { running = true; snapshot = snapshot_at h s; merges = length h.merges } ∷ [])
  scan_closed : (k : ℕ) → T (scan_at h k).running → NewScans h (change h.scans k (stopped (scan_at h k)))

-- Range g may be merged through record n into column c's page.
pub record Mergeable (S : Shape) (h : History) (g c n : ℕ) : Type 0 where
  pub range_in : g < S.ranges
  pub column_in : c < S.columns
  pub above : merged_through h g c < n
  pub used : n ≤ length (records_of h g)
  pub shut : All (λ (x : Record). state_of h x.transaction ≢ active) (take n (records_of h g))
  pub spare : waiting_pages h.merges < S.spares

pub data NewMerges (S : Shape) (h : History) : Call → List Merge → Type 0 where
  merged : {g c n : ℕ} → Mergeable S h g c n → NewMerges S h (merge g c n) (h.merges ++ record { range = g; column = c; through = n; waiting = true } ∷ [])
  released : {c : Call} → NewMerges S h c (after_release h.scans 0 h.merges)

pub data Step (S : Shape) (h : History) : Call → History → Type 0 where
  nothing : {c : Call} → Step S h c h
  new_states : {c : Call} {l : List State} {ks : List ℕ} {s : Commit} → NewStates h l ks s → Step S h c (with_transactions h l ks s)
  row_given : {c : Call} (t : ℕ) (vs : List ℤ) → state_of h t ≡ active → length h.rows < S.ranges * range_rows
      → Step S h c (with_rows h (h.rows ++ record { inserter = t; values = vs } ∷ []))
  records_made : {c : Call} (t r : ℕ) {m : List Record} → Writable h t r → Made S h t r m → length (records_of h (range_of r)) + length m ≤ S.capacity
      → Step S h c (with_tail h (h.tail ++ m))
  new_scans : {c : Call} {l : List Scan} → NewScans h l → Step S h c (with_scans h l)
  new_merges : {c : Call} {l : List Merge} → NewMerges S h c l → Step S h c (with_merges h l)
