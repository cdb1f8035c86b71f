-- What a step of the history leaves of the pages: the current pages, the waiting ones and those of the running scans, as long as their words stay.
use mathlib.Core.Path.{◌≡◌, refl, sym, ◌∙◌, ap}
use mathlib.Core.Logic.{◌⊎◌, inl}
use mathlib.Core.Bool.{Bool, true, false}
use mathlib.Core.List.{List}
use Prim.Native.Nat.{ℕ, ◌≤◌, ◌<◌}
use native.Mathlib.Omega.{arith}
use native.Mathlib.Nat.{le_refl, le_trans}
use native.Mathlib.Decide.{ℕ_discrete, dec_lt}
use lib.Dec.{T}
use lib.ListN.{length}
use Rattle.terms.specs.declared.Shape.{Shape}
use Rattle.terms.specs.declared.Form.{Form}
use Rattle.history.specs.History as H
use Rattle.history.specs.History.{Call, History, Scan, Snapshot, no_scan, nth, change, row_at, range_of, merged_through, seen_at, scan_at, stopped}
use Rattle.history.proofs.Lists.{by_cases, nth_other, nth_changed}
use Rattle.history.proofs.Steps.{running_known}
use Rattle.history.specs.Steps.{Step}
use Rattle.history.proofs.Unseen.{no_row, unseen_step}
use Rattle.history.specs.Invariants.{InOrder, Timely}
use Rattle.layout.specs.View.{View}
use Rattle.terms.specs.declared.ScanEntry.{ScanEntry}
use Rattle.model.specs.Stored.{PageWords, within}
use Rattle.model.specs.Represents.{Holds, every_row, CurrentIs, CurrentsAre, WaitingIs, WaitingAre, ScanPageIs, ScanPageOf, ScanPagesAre, Represents, WellFormed}
use Rattle.model.proofs.Holding.{grown, taken_step, holds_step, holds_cells, same_rows}

-- ---- the pages
pub current_step : {S : Shape} {y : Call} {h h' : History} {g c p : ℕ} {x : PageWords} {cell : ℕ → ℕ} → InOrder h → Step S h y h' → length h.rows ≡ length h'.rows
    → merged_through h' g c ≡ merged_through h g c → CurrentIs S h g c p x cell → CurrentIs S h' g c p x cell
current_step {h = h} {h' = h'} {g = g} {c = c} {x = x} {cell = cell} i step e m o =
    let holds : Holds h' g c every_row x cell = holds_step i step g c x (λ r q u. (tt, same_rows (length h.rows) (length h'.rows) r e)) o.holds in
    search (holds, le_trans o.made (grown step).merges, o.lineage ∙ sym m)

pub waiting_step : {S : Shape} {y : Call} {h h' : History} {made made' : ℕ → ℕ → ℕ} {x : PageWords} → Step S h y h' → ((g c : ℕ) → g < S.ranges → c < S.columns → made g c ≤ made' g c)
    → WaitingIs S h made x → WaitingIs S h' made' x
waiting_step step later o =
    record {
      chunk = o.chunk;
      rises = o.rises;
      replaced_by = le_trans o.replaced_by (grown step).merges;
      early = λ g c a b e. le_trans (o.early g c a b e) (later g c a b);
      reach = λ g c a b e. le_trans (o.reach g c a b e) ((grown step).records g);
      stamped = le_trans o.stamped (grown step).last.stamps;
    }

-- other cells
pub current_cells : {S : Shape} {h : History} {g c p : ℕ} {x : PageWords} {cell cell' : ℕ → ℕ} → ((r : ℕ) → cell' (within r) ≡ cell (within r))
    → CurrentIs S h g c p x cell → CurrentIs S h g c p x cell'
current_cells f o = record { inside = o.inside; state = o.state; chunk = o.chunk; made = o.made; lineage = o.lineage; holds = holds_cells (λ r _ _. f r) o.holds }

pub scan_cells : {S : Shape} {h : History} {s : Scan} {g c p : ℕ} {x : PageWords} {cell cell' : ℕ → ℕ}
    → ((r : ℕ) → range_of r ≡ g → T (seen_at h s.snapshot (row_at h r).inserter) → cell' (within r) ≡ cell (within r)) → ScanPageIs S h s g c p x cell → ScanPageIs S h s g c p x cell'
scan_cells f o = record { inside = o.inside; early = o.early; chunk = o.chunk; made = o.made; taken_before = o.taken_before; holds = holds_cells f o.holds }

-- ---- a row that a snapshot of commits made sees was seen before, and was given
pub seen_given : (h : History) (s : Snapshot) (r : ℕ) → T (seen_at h s (row_at h r).inserter) → r < length h.rows
seen_given h s r u = by_cases (dec_lt r (length h.rows)) (λ b. b) (λ f. absurd (rw (no_row h s r (omega arith)) at u))

row_seen : {S : Shape} {y : Call} {h h' : History} → Step S h y h' → (s : Snapshot) (r : ℕ) → s.commits ≤ h.last.ordinal → T (seen_at h' s (row_at h' r).inserter) → T (seen_at h s (row_at h r).inserter)
row_seen {h = h} step s r b u = go (seen_at h s (row_at h r).inserter) refl
  where
    go : (q : Bool) → seen_at h s (row_at h r).inserter ≡ q → T q
    go true e = tt
    go false e = absurd (rw (unseen_step step s r b e) at u)

pub seen_step : {S : Shape} {y : Call} {h h' : History} → Step S h y h' → (s : Snapshot) (r : ℕ) → s.commits ≤ h.last.ordinal → T (seen_at h' s (row_at h' r).inserter)
    → T (seen_at h s (row_at h r).inserter) × ((r < length h.rows) ⊎ (length h'.rows ≤ r))
seen_step {h = h} step s r b u = let old = row_seen step s r b u in (old, inl (seen_given h s r old))

-- a running scan's page
pub scan_page_step : {S : Shape} {y : Call} {h h' : History} {s : Scan} {g c p : ℕ} {x : PageWords} {cell : ℕ → ℕ} → InOrder h → Step S h y h' → s.snapshot.commits ≤ h.last.ordinal
    → ScanPageIs S h s g c p x cell → ScanPageIs S h' s g c p x cell
scan_page_step {h' = h'} {s = s} {g = g} {c = c} {x = x} {cell = cell} i step b o =
    let holds : Holds h' g c (λ r. T (seen_at h' s.snapshot (row_at h' r).inserter)) x cell = holds_step i step g c x (λ r e u. seen_step step s.snapshot r b u) o.holds in
    search (holds, le_trans o.early (grown step).merges, taken_step i step g s.snapshot.commits o.holds.through o.taken_before)

-- a scan that runs after another was closed is as it was
pub still_running : (l : List Scan) (k i : ℕ) → T (nth l k no_scan).running → T (nth (change l k (stopped (nth l k no_scan))) i no_scan).running
    → nth (change l k (stopped (nth l k no_scan))) i no_scan ≡ nth l i no_scan
unfolding stopped
still_running l k i run t = by_cases (ℕ_discrete i k) (λ e. absurd (rw (e, nth_changed no_scan l k (stopped (nth l k no_scan)) (running_known l k run)) at t)) (nth_other no_scan l k _ i)

-- ---- a step that makes no merge, in a memory whose pages stay
module _ {F : Form} {S : Shape} {v : View} {ps : List ScanEntry} {h h' : History} {y : Call} (o : Represents F S v ps h) (k : WellFormed S h) (step : Step S h y h') (same : h'.merges ≡ h.merges) where
  pub currents_stay : length h.rows ≡ length h'.rows → CurrentsAre S h' v
  unfolding merged_through
  currents_stay e g c a b = current_step k.invariants.order step e (ap (H.last_through g c 0) same) (o.currents g c a b)

  pub waits_stay : WaitingAre S h' v
  waits_stay p a b = waiting_step step (λ g c _ _. le_refl _) (o.waits p a b)

  -- a scan that was running before
  pub scan_stays : (i : ℕ) → scan_at h' i ≡ scan_at h i → T (scan_at h' i).running → (g c : ℕ) → g < S.ranges → c < S.columns
      → ScanPageOf S h' v (scan_at h' i) g c
  unfolding Timely
  scan_stays i e t g c a b =
      rw e (scan_page_step k.invariants.order step (k.invariants.timely i).commits (o.scan_pages i (rw e at t) g c a b))

  -- all of them, where the step gives no row and leaves the scans
  pub pages_stay : length h.rows ≡ length h'.rows → ((i : ℕ) → scan_at h' i ≡ scan_at h i) → CurrentsAre S h' v × WaitingAre S h' v × ScanPagesAre S h' v
  pages_stay e f = (currents_stay e, waits_stay, λ i. scan_stays i (f i))
