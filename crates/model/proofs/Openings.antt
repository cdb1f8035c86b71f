-- A running scan reads the pages that were current at its opening: no call makes it find another page, and no call writes a cell of a row that was given before.
use mathlib.Core.Path.{◌≡◌, refl, ◌∙◌}
use mathlib.Core.Bool.{true, false, not, cond}
use mathlib.Core.List.{List, [], ◌∷◌}
use Prim.Native.Nat.{ℕ, ◌*◌, ◌≤◌, ◌<◌}
use native.Mathlib.Omega.{arith}
use native.Mathlib.Nat.{le_trans}
use lib.Dec.{T, eqb, nleb→lt}
use lib.ListN.{length}
use lib.IntN.{ℤ}
use lib.Bits.{bit_or}
use Rattle.terms.specs.Measures.{range_rows}
use Rattle.terms.specs.declared.Shape.{Shape}
use Rattle.terms.specs.declared.Form.{Form}
use Rattle.history.specs.History as H
use Rattle.history.specs.History.{Call, begin, insert, update, delete, commit, abort, latest, read_at, own_read, open_scan, scan_read, sum, close, merge, release, page_cell, lineage, crossings, begin_as, keeper_at, move, History, Verdict, accept, refuse, verdict, tests, next, run, range_of, scan_at, with_scans}
use Rattle.history.specs.Lists.{All, nil, cons}
use Rattle.history.specs.Forms.{form_next, Suited}
use Rattle.history.proofs.Lists.{nth_before}
use Rattle.history.proofs.Accepted.{Passed, passed}
use Rattle.history.proofs.Steps.{mergeable, is_active_lem, next_step}
use Rattle.history.specs.Steps.{Mergeable, scan_opened, scan_closed, Step, nothing, new_states, row_given, records_made, new_scans, new_merges}
use Rattle.layout.specs.View.{View, renew, put}
use Rattle.layout.specs.Moved.{later_zero, moved}
use Rattle.layout.specs.declared.Region.TheVariants.{RowMask}
use Rattle.terms.specs.declared.ScanEntry.{ScanEntry}
use Rattle.model.specs.Stored.{row_in, page_in, cell_in, current_in, within, open_index, open_keeper}
use Rattle.model.specs.Reading.{scan_page, was_current}
use Rattle.model.specs.Writing.{begun, noted, mark_all, settled, freed, committed_in, aborted_in, inserted_at, inserted_in, appended, filled_in, new_bits_in, original_appended, setting_appended, updated_in, deleted_in, merged_in, released_in}
use Rattle.model.specs.Calls.{Typed, act_in, store_act, view_if, store_next, entries_next, view_after}
use Rattle.model.specs.Represents.{ScanPageOf, Represents, WellFormed}
use Rattle.model.proofs.changes.Insert.{cell_kept, scan_apart}
use Rattle.model.proofs.upkeep.Merged.{scan_same, scan_not_free, cells_other}
use Rattle.model.proofs.Holding.{grown}
use Rattle.model.proofs.Steady.{still_running}
use Rattle.model.proofs.upkeep.Release.{scan_page_kept}
use Rattle.model.proofs.Calls.{agree_verdict, tests_agree, one_call}

-- The scan that had m merges made before it finds the same page in w as in v, and the page's cells of the first n rows are the same.
pub record SamePage (S : Shape) (v w : View) (m n g c : ℕ) : Type 0 where
  pub page : scan_page S w m g c ≡ scan_page S v m g c
  pub cells : (r : ℕ) → r < n → range_of r ≡ g → cell_in w (scan_page S v m g c) (within r) ≡ cell_in v (scan_page S v m g c) (within r)

unmoved : (S : Shape) (v : View) (m n g c : ℕ) → SamePage S v v m n g c
unmoved S v m n g c = record { page = refl; cells = λ r b e. refl }

module _ {F : Form} {S : Shape} {v : View} {ps : List ScanEntry} {h : History} (o : Represents F S v ps h) (k : WellFormed S h) (i : ℕ) (run : T (scan_at h i).running) (g c : ℕ) (bg : g < S.ranges) (bc : c < S.columns) where
  abbrev PageStays : View → Type 0
  PageStays w = SamePage S v w (scan_at h i).merges (length h.rows) g c

  abbrev q : ℕ
  q = scan_page S v (scan_at h i).merges g c

  page : ScanPageOf S h v (scan_at h i) g c
  page = o.scan_pages i run g c bg bc

  -- an insert writes the cell of a new row
  insert_same : (t : ℕ) (vs : List ℤ) → T (not (H.not_active h t)) → T (not (H.all_given S h)) → Typed (insert t vs) → PageStays (inserted_in S t vs v)
  unfolding inserted_in H.all_given
  insert_same t vs a b y = rw o.header.rows_given at_row
    where
      room : length h.rows < S.ranges * range_rows
      room = nleb→lt (S.ranges * range_rows) (length h.rows) b

      at_row : PageStays (inserted_at S t vs (length h.rows) v)
      at_row = unfold inserted_at noted open_index put renew scan_page was_current current_in page_in cell_in in
          record {
            page = refl;
            cells = λ r u e. cell_kept o k t vs (is_active_lem h t a) room y.1 q (within r) (omega arith)
                (scan_apart o k t vs (is_active_lem h t a) room y.1 g c q bc page.chunk r e (λ z. omega arith));
          }

  update_same : (t r n : ℕ) (vs : List ℤ) → PageStays (updated_in S t r n vs v)
  unfolding updated_in setting_appended original_appended filled_in appended noted put renew scan_page was_current current_in page_in cell_in
  update_same t r n vs =
      elim (eqb (new_bits_in v r n) 0)
      as (λ z. PageStays (noted t (put RowMask r (bit_or n (row_in v r).mask) (cond z (setting_appended S t (open_keeper v t) r n vs v) (setting_appended S t (open_keeper v t) r n vs (original_appended S t r n v))))))
      [ true ↦ record { page = refl; cells = λ r b e. refl } | false ↦ record { page = refl; cells = λ r b e. refl } ]

  merge_same : (a d n : ℕ) → Mergeable S h a d n → PageStays (merged_in S a d n v)
  merge_same a d n ok =
      record {
        page = scan_same o k ok (scan_at h i).merges g c bg bc page.early page.made;
        cells = λ r b e. cells_other o k ok q (within r) (scan_not_free o k ok (scan_at h i).merges g c bg bc page.made) (omega arith);
      }

  act_same : (x : Call) → Typed x → Passed (tests S h x) → PageStays (store_act S v ps x)
  unfolding act_in moved later_zero begun noted deleted_in appended committed_in aborted_in freed mark_all settled put renew scan_page was_current current_in page_in cell_in
  act_same begin y p = record { page = refl; cells = λ r b e. refl }
  act_same (insert t vs) y p = insert_same t vs (unfold tests in p.0) (unfold tests in p.1.0) y
  act_same (update t r n vs) y p = update_same t r n vs
  act_same (delete t r) y p = record { page = refl; cells = λ r b e. refl }
  act_same (commit t s) y p = record { page = refl; cells = λ r b e. refl }
  act_same (abort t) y p = record { page = refl; cells = λ r b e. refl }
  act_same (latest r x) y p = unmoved S v _ _ g c
  act_same (read_at s r x) y p = unmoved S v _ _ g c
  act_same (own_read t r x) y p = unmoved S v _ _ g c
  act_same (open_scan s) y p = record { page = refl; cells = λ r b e. refl }
  act_same (scan_read j r x) y p = unmoved S v _ _ g c
  act_same (sum j x) y p = unmoved S v _ _ g c
  act_same (close j) y p = unmoved S v _ _ g c
  act_same (merge a d n) y p = merge_same a d n (mergeable S h a d n p)
  act_same release y p = record { page = scan_page_kept o k i g c run; cells = λ r b e. (unfold released_in renew cell_in in refl) }
  act_same (page_cell x r) y p = unmoved S v _ _ g c
  act_same (lineage a x) y p = unmoved S v _ _ g c
  act_same (crossings r x mark from to stamps) y p = unmoved S v _ _ g c
  act_same (begin_as x) y p = record { page = refl; cells = λ r b e. refl }
  act_same (keeper_at s r x) y p = unmoved S v _ _ g c
  act_same (move to second) y p = record { page = refl; cells = λ r b e. refl }

  pub next_same : (x : Call) → Typed x → PageStays (store_next S v ps x)
  unfolding store_next
  next_same x y = rw (agree_verdict (tests_agree o k x)) (go (verdict (tests S h x)) refl)
    where
      go : (w : Verdict) → verdict (tests S h x) ≡ w → PageStays (view_if w v (store_act S v ps x))
      go accept e = unfold view_if in (act_same x y (passed (tests S h x) e))
      go (refuse n) e = unfold view_if in (unmoved S v _ _ g c)

-- ---- a scan that runs later ran before, and is the same scan
scan_before : {S : Shape} {x : Call} {h h' : History} → Step S h x h' → (i : ℕ) → i ≤ length h.scans → T (scan_at h' i).running → scan_at h' i ≡ scan_at h i
unfolding scan_at H.with_rows H.with_tail H.with_transactions with_scans H.with_merges
scan_before nothing i b t = refl
scan_before (new_states _) i b t = refl
scan_before (row_given _ _ _ _) i b t = refl
scan_before (records_made _ _ _ _ _) i b t = refl
scan_before {h = h} (new_scans (scan_opened _ _ _)) i b t = nth_before _ h.scans _ i (λ e. omega arith)
scan_before {h = h} (new_scans (scan_closed j run)) i b t = still_running h.scans j i run t
scan_before (new_merges _) i b t = refl

pub scan_later : (S : Shape) (h : History) (cs : List Call) (i : ℕ) → i ≤ length h.scans → T (scan_at (run S h cs) i).running → scan_at (run S h cs) i ≡ scan_at h i
unfolding run
scan_later S h [] i b t = refl
scan_later S h (x ∷ cs) i b t =
    let s = next_step S h x in
    let e = scan_later S (next S h x) cs i (le_trans b (grown s).scans) t in
    e ∙ scan_before s i b (rw e at t)

pub same_after : {F : Form} {S : Shape} {v : View} {ps : List ScanEntry} {h : History} → Represents F S v ps h → WellFormed S h → (i : ℕ) → i ≤ length h.scans → {cs : List Call} → All Typed cs → Suited S F h cs → T (scan_at (run S h cs) i).running
    → (g c : ℕ) → g < S.ranges → c < S.columns → SamePage S v (view_after S v ps cs) (scan_at h i).merges (length h.rows) g c
unfolding run view_after Suited
same_after {F} {S} {v} {ps} {h} o k i b nil suited t g c bg bc = unmoved S v _ _ g c
same_after {F} {S} {v} {ps} {h} o k i b (cons {x = x} {l = cs} y ys) suited t g c bg bc =
    let s = next_step S h x in
    let one = one_call F S v ps h x y suited.0 o k in
    let later : T (scan_at (next S h x) i).running = rw (scan_later S (next S h x) cs i (le_trans b (grown s).scans) t) at t in
    let e : scan_at (next S h x) i ≡ scan_at h i = scan_before s i b later in
    let first : SamePage S v (store_next S v ps x) (scan_at h i).merges (length h.rows) g c = next_same o k i (rw e at later) g c bg bc x y in
    let rest : SamePage S (store_next S v ps x) (view_after S (store_next S v ps x) (entries_next S v ps x) cs) (scan_at h i).merges (length (next S h x).rows) g c =
    rw e at (same_after {F = form_next S h x F} one.shown one.well_formed i (le_trans b (grown s).scans) ys suited.1 t g c bg bc) in
    record {
      page = rest.page ∙ first.page;
      cells = λ r u f. (rw first.page at (rest.cells r (le_trans u (grown s).rows) f)) ∙ first.cells r u f;
    }
