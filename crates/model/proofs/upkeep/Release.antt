-- Release keeps the relation: a waiting page is freed unless an open scan was opened before the merge that replaced it, so no open scan's page is freed.
use mathlib.Core.Path.{◌≡◌, refl, sym, ◌∙◌, ap}
use mathlib.Core.Logic.{inl, inr}
use mathlib.Core.Bool.{Bool, true, false, not, cond, ◌&&◌, and-false, and-true, and_assoc, and_comm, true≢false}
use mathlib.Core.List.{List, [], ◌∷◌}
use Prim.Native.Nat.{ℕ, zero, suc, ◌^◌, ◌≤◌, ◌<◌}
use native.Mathlib.Omega.{arith}
use native.Mathlib.Nat.{le_refl}
use lib.Dec.{leb-suc-suc, T, leb, ltb, eqb, eqb→eq, le→leb, ltb→lt, T_not}
use lib.ListN.{length}
use Rattle.terms.specs.declared.Shape.{Shape}
use Rattle.terms.specs.declared.Form.{Form}
use Rattle.history.specs.History.{release, History, Scan, Merge, any, nth, state_of, keeper_of, row_at, records_of, merged_through, no_scan, scan_at, needed_by, after_release, released_count, with_merges}
use Rattle.history.proofs.Lists.{any_at, clash, refuted, parts, both}
use Rattle.history.specs.Steps.{Step}
use Rattle.history.specs.Invariants.{Timely}
use Rattle.history.proofs.Merges.{length_released}
use Rattle.history.proofs.Pages.{lineage_step, lineage_stays}
use Rattle.loops.proofs.Change.{changed_length, changed_fit}
use Rattle.layout.specs.View.{View, renew}
use Rattle.layout.specs.declared.Region.TheVariants.{PageState}
use Rattle.terms.specs.declared.ScanEntry.{ScanEntry}
use Rattle.model.specs.Stored.{row_in, record_in, value_in, page_in, cell_in, current_in, chunk_of, pages_of, current_page, waiting_page, count_below}
use Rattle.layout.specs.Codes.{as_free}
use Rattle.model.specs.Reading.{was_current, scan_page}
use Rattle.model.specs.Writing.{needed_in, releasable, released_in}
use Rattle.model.proofs.Lists.{any_count, from_count, first_ext, below_ext}
use Rattle.model.specs.Represents.{CurrentOf, CurrentsAre, WaitingIs, WaitingAre, PoolIs, ScanPageIs, ScanPagesAre, ScansAre, made_in, HeaderFor, Represents, WellFormed, Whole, count_from}
use Rattle.model.proofs.Steady.{current_step, waiting_step, scan_page_step}
use Rattle.model.proofs.Views.{renew_whole, changed_start, header_same}
use Rattle.model.proofs.upkeep.Scans.{scan_current}
use Rattle.model.proofs.upkeep.ScanPages.{WasCurrent, unfound, unfound_state, search_same, searched, search_is, Cases, scan_cases, found_page, scan_page_same}
use Rattle.model.proofs.Book.{live_inside}

-- ---- the scans that need a page
pub needed_is : (ss : List Scan) (ps : List ScanEntry) → ScansAre ss ps → (i : ℕ) → needed_in ps (suc i) ≡ needed_by ss i
unfolding needed_by
needed_is ss ps o i =
    any_count (λ p. not (eqb p.number 0) && ltb p.merges (suc i)) ps
    ∙ ap (ltb 0) (o.same (λ p. ltb p.merges (suc i)) ∙ from_count (λ s. s.running && ltb s.merges (suc i)) 1 ss)
    ∙ simp leb-suc-suc (sym (any_count (λ s. s.running && leb s.merges i) ss))

-- the merges that still wait, and those whose pages are freed
still_waiting : (ss : List Scan) (ps : List ScanEntry) → ScansAre ss ps → (q : ℕ → Bool) (i : ℕ) (ms : List Merge)
    → count_from (λ j m. m.waiting && (q j && needed_in ps j)) (suc i) ms ≡ count_from (λ j m. m.waiting && q j) (suc i) (after_release ss i ms)
unfolding after_release
still_waiting ss ps o q i [] = refl
still_waiting ss ps o q i (m ∷ ms) =
    rw (needed_is ss ps o i, still_waiting ss ps o q (suc i) ms, and_comm (q (suc i)) (needed_by ss i), and_assoc m.waiting (needed_by ss i) (q (suc i)))

freed_count : (ss : List Scan) (ps : List ScanEntry) → ScansAre ss ps → (i : ℕ) (ms : List Merge)
    → count_from (λ j m. m.waiting && not (needed_in ps j)) (suc i) ms ≡ released_count ss i ms
unfolding released_count
freed_count ss ps o i [] = refl
freed_count ss ps o i (m ∷ ms) = rw (needed_is ss ps o i, freed_count ss ps o (suc i) ms)

any_nth : {A : Type 0} (f : A → Bool) (l : List A) (k : ℕ) (d : A) → f d ≡ false → T (f (nth l k d)) → T (any f l)
any_nth f l zero d e t = absurd (rw e at t)
any_nth f l (suc k) d e t = any_at f l d k (live_inside f l k d e t) t

-- ---- the answer
pub release_count : {F : Form} {S : Shape} {v : View} {ps : List ScanEntry} {h : History} → Represents F S v ps h → count_below (releasable ps v) (pages_of S) ≡ released_count h.scans 0 h.merges
unfolding releasable
release_count {F} {S} {v} {ps} {h} o = o.pool.waiting (λ i. not (needed_in ps i)) ∙ freed_count h.scans ps o.scans 0 h.merges

module _ {F : Form} {S : Shape} {v : View} {ps : List ScanEntry} {h : History} (o : Represents F S v ps h) (k : WellFormed S h) where
  abbrev h' : History
  h' = with_merges h (after_release h.scans 0 h.merges)

  abbrev v' : View
  v' = released_in S ps v

  -- ---- the pages' words
  state_after_lem : (q : ℕ) → q < pages_of S → (page_in v' q).state ≡ cond (releasable ps v q) as_free (page_in v q).state
  unfolding released_in renew page_in
  state_after_lem q b =
      changed_start (λ i w. cond (releasable ps v i) as_free w) (pages_of S) (v PageState) q (omega (arith, o.whole.long PageState)) b

  page_kept : (q : ℕ) → q < pages_of S → releasable ps v q ≡ false → page_in v' q ≡ page_in v q
  unfolding page_in released_in renew
  page_kept q b e = rw (state_after_lem q b, e)

  -- a current page, and one that a running scan needs, is not released
  current_kept : (a b : ℕ) → a < S.ranges → b < S.columns → releasable ps v (current_in S v a b) ≡ false
  unfolding releasable
  current_kept a b u w =
      refuted (releasable ps v (current_in S v a b))
      (λ t. omega (arith, ltb→lt 1 (page_in v (current_in S v a b)).state (parts (waiting_page (page_in v (current_in S v a b)).state) _ t).0, (o.currents a b u w).state))

  needed : (i n : ℕ) → T (scan_at h i).running → (scan_at h i).merges < n → T (needed_in ps n)
  unfolding scan_at needed_by
  needed i zero t b = absurd (omega arith)
  needed i (suc n) t b =
      rw (needed_is h.scans ps o.scans n)
      (any_nth (λ s. s.running && leb s.merges n) h.scans i no_scan refl
      (both (scan_at h i).running _ t (le→leb (scan_at h i).merges n (omega arith))))

  found_kept : (i pl q : ℕ) → T (scan_at h i).running → WasCurrent S (scan_at h i).merges pl (page_in v q) → releasable ps v q ≡ false
  unfolding releasable
  found_kept i pl q t x =
      refuted (releasable ps v q)
      (λ r. T_not (needed_in ps (page_in v q).replaced) (parts (waiting_page (page_in v q).state) _ r).1 (needed i (page_in v q).replaced t x.after))

  -- a page that is freed passes no search
  freed_unfound : (m pl q : ℕ) → q < pages_of S → releasable ps v q ≡ true → was_current S v' m pl q ≡ false
  freed_unfound m pl q b e =
      unfound_state S v' m pl q (omega (arith, state_after_lem q b, ap (λ (z : Bool). cond z as_free (page_in v q).state) e))

  search_kept : (i a d : ℕ) → T (scan_at h i).running → searched S v' (scan_at h i).merges a d ≡ searched S v (scan_at h i).merges a d
  search_kept i a d t = first_ext _ _ (pages_of S) 0 (λ q _ b. at_page q (omega arith) (releasable ps v q) refl)
    where
      at_page : (q : ℕ) → q < pages_of S → (z : Bool) → releasable ps v q ≡ z → was_current S v' (scan_at h i).merges (chunk_of S a d) q ≡ was_current S v (scan_at h i).merges (chunk_of S a d) q
      at_page q b true e =
          freed_unfound (scan_at h i).merges (chunk_of S a d) q b e
          ∙ sym (unfound S v (scan_at h i).merges (chunk_of S a d) q (λ x. true≢false (sym e ∙ found_kept i (chunk_of S a d) q t x)))
      at_page q b false e = search_same S v v' (scan_at h i).merges (chunk_of S a d) q (page_kept q b e)

  pub scan_page_kept : (i a d : ℕ) → T (scan_at h i).running → scan_page S v' (scan_at h i).merges a d ≡ scan_page S v (scan_at h i).merges a d
  scan_page_kept i a d t = scan_page_same S v v' (scan_at h i).merges a d same_current same_made (search_kept i a d t)
    where
      same_current : current_in S v' a d ≡ current_in S v a d
      same_current = unfold current_in released_in renew in refl

      same_made : made_in S v' a d ≡ made_in S v a d
      same_made = unfold current_in page_in released_in renew in refl

  -- the page that a running scan reads is kept
  scan_releasable : (i a d : ℕ) → a < S.ranges → d < S.columns → T (scan_at h i).running → (page_in v (scan_page S v (scan_at h i).merges a d)).made ≤ (scan_at h i).merges
      → releasable ps v (scan_page S v (scan_at h i).merges a d) ≡ false
  scan_releasable i a d u w t before = go (scan_cases S v (scan_at h i).merges a d before)
    where
      go : Cases S v (scan_at h i).merges a d → releasable ps v (scan_page S v (scan_at h i).merges a d) ≡ false
      go (inl x) = ap (releasable ps v) (scan_current S v (scan_at h i).merges a d x) ∙ current_kept a d u w
      go (inr x) =
          ap (releasable ps v) (found_page S v (scan_at h i).merges a d x.0 x.1)
          ∙ found_kept i (chunk_of S a d) (searched S v (scan_at h i).merges a d) t (search_is S v (scan_at h i).merges a d x.1)

  -- ---- the parts
  merges_same : length (h').merges ≡ length h.merges
  unfolding with_merges
  merges_same = length_released h.scans 0 h.merges

  through_same : Step S h release h' → (a b : ℕ) → merged_through h' a b ≡ merged_through h a b
  through_same step a b = lineage_stays (lineage_step a b step) (λ n e. clash (cc))

  release_currents : Step S h release h' → CurrentsAre S h' v'
  unfolding current_in cell_in released_in renew
  release_currents step a b u w =
      let x : CurrentOf S h v a b = o.currents a b u w in
      rw (page_kept (current_in S v a b) x.inside (current_kept a b u w))
      (current_step k.invariants.order step (unfold with_merges in refl) (through_same step a b) x)

  release_waits : Step S h release h' → WaitingAre S h' v'
  release_waits step q b t = go (releasable ps v q) refl
    where
      go : (z : Bool) → releasable ps v q ≡ z → WaitingIs S h' (made_in S v') (page_in v' q)
      go true e = absurd (omega (arith, ltb→lt 1 (page_in v' q).state t, state_after_lem q b, ap (λ (z : Bool). cond z as_free (page_in v q).state) e))
      go false e = rw (page_kept q b e)
          (waiting_step {made = made_in S v} {made' = made_in S v'} step (λ a d _ _. unfold current_in page_in released_in renew in le_refl _) (o.waits q b (rw (page_kept q b e) at t)))

  released_waits : (q : ℕ) → releasable ps v q ≡ true → T (waiting_page (page_in v q).state)
  unfolding releasable
  released_waits q e = (parts (waiting_page (page_in v q).state) (not (needed_in ps (page_in v q).replaced)) (rw e tt)).0

  release_pool : PoolIs S (after_release h.scans 0 h.merges) (page_in v')
  release_pool =
      record {
        current = below_ext _ (λ q. current_page (page_in v q).state) (pages_of S) (λ q b. ap current_page (state_after_lem q b) ∙ current_same q (releasable ps v q) refl) ∙ o.pool.current;
        waiting = λ f.
            below_ext _ (λ q. waiting_page (page_in v q).state && (f (page_in v q).replaced && needed_in ps (page_in v q).replaced)) (pages_of S)
            (λ q b. ap (λ (w : ℕ). waiting_page w && f (page_in v' q).replaced) (state_after_lem q b) ∙ waiting_same f q)
            ∙ o.pool.waiting (λ i. f i && needed_in ps i)
            ∙ still_waiting h.scans ps o.scans f 0 h.merges;
      }
    where
      current_same : (q : ℕ) (z : Bool) → releasable ps v q ≡ z → current_page (cond z as_free (page_in v q).state) ≡ current_page (page_in v q).state
      current_same q true e = sym (refuted (current_page (page_in v q).state) (λ t. omega (arith, eqb→eq (page_in v q).state 1 t, ltb→lt 1 (page_in v q).state (released_waits q e))))
      current_same q false e = refl

      waiting_same : (f : ℕ → Bool) (q : ℕ) → (waiting_page (cond (releasable ps v q) as_free (page_in v q).state) && f (page_in v' q).replaced)
          ≡ (waiting_page (page_in v q).state && (f (page_in v q).replaced && needed_in ps (page_in v q).replaced))
      waiting_same f q = unfold releasable page_in released_in renew in (go (waiting_page (page_in v q).state) refl (needed_in ps (page_in v q).replaced) (f (page_in v q).replaced))
        where
          go : (a : Bool) → waiting_page (page_in v q).state ≡ a → (n c : Bool) → (waiting_page (cond (a && not n) as_free (page_in v q).state) && c) ≡ (a && (c && n))
          go true e true c = rw (e, and-true c)
          go true e false c = sym (and-false c)
          go false e n c = rw e

  release_scans : Step S h release h' → ScanPagesAre S h' v'
  unfolding scan_at with_merges Timely
  release_scans step i t a d u w =
      let q : ℕ = scan_page S v (scan_at h i).merges a d in
      let x : ScanPageIs S h (scan_at h i) a d q (page_in v q) (cell_in v q) = o.scan_pages i t a d u w in
      let y : ScanPageIs S h' (scan_at h i) a d q (page_in v q) (cell_in v q) = scan_page_step k.invariants.order step (k.invariants.timely i).commits x in
      rw (scan_page_kept i a d t, page_kept q x.inside (scan_releasable i a d u w t x.made)) (same_cells (scan_at h i) a d q y)
    where
      same_cells : (s : Scan) (a d q : ℕ) → ScanPageIs S h' s a d q (page_in v q) (cell_in v q) → ScanPageIs S h' s a d q (page_in v q) (cell_in v' q)
      same_cells s a d q y = unfold cell_in released_in renew in y

  release_whole : Whole F S v'
  unfolding released_in
  release_whole =
      renew_whole PageState _ (changed_length _ 0 (v PageState) (pages_of S) ∙ o.whole.long PageState)
      (changed_fit _ 0 (pages_of S) (v PageState) (λ i x _ b. elim (releasable ps v i) as (λ z. cond z as_free x < 2 ^ 32) [ true ↦ omega arith | false ↦ b ]) (o.whole.fits PageState)) o.whole

  pub release_kept : Step S h release h' → Represents F S (released_in S ps v) ps h'
  unfolding with_merges state_of keeper_of row_at records_of released_in renew row_in record_in value_in
  release_kept step =
      let header : HeaderFor F S h' v' = header_same refl refl refl (sym merges_same) o.header in
      search (header, release_currents step, release_waits step, release_pool, release_scans step, release_whole)
