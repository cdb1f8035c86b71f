-- The demands hold.
use Prim.Native.Nat.{ℕ, suc, ◌≤◌}
use mathlib.Core.Path.{◌≡◌, refl, ap, sym, ◌∙◌}
use mathlib.Core.Bool.{Bool, true, false, not, cond, ◌&&◌}
use mathlib.Core.List.{List, ◌∷◌}
use lib.Dec.{T, leb}
use lib.ListN.{length}
use Rattle.model.specs.Writing.{made_view}
use Rattle.terms.specs.Measures.{within_limits, most_scans}
use Rattle.terms.specs.declared.Shape.{Shape}
use Rattle.terms.specs.Refusals.{is_refused}
use Rattle.std.specs.Prelude.{Ok, Err}
use Rattle.terms.specs.Answers.{Answer}
use Rattle.terms.specs.declared.Fields.{Fields}
use Rattle.terms.specs.declared.Form.{Form}
use Rattle.terms.specs.declared.ScanEntry.{ScanEntry}
use Rattle.terms.specs.declared.Refusal.{Refusal}
use Rattle.layout.specs.Sizes.{sizes_of, bytes_needed}
use Rattle.layout.specs.View.{lay, view_of}
use Rattle.history.specs.History.{next, Call, open_scan, History, Snapshot, start, answer, run, tests, verdict, accept}
use Rattle.history.specs.Claims.{strike, outcome_at, Accepts, Striking, MinutesStable, ScansStable, latest_reads, at_reads, scan_reads, Shows, by_read, by_keeper}
use Rattle.history.specs.Forms.{form_next, form_use, works_on, Suited, form_run, StrikingSuited}
use Rattle.history.specs.Latest.{ValueAt}
use Rattle.history.specs.Lists.{All, nil, cons}
use Rattle.history.proofs.Lists.{by_test, both_test, le_test, all_filterb, is_true, clash}
use Rattle.history.proofs.Striking.{striking, striking_suited}
use Rattle.history.proofs.Stability.{minutes_stable, scans_stable, accepted, replies, shows_reply}
use Rattle.history.proofs.Latest.{shown_committed}
use Rattle.history.proofs.Invariants.{invariants}
use Rattle.facts.specs.Usable.{usable}
use Rattle.making.specs.Made.{made, made_list}
use Rattle.making.proofs.Answers.{made_done}
use Rattle.model.specs.Calls.{Typed, view_after}
use Rattle.model.specs.Claims.{history_after, PageKept}
use Rattle.model.proofs.Claims.{page_holds, pages_kept}
use Rattle.promise.specs.Represents.{MemoryRepresents}
use Rattle.promise.specs.Promise.{left_by, store_view, second_of, room_for, admits, answer_of, lend, left}
use Rattle.promise.specs.Demands.{Accepted, memory_made, Lends, store_outcomes, store_left, MakingAccepted, ReadsCommitted, PagesCommitted, ScansKept, Demand3, StrikingStore, store_outcome_at, AcceptsIn, MinutesStableStore, ScansStableStore}
use Rattle.promise.proofs.Represents.{made_starts, represents_usable, form_is, view_is, list_is, store_seen, represents_call, represents_outcomes}

-- ---- an accepted making: its measures are within their limits, and memory and list are long enough
record Enough (F : Form) (S : Shape) (m : List ℕ) (ps : List ScanEntry) : Type 0 where
  within : within_limits S ≡ true
  room : bytes_needed F S ≤ length m
  entries : most_scans ≤ length ps
  laid : memory_made F S m ps ≡ lay (sizes_of F S) (made_view F S) m

both_passed : (b c : Bool) (l k : List ℕ) → (cond {A = Answer × List ℕ} b (cond c (Ok Fields.Done, l) (Err Refusal.Memory, k)) (Err Refusal.Shape, k)).0 ≡ Ok Fields.Done → T b × T c
both_passed true true l k e = (tt, tt)
both_passed true false l k e = clash (cc)
both_passed false c l k e = clash (cc)

enough : (F : Form) (S : Shape) (m : List ℕ) (ps : List ScanEntry) → Accepted F S m ps → Enough F S m ps
unfolding made bytes_needed
enough F S m ps a =
    let t = both_passed (within_limits S) (leb (bytes_needed F S) (length m) && leb most_scans (length ps)) (lay (sizes_of F S) (made_view F S) m) m a in
    let within = is_true (within_limits S) t.0 in
    let fits = simp (both_test, le_test) at t.1 in
    record {
      within = within;
      room = fits.0;
      entries = fits.1;
      laid = sym (ap (λ (w : Answer × List ℕ). w.1) (made_done F S (length ps) m within fits.0 fits.1));
    }

pub making_accepted : MakingAccepted
unfolding MakingAccepted bytes_needed
making_accepted F S m ps t b n =
    sym (ap (λ (w : Answer × List ℕ). w.0) (made_done F S (length ps) m (is_true (within_limits S) t) b n))

-- what it left represents the empty history
from_making : (F : Form) (S : Shape) (m : List ℕ) (ps : List ScanEntry) → Accepted F S m ps → MemoryRepresents (memory_made F S m ps) (made_list ps) F S start
from_making F S m ps a = let e = enough F S m ps a in rw e.laid (made_starts F S m ps e.within e.room e.entries)

-- and is usable, with a scan list whose entries were all freed
pub made_then_usable : (F : Form) (S : Shape) (m : List ℕ) (qs : List ScanEntry) → (made F S (length qs) m).0 ≡ Ok Fields.Done → usable (made F S (length qs) m).1 (made_list qs) ≡ true
made_then_usable F S m qs e = represents_usable (from_making F S m qs e)

-- ---- demand 3
pub demand3 : Demand3
unfolding Demand3 store_outcomes
demand3 F S m ps a cs l = represents_outcomes (from_making F S m ps a) l.typed l.suited l.roomy

-- a list without its merges and releases lends as it should
struck_lends : (F : Form) (S : Shape) (cs : List Call) → Lends F S start cs → Lends F S start (strike cs)
unfolding strike StrikingSuited
struck_lends F S cs l = record { typed = all_filterb _ l.typed; suited = striking_suited S F cs l.suited; roomy = all_filterb _ l.roomy }

pub striking_store : StrikingStore
unfolding StrikingStore Demand3 Striking
striking_store F S m ps a cs l = rw (demand3 F S m ps a cs l, demand3 F S m ps a (strike cs) (struck_lends F S cs l)) (striking S cs)

-- a call that the store accepts is accepted by the history
accepts_in : (F : Form) (S : Shape) (m : List ℕ) (ps : List ScanEntry) → Accepted F S m ps → (cs : List Call) → Lends F S start cs → (i : ℕ) (x : Call) → AcceptsIn F S m ps cs i x → Accepts S cs i x
unfolding Demand3 store_outcome_at outcome_at
accepts_in F S m ps a cs l i x p =
    record { inside = p.inside; is = p.is; accepted = rw (demand3 F S m ps a cs l) at p.accepted }

pub minutes_stable_store : MinutesStableStore
unfolding MinutesStableStore Demand3 store_outcome_at outcome_at MinutesStable
minutes_stable_store F S m ps a cs l i j t x q b past u w =
    rw (demand3 F S m ps a cs l)
    (minutes_stable S cs i j t x q b past (accepts_in F S m ps a cs l i x u) (accepts_in F S m ps a cs l j x w))

pub scans_stable_store : ScansStableStore
unfolding ScansStableStore Demand3 store_outcome_at outcome_at ScansStable
scans_stable_store F S m ps a cs l i j x q u w =
    rw (demand3 F S m ps a cs l)
    (scans_stable S cs i j x q (accepts_in F S m ps a cs l i x u) (accepts_in F S m ps a cs l j x w))

-- ---- the memory and the list after a list of calls
record Left (m : List ℕ) (ps : List ScanEntry) (F : Form) (S : Shape) (h : History) (cs : List Call) : Type 0 where
  same : MemoryRepresents (left (lend m ps) cs).memory (left (lend m ps) cs).list (form_run S F h cs) S (run S h cs)
  shown : view_of (sizes_of (form_run S F h cs) S) (left (lend m ps) cs).memory ≡ view_after S (view_of (sizes_of F S) m) ps cs

calls_left : {m : List ℕ} {ps : List ScanEntry} {F : Form} {S : Shape} {h : History} → MemoryRepresents m ps F S h → {cs : List Call} → All Typed cs → Suited S F h cs → All (λ c. T (room_for (form_use c) S (second_of c))) cs → Left m ps F S h cs
unfolding left run form_run view_after Suited
calls_left o nil s r = record { same = o; shown = refl }
calls_left {m = m} {ps = ps} {F = F} {S = S} {h = h} o (cons {x = c} {l = cs} y ys) s (cons r rs) =
    let l = calls_left {m = (left_by (lend m ps) c).memory} {ps = (left_by (lend m ps) c).list} {F = form_next S h c F} {h = next S h c} (represents_call o c s.0 r y).1 ys s.1 rs in
    record { same = l.same; shown = l.shown ∙ rw (store_seen o c s.0 r y, list_is o c s.0 r) }

module _ (F : Form) (S : Shape) (m : List ℕ) (ps : List ScanEntry) (a : Accepted F S m ps) {cs : List Call} (l : Lends F S start cs) where
  -- the store's memory and list, as the demands name them
  store_same : MemoryRepresents (store_left F S m ps cs).memory (store_left F S m ps cs).list (form_run S F start cs) S (history_after S cs)
  unfolding store_left history_after
  store_same = (calls_left (from_making F S m ps a) l.typed l.suited l.roomy).same

  -- what they see, and after further calls
  view_left : store_view (store_left F S m ps cs).memory ≡ view_of (sizes_of (form_run S F start cs) S) (store_left F S m ps cs).memory
  view_left = view_is store_same

  view_later : {ds : List Call} → Lends (form_run S F start cs) S (history_after S cs) ds
      → store_view (left (store_left F S m ps cs) ds).memory ≡ view_after S (view_of (sizes_of (form_run S F start cs) S) (store_left F S m ps cs).memory) (store_left F S m ps cs).list ds
  view_later z = let x = calls_left store_same z.typed z.suited z.roomy in view_is x.same ∙ x.shown

-- ---- demand 2
-- a call that is not refused works on the form
works_for : {m : List ℕ} {ps : List ScanEntry} {F : Form} {S : Shape} {h : History} → MemoryRepresents m ps F S h → (x : Call) → T (not (is_refused (answer_of (lend m ps) x))) → T (works_on x F)
unfolding answer_of admits
works_for {F = F} o x n = by_test (λ b. works_on x F ≡ b → T b) (works_on x F) (λ _ _. tt) (λ _ e. rw (form_is o, e) at n) refl

-- and what shows a value is no move
shows_roomy : {h : History} {x : Call} {show : ValueAt → Answer} {t : Snapshot} {r c : ℕ} (S : Shape) → Shows h x show t r c → T (room_for (form_use x) S (second_of x))
shows_roomy S (by_read latest_reads) = tt
shows_roomy S (by_read at_reads) = tt
shows_roomy S (by_read scan_reads) = tt
shows_roomy S by_keeper = tt

pub reads_committed : ReadsCommitted
unfolding ReadsCommitted history_after
reads_committed F S m ps a cs l x show t r c y q n =
    let h = history_after S cs in
    let s = store_same F S m ps a l in
    let e : answer_of (store_left F S m ps cs) x ≡ answer S h x =
    (represents_call s x (works_for s x n) (shows_roomy S q) y).0 in
    let w : verdict (tests S h x) ≡ accept = accepted S h x (rw e at n) in
    e ∙ replies S h x w ∙ shows_reply S h q ∙ shown_committed show h (invariants S cs).order t r c

pub pages_committed : PagesCommitted
unfolding PagesCommitted
pages_committed F S m ps a cs l g c b d =
    let s = store_same F S m ps a l in
    rw (view_left F S m ps a l) (page_holds s.shown s.well_formed g c b d)

pub scans_kept : ScansKept
unfolding ScansKept run view_after
scans_kept F S m ps a cs l s later z e t g c b d =
    rw (view_left F S m ps a l, view_later F S m ps a l z) (kept z.typed)
  where
    o : MemoryRepresents (store_left F S m ps cs).memory (store_left F S m ps cs).list (form_run S F start cs) S (history_after S cs)
    o = store_same F S m ps a l

    kept : All Typed (open_scan s ∷ later)
        → PageKept S (view_of (sizes_of (form_run S F start cs) S) (store_left F S m ps cs).memory)
        (view_after S (view_of (sizes_of (form_run S F start cs) S) (store_left F S m ps cs).memory) (store_left F S m ps cs).list (open_scan s ∷ later))
        (run S (history_after S cs) (open_scan s ∷ later)) (suc (length (history_after S cs).scans)) g c (length (history_after S cs).rows)
    kept (cons y ys) = unfold run view_after in (pages_kept o.shown o.well_formed s later y ys z.suited e (unfold run in t) g c b d)
