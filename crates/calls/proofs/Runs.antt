-- The demands of the lent memory and list themselves, from those stated of definitions, for every interface that returns an answer (`Faithful`).
use Prim.Native.Nat.{ℕ, ◌<◌}
use mathlib.Core.Path.{◌≡◌, refl, sym, subst, ap, ◌∙◌}
use mathlib.Core.Bool.{Bool, true, false, cond, ◌&&◌}
use mathlib.Core.Logic.{inl, ◌↔◌}
use mathlib.Core.List.{List, [], ◌∷◌, map}
use native.Mathlib.Omega.{arith}
use lib.Dec.{T, leb}
use lib.ListN.{length, get_or-map}
use Rattle.model.specs.Writing.{made_view}
use Rattle.terms.specs.Measures.{within_limits, most_scans}
use Rattle.terms.specs.declared.Shape.{Shape}
use Rattle.terms.specs.Refusals.{is_refused, is_accepted}
use Rattle.std.specs.Prelude.{Ok, Err}
use Rattle.terms.specs.Answers.{Answer}
use Rattle.terms.specs.declared.Fields.{Fields}
use Rattle.terms.specs.declared.ScanEntry.{ScanEntry}
use Rattle.terms.specs.declared.Refusal.{Refusal}
use Rattle.terms.specs.declared.Form.{Form}
use Rattle.words.specs.Words.{words}
use Rattle.layout.specs.Sizes.{sizes_of, bytes_needed}
use Rattle.layout.specs.View.{lay}
use Rattle.facts.specs.Usable.{stored_shape, usable}
use Rattle.facts.proofs.Usable.{usable_tells}
use Rattle.history.proofs.Lists.{is_true, refuted, clash}
use Rattle.history.specs.History.{Call, move, Outcome, alone, given, Verdict, accept, refuse, verdict}
use Rattle.history.specs.Forms.{form_use, in_place}
use Rattle.model.specs.Calls.{tests_in, entries_after, entries_if, entries_next}
use Rattle.history.specs.Claims.{is_plain, kind, strike, plain_outcomes}
use Rattle.promise.specs.Promise.{Lent, store_view, admits, answer_of, list_after, outcome_of, left_by, outcomes_of, Serves, Gives, Moves, Makes, lend, left}
use Rattle.promise.specs.Demands.{Accepted, memory_made, store_outcomes, store_left, store_outcome_at, AcceptsIn, Refuses, RefusedKeeps, ReadsCommitted, PagesCommitted, Demand3, StrikingStore, MinutesStableStore, ScansStableStore}
use Rattle.promise.specs.Footprint.{ChangesOnly, MergeChangesOnly, MakingChangesOnly, MoveChangesOnly}
use Rattle.promise.specs.Stated.{conditions}
use Rattle.promise.proofs.Demands.{demand3, reads_committed, pages_committed, striking_store, minutes_stable_store, scans_stable_store}
use Rattle.promise.proofs.Refused.{refused_keeps}
use Rattle.promise.proofs.Footprint.{changes_only, merge_changes_only, making_changes_only}
use Rattle.promise.proofs.Moves.{move_changes_only}
use Rattle.promise.proofs.Alone.{none_left, left_in_place}
use Rattle.promise.proofs.Stated.{refuses}
use Rattle.making.specs.Made.{made}
use Rattle.scans.specs.Entries.{all_freed, freed_if}
use Rattle.calls.specs.Runs.{Run, ends, goes, moves_on, stays, Begun, by_making, of_first, Interface, returned_for, AcceptsAmong, returned_at, RefusedSo, RefusedKept, UnmadeKept, ChangedSo, MergedSo, MadeSo, UnmovedKept, MovedSo, UnmovedSo, ReadsSo, PagesSo, OutcomesSo, StruckSame, MinutesSo, ScansSo, calls, LentRefused, LentKept, MakingKept, LentChanged, LentMerged, MakingChanged, MoveKept, MoveChanged, MoveRefused, LentReads, LentPages, LentOutcomes, LentStriking, LentMinutes, LentScans, MakingFrees, ShortRefused}

-- ---- what a run answers and leaves
-- a move leaves the list
move_list : (m : List ℕ) (ps : List ScanEntry) (to : Form) (second : List ℕ) → list_after (lend m ps) (move to second) ≡ ps
unfolding list_after entries_next entries_after entries_if
move_list m ps to second = go (admits (lend m ps) (move to second)) (verdict (tests_in (stored_shape (words m)) (store_view m) ps (move to second)))
  where
    go : (b : Bool) (w : Verdict) → cond b (entries_if w ps ps) ps ≡ ps
    go true accept = refl
    go true (refuse n) = refl
    go false w = refl

left_on : (x : Lent) (c : Call) (cs : List Call) {m' : List ℕ} {ps' : List ScanEntry} → m' ≡ (left_by x c).memory → ps' ≡ (left_by x c).list → left (lend m' ps') cs ≡ left x (c ∷ cs)
unfolding left
left_on x c cs e f = rw (e, f) refl

outcomes_on : (x : Lent) (c : Call) (cs : List Call) (o : Outcome Answer) (os : List (Outcome Answer)) {m' : List ℕ} {ps' : List ScanEntry} → o ≡ outcome_of x c → m' ≡ (left_by x c).memory → ps' ≡ (left_by x c).list → os ≡ outcomes_of (lend m' ps') cs
    → o ∷ os ≡ outcomes_of x (c ∷ cs)
unfolding outcomes_of
outcomes_on x c cs o os e f g h = rw (e, h, f, g) refl

-- the outcome of a call, and the store that it leaves
as_left : (x : Lent) (c : Call) (o : Outcome Answer) {m' : List ℕ} {ps' : List ScanEntry} → T (in_place (form_use c)) → Gives x.memory x.list c o m' ps' → (o ≡ outcome_of x c) × (m' ≡ (left_by x c).memory) × (ps' ≡ (left_by x c).list)
unfolding Gives Serves
as_left x c o put s =
    (rw (← s.0.0, ← s.1), s.0.1 ∙ sym (left_in_place x c put), s.0.2)

alone_is : (m : List ℕ) (ps : List ScanEntry) (to : Form) (second : List ℕ) (r : Answer) → r ≡ answer_of (lend m ps) (move to second) → alone r ≡ outcome_of (lend m ps) (move to second)
alone_is m ps to second r e = rw (← e, none_left (lend m ps) (move to second) refl)

moved_left : (m : List ℕ) (ps : List ScanEntry) (to : Form) (second : List ℕ) (r : Answer) (second' : List ℕ) → Moves m ps (move to second) r second' → is_refused r ≡ false
    → (alone r ≡ outcome_of (lend m ps) (move to second)) × (second' ≡ (left_by (lend m ps) (move to second)).memory) × (ps ≡ (left_by (lend m ps) (move to second)).list)
unfolding Moves
moved_left m ps to second r second' s a = (alone_is m ps to second r s.0, rw (← s.0, a) s.1, sym (move_list m ps to second))

unmoved_left : (m : List ℕ) (ps : List ScanEntry) (to : Form) (second : List ℕ) (r : Answer) (second' : List ℕ) (n : Refusal) → Moves m ps (move to second) r second' → r ≡ Err n
    → (alone r ≡ outcome_of (lend m ps) (move to second)) × (m ≡ (left_by (lend m ps) (move to second)).memory) × (ps ≡ (left_by (lend m ps) (move to second)).list)
unfolding Moves
unmoved_left m ps to second r second' n s a = (alone_is m ps to second r s.0, rw (← s.0, a), sym (move_list m ps to second))

run_left : {m m' : List ℕ} {ps ps' : List ScanEntry} {cs : List Call} {os : List (Outcome Answer)} → Run calls m ps cs os m' ps'
    → (os ≡ outcomes_of (lend m ps) cs) × (m' ≡ (left (lend m ps) cs).memory) × (ps' ≡ (left (lend m ps) cs).list)
run_left ends = unfold outcomes_of left in (refl, refl, refl)
run_left (goes {m = m} {ps = ps} {c = c} {o = o} {cs = cs} {os = os} put s q) =
    let l = run_left q in
    let g = as_left (lend m ps) c o put s in
    let k = left_on (lend m ps) c cs g.1 g.2 in
    (outcomes_on (lend m ps) c cs o os g.0 g.1 g.2 l.0, l.1 ∙ ap (λ (x : Lent). x.memory) k, l.2 ∙ ap (λ (x : Lent). x.list) k)
run_left (moves_on {m = m} {second = second} {ps = ps} {to = to} {r = r} {cs = cs} {os = os} s a q) =
    let l = run_left q in
    let g = moved_left m ps to second r _ s a in
    let k = left_on (lend m ps) (move to second) cs g.1 g.2 in
    (outcomes_on (lend m ps) (move to second) cs (alone r) os g.0 g.1 g.2 l.0, l.1 ∙ ap (λ (x : Lent). x.memory) k, l.2 ∙ ap (λ (x : Lent). x.list) k)
run_left (stays {m = m} {second = second} {ps = ps} {to = to} {r = r} {n = n} {cs = cs} {os = os} s a q) =
    let l = run_left q in
    let g = unmoved_left m ps to second r _ n s a in
    let k = left_on (lend m ps) (move to second) cs g.1 g.2 in
    (outcomes_on (lend m ps) (move to second) cs (alone r) os g.0 g.1 g.2 l.0, l.1 ∙ ap (λ (x : Lent). x.memory) k, l.2 ∙ ap (λ (x : Lent). x.list) k)

pub making_frees : MakingFrees
unfolding MakingFrees Makes
making_frees S m m' ps ps' h = h.2 ∙ ap (λ (x : Answer). freed_if (is_accepted x) ps) (sym h.0)

-- after an accepted making: what the demands are stated of
store_left_lem : (X : Form) (S : Shape) (m₀ : List ℕ) (ps₀ : List ScanEntry) {m m' : List ℕ} {ps ps' : List ScanEntry} {cs : List Call} {os : List (Outcome Answer)}
    → m ≡ memory_made X S m₀ ps₀ → ps ≡ all_freed ps₀ → Run calls m ps cs os m' ps'
    → (os ≡ store_outcomes X S m₀ ps₀ cs) × (m' ≡ (store_left X S m₀ ps₀ cs).memory) × (ps' ≡ (store_left X S m₀ ps₀ cs).list)
unfolding store_outcomes store_left
store_left_lem X S m₀ ps₀ e f q = rw (e, f) at (run_left q)

-- ---- a making answers done, or a refusal that leaves all as it was
answered : List ℕ → Bool → Bool → List ℕ → Answer × List ℕ
answered m a b l = cond a (cond b (Ok Fields.Done, l) (Err Refusal.Memory, m)) (Err Refusal.Shape, m)

unmade_same : (m : List ℕ) (a b : Bool) (l : List ℕ) (n : Refusal) → (answered m a b l).0 ≡ Err n → (answered m a b l).1 ≡ m
unfolding answered
unmade_same m true true l n e = clash (cc)
unmade_same m true false l n e = refl
unmade_same m false b l n e = refl

made_done : (m : List ℕ) (a b : Bool) (l : List ℕ) → is_refused (answered m a b l).0 ≡ false → (answered m a b l).0 ≡ Ok Fields.Done
unfolding answered
made_done m true true l e = refl
made_done m true false l e = clash (cc)
made_done m false b l e = clash (cc)

-- ---- a form that tells the answer of a call, and of a making
pub record Faithful (F : Interface) : Type 0 where
  pub served : {m m' : List ℕ} {ps ps' : List ScanEntry} {c : Call} {o : Outcome F.Returned} → F.gives m ps c o m' ps' → (a : Answer) × Gives m ps c (given a o.stamps) m' ps' × (o.answer ≡ F.returns a)
  pub moving : {m second second' : List ℕ} {ps : List ScanEntry} {to : Form} {r : F.Returned} → F.moves m ps to second r second' → (a : Answer) × Moves m ps (move to second) a second' × (r ≡ F.returns a)
  pub making : {m m' : List ℕ} {ps ps' : List ScanEntry} {S : Shape} {r : F.Returned} → F.makes m ps S r m' ps' → (a : Answer) × Makes m ps S a m' ps' × (r ≡ F.returns a)
  pub refusing : (a : Answer) (n : Refusal) → F.Refuses (F.returns a) n ↔ (a ≡ Err n)
  pub accepting : (a : Answer) → F.Accepts (F.returns a) ↔ (is_refused a ≡ false)

plain_map : {A R : Type 0} (f : A → R) (cs : List Call) (l : List A) → plain_outcomes cs (map f l) ≡ map f (plain_outcomes cs l)
unfolding plain_outcomes
plain_map f [] l = refl
plain_map f (c ∷ cs) [] = refl
plain_map f (c ∷ cs) (a ∷ l) =
    rw (plain_map f cs l)
    (elim (is_plain (kind c)) as (λ b. cond b (f a ∷ map f (plain_outcomes cs l)) (map f (plain_outcomes cs l)) ≡ map f (cond b (a ∷ plain_outcomes cs l) (plain_outcomes cs l)))
    [ true ↦ refl | false ↦ refl ])

module _ (F : Interface) (ok : Faithful F) where
  is_refusal : (r : F.Returned) (a : Answer) (n : Refusal) → r ≡ F.returns a → F.Refuses r n → a ≡ Err n
  is_refusal r a n e h = (ok.refusing a n).0 (subst (λ (x : F.Returned). F.Refuses x n) e h)

  not_refused : (r : F.Returned) (a : Answer) → r ≡ F.returns a → F.Accepts r → is_refused a ≡ false
  not_refused r a e h = (ok.accepting a).0 (subst F.Accepts e h)

  -- what was returned for an outcome, with the slice as it is
  whole : {o : Outcome F.Returned} {a : Answer} → o.answer ≡ F.returns a → o ≡ returned_for F (given a o.stamps)
  whole {o} e = ap (λ (y : F.Returned). given y o.stamps) e

  as_answers : {m m' : List ℕ} {ps ps' : List ScanEntry} {cs : List Call} {os : List (Outcome F.Returned)} → Run F m ps cs os m' ps'
      → (as' : List (Outcome Answer)) × Run calls m ps cs as' m' ps' × (os ≡ map (returned_for F) as')
  as_answers ends = ([], ends, refl)
  as_answers (goes {o = o} {os = os} put s q) =
      let x = ok.served s in
      let l = as_answers q in
      (given x.0 o.stamps ∷ l.0, goes put x.1 l.1, ap (λ (y : Outcome F.Returned). y ∷ os) (whole x.2) ∙ ap (λ (y : List (Outcome F.Returned)). returned_for F (given x.0 o.stamps) ∷ y) l.2)
  as_answers (moves_on {r = r} {os = os} s a q) =
      let x = ok.moving s in
      let l = as_answers q in
      (alone x.0 ∷ l.0, moves_on x.1 (not_refused r x.0 x.2 a) l.1, ap (λ (y : F.Returned). alone y ∷ os) x.2 ∙ ap (λ (y : List (Outcome F.Returned)). returned_for F (alone x.0) ∷ y) l.2)
  as_answers (stays {r = r} {n = n} {os = os} s a q) =
      let x = ok.moving s in
      let l = as_answers q in
      (alone x.0 ∷ l.0, stays x.1 (is_refusal r x.0 n x.2 a) l.1, ap (λ (y : F.Returned). alone y ∷ os) x.2 ∙ ap (λ (y : List (Outcome F.Returned)). returned_for F (alone x.0) ∷ y) l.2)

  -- what a run begins with: what a making of the form left of some memory and list
  record From (X : Form) (S : Shape) (m : List ℕ) (ps : List ScanEntry) : Type 0 where
    m₀ : List ℕ
    ps₀ : List ScanEntry
    accepted : Accepted X S m₀ ps₀
    memory : m ≡ memory_made X S m₀ ps₀
    list : ps ≡ all_freed ps₀

  from : {X : Form} {S : Shape} {m : List ℕ} {ps : List ScanEntry} → Begun F X S m ps → From X S m ps
  unfolding Makes made answered MakingFrees
  from (by_making {S = S} {m₀ = m₀} {m = m} {ps₀ = ps₀} {ps = ps} {z = z} h g) =
      let x = ok.making h in
      let done : (made Form.Newest S (length ps₀) m₀).0 ≡ (Ok Fields.Done) =
      made_done m₀ (within_limits S) (leb (bytes_needed Form.Newest S) (length m₀) && leb most_scans (length ps₀)) (lay (sizes_of Form.Newest S) (made_view Form.Newest S) m₀) (ap is_refused (sym x.1.0) ∙ not_refused z x.0 x.2 g) in
      record { m₀ = m₀; ps₀ = ps₀; accepted = done; memory = x.1.1; list = making_frees S m₀ m ps₀ ps (sym done, x.1.1, x.1.2) }
  from (of_first m₀ ps₀ a) = record { m₀ = m₀; ps₀ = ps₀; accepted = a; memory = refl; list = refl }

  stored : {X : Form} {S : Shape} {m m' : List ℕ} {ps ps' : List ScanEntry} {cs : List Call} {os : List (Outcome F.Returned)} (b : From X S m ps) → Run F m ps cs os m' ps'
      → (os ≡ map (returned_for F) (store_outcomes X S b.m₀ b.ps₀ cs)) × (m' ≡ (store_left X S b.m₀ b.ps₀ cs).memory) × (ps' ≡ (store_left X S b.m₀ b.ps₀ cs).list)
  stored {X} {S} b q =
      let l = as_answers q in
      let k = store_left_lem X S b.m₀ b.ps₀ b.memory b.list l.1 in
      (l.2 ∙ ap (map (returned_for F)) k.0, k.1, k.2)

  -- ---- demand 1
  pub refused_so : RefusedSo F
  unfolding RefusedSo Gives Serves Refuses
  refused_so m m' ps ps' c o s =
      let x = ok.served s in
      let k = refuses m ps c in
      let e : o.answer ≡ F.returns (answer_of (lend m ps) c) = x.2 ∙ ap F.returns x.1.0.0 in
      rw e
      ((
        λ n. (λ h. (k.0 n).0 ((ok.refusing (answer_of (lend m ps) c) n).0 h), λ h. (ok.refusing (answer_of (lend m ps) c) n).1 ((k.0 n).1 h)),
        (λ h. k.1.0 ((ok.accepting (answer_of (lend m ps) c)).0 h), λ h. (ok.accepting (answer_of (lend m ps) c)).1 (k.1.1 h)),
      ))

  pub refused_kept : RefusedKept F
  unfolding RefusedKept Gives Serves RefusedKeeps
  refused_kept m m' ps ps' c o n b s h =
      let x = ok.served s in
      let k = refused_keeps m ps c n b (sym x.1.0.0 ∙ is_refusal o.answer x.0 n x.2 h) in
      (x.1.0.1 ∙ k.0, x.1.0.2 ∙ k.1, x.1.1 ∙ k.2)

  pub unmade_kept : UnmadeKept F
  unfolding UnmadeKept Makes made answered
  unmade_kept S m m' ps ps' r n s h =
      let x = ok.making s in
      let e : (made Form.Newest S (length ps) m).0 ≡ Err n = sym x.1.0 ∙ is_refusal r x.0 n x.2 h in
      (x.1.1 ∙ unmade_same m (within_limits S) (leb (bytes_needed Form.Newest S) (length m) && leb most_scans (length ps)) (lay (sizes_of Form.Newest S) (made_view Form.Newest S) m) n e, x.1.2 ∙ ap (λ (y : Answer). freed_if (is_accepted y) ps) e)

  -- ---- what is changed
  pub changed_so : ChangedSo F
  unfolding ChangedSo Gives Serves ChangesOnly
  changed_so m m' ps ps' c o b s = let x = ok.served s in rw (x.1.0.1, x.1.0.2) (changes_only m ps c b)

  pub merged_so : MergedSo F
  unfolding MergedSo Gives Serves MergeChangesOnly
  merged_so m m' ps ps' g c n o b s = let x = ok.served s in rw (x.1.0.1, x.1.0.2) (merge_changes_only m ps g c n b)

  pub made_so : MadeSo F
  unfolding MadeSo Makes MakingChangesOnly
  made_so S m m' ps ps' r s = let x = ok.making s in rw x.1.1 (making_changes_only Form.Newest S m ps)

  pub unmoved_kept : UnmovedKept F
  unfolding UnmovedKept Moves RefusedKeeps
  unmoved_kept m second second' ps to r n b s h =
      let x = ok.moving s in
      x.1.1 ∙ (refused_keeps m ps (move to second) n b (sym x.1.0 ∙ is_refusal r x.0 n x.2 h)).3

  pub moved_so : MovedSo F
  unfolding MovedSo Moves MoveChangesOnly
  moved_so m second second' ps to r s = let x = ok.moving s in rw x.1.1 (move_changes_only to m ps second)

  pub unmoved_so : UnmovedSo F
  unfolding UnmovedSo Moves Refuses
  unmoved_so m second second' ps to r s =
      let x = ok.moving s in
      let a = answer_of (lend m ps) (move to second) in
      let k = refuses m ps (move to second) in
      rw (x.2 ∙ ap F.returns x.1.0)
      ((
        λ n. (λ h. (k.0 n).0 ((ok.refusing a n).0 h), λ h. (ok.refusing a n).1 ((k.0 n).1 h)),
        (λ h. k.1.0 ((ok.accepting a).0 h), λ h. (ok.accepting a).1 (k.1.1 h)),
      ))

  -- ---- demand 2
  pub reads_so : ReadsSo F
  unfolding ReadsSo Gives Serves ReadsCommitted
  reads_so X S m m' ps ps' cs os h ys q x show t r c o m'' ps'' y w s k =
      let f = from h in
      let l = stored f q in
      let b = ok.served s in
      let e : b.0 ≡ answer_of (store_left X S f.m₀ f.ps₀ cs) x =
      b.1.0.0 ∙ ap (λ (u : List ℕ). answer_of (lend u ps') x) l.1 ∙ ap (λ (u : List ScanEntry). answer_of (lend (store_left X S f.m₀ f.ps₀ cs).memory u) x) l.2 in
      let n : is_refused (answer_of (store_left X S f.m₀ f.ps₀ cs) x) ≡ false = ap is_refused (sym e) ∙ not_refused o.answer b.0 b.2 k in
      b.2 ∙ ap F.returns (e ∙ reads_committed X S f.m₀ f.ps₀ f.accepted cs ys x show t r c y w (rw n tt))

  pub pages_so : PagesSo F
  unfolding PagesSo PagesCommitted
  pages_so X S m m' ps ps' cs os h ys q i c b d =
      let f = from h in
      rw (stored f q).1 (pages_committed X S f.m₀ f.ps₀ f.accepted cs ys i c b d)

  -- ---- demand 3
  pub outcomes_so : OutcomesSo F
  unfolding OutcomesSo Demand3
  outcomes_so X S m m' ps ps' cs os h ys q =
      let f = from h in
      (stored f q).0 ∙ ap (map (returned_for F)) (demand3 X S f.m₀ f.ps₀ f.accepted cs ys)

  pub struck_same : StruckSame F
  unfolding StruckSame StrikingStore
  struck_same X S m m' ps ps' cs os h ys q os' m'' ps'' p =
      let f = from h in
      rw ((stored f q).0, (stored f p).0, plain_map (returned_for F) cs (store_outcomes X S f.m₀ f.ps₀ cs), plain_map (returned_for F) (strike cs) (store_outcomes X S f.m₀ f.ps₀ (strike cs)))
      (ap (map (returned_for F)) (striking_store X S f.m₀ f.ps₀ f.accepted cs ys))

  -- a run's returned values by index, and its accepted calls, are the store's
  module _ {X : Form} {S : Shape} {m m' : List ℕ} {ps ps' : List ScanEntry} {cs : List Call} {os : List (Outcome F.Returned)} (f : From X S m ps) (q : Run F m ps cs os m' ps') where
    at : (k : ℕ) → returned_at F os k ≡ returned_for F (store_outcome_at X S f.m₀ f.ps₀ cs k)
    unfolding store_outcome_at
    at k = ap (λ (u : List (Outcome F.Returned)). returned_at F u k) (stored f q).0 ∙ get_or-map (returned_for F) (store_outcomes X S f.m₀ f.ps₀ cs) k (alone (Ok Fields.Done))

    accepts_in : (k : ℕ) (x : Call) → AcceptsAmong F cs os k x → AcceptsIn X S f.m₀ f.ps₀ cs k x
    accepts_in k x u =
        let e = ap (λ (o : Outcome F.Returned). o.answer) (at k) in
        let n : is_refused (store_outcome_at X S f.m₀ f.ps₀ cs k).answer ≡ false = not_refused (returned_at F os k).answer (store_outcome_at X S f.m₀ f.ps₀ cs k).answer e u.2 in
        record { inside = u.0; is = u.1; accepted = rw n tt }

    same_at : (i j : ℕ) → store_outcome_at X S f.m₀ f.ps₀ cs i ≡ store_outcome_at X S f.m₀ f.ps₀ cs j → returned_at F os i ≡ returned_at F os j
    same_at i j e = at i ∙ ap (returned_for F) e ∙ sym (at j)

  pub minutes_so : MinutesSo F
  unfolding MinutesSo MinutesStableStore
  minutes_so X S m m' ps ps' cs os h ys q i j t x k b past u w =
      let f = from h in
      same_at f q i j (minutes_stable_store X S f.m₀ f.ps₀ f.accepted cs ys i j t x k b past (accepts_in f q i x u) (accepts_in f q j x w))

  pub scans_so : ScansSo F
  unfolding ScansSo ScansStableStore
  scans_so X S m m' ps ps' cs os h ys q i j x k u w =
      let f = from h in
      same_at f q i j (scans_stable_store X S f.m₀ f.ps₀ f.accepted cs ys i j x k (accepts_in f q i x u) (accepts_in f q j x w))

-- ---- of the calls
faithful : Faithful calls
faithful = record { served = λ {o = o} s. (o.answer, s, refl); moving = λ {r = r} s. (r, s, refl); making = λ {r = r} s. (r, s, refl); refusing = λ a n. (λ e. e, λ e. e); accepting = λ a. (λ e. e, λ e. e) }

pub lent_refused : LentRefused
lent_refused = refused_so calls faithful

pub lent_kept : LentKept
lent_kept = refused_kept calls faithful

pub making_kept : MakingKept
making_kept = unmade_kept calls faithful

pub lent_changed : LentChanged
lent_changed = changed_so calls faithful

pub lent_merged : LentMerged
lent_merged = merged_so calls faithful

pub making_changed : MakingChanged
making_changed = made_so calls faithful

pub move_kept : MoveKept
move_kept = unmoved_kept calls faithful

pub move_changed : MoveChanged
move_changed = moved_so calls faithful

pub move_refused : MoveRefused
move_refused = unmoved_so calls faithful

pub lent_reads : LentReads
lent_reads = reads_so calls faithful

pub lent_pages : LentPages
lent_pages = pages_so calls faithful

pub lent_outcomes : LentOutcomes
lent_outcomes = outcomes_so calls faithful

pub lent_striking : LentStriking
lent_striking = struck_same calls faithful

pub lent_minutes : LentMinutes
lent_minutes = minutes_so calls faithful

pub lent_scans : LentScans
lent_scans = scans_so calls faithful

-- ---- a short list

short_unusable : (m : List ℕ) (ps : List ScanEntry) → length ps < most_scans → usable m ps ≡ false
short_unusable m ps k = refuted (usable m ps) (λ t. omega (arith, (usable_tells m ps (is_true (usable m ps) t)).entries))

pub short_refused : ShortRefused
unfolding ShortRefused Serves Refuses conditions
short_refused m m' ps ps' c r k s = s.0 ∙ ((refuses m ps c).0 Refusal.Memory).1 (inl (short_unusable m ps k, refl))
