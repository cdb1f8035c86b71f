-- The ways in which a call ends, each as one law from what its points know to what the call promises: the memory is not usable, a test failed, the call only
-- reads, or it was lent the needed bytes and wrote them. The premises are stated as the points of a call have them, so that a call's proof names the law and no
-- point: `search serving`.
use Prim.Native.Nat.{ℕ, ◌≤◌, ◌<◌}
use mathlib.Core.Path.{◌≡◌, refl, ap, sym, ◌∙◌}
use mathlib.Core.Bool.{Bool, true, false, ◌&&◌}
use mathlib.Core.List.{List, ◌++◌}
use native.Mathlib.Omega.{arith}
use lib.ListN.{length, get_or, take, drop}
use mir.Syntax.{w8}
use mir.Val.{Fits}
use lib.Seq.{length-take-le}
use Rattle.terms.specs.Measures.{most_scans}
use Rattle.terms.specs.declared.ScanEntry.{ScanEntry}
use Rattle.terms.specs.declared.Form.{Form}
use Rattle.history.specs.Forms.{form_use, uses_form, works_on}
use Rattle.terms.specs.declared.Refusal.{Refusal}
use Rattle.std.specs.Prelude.{Ok, Err}
use Rattle.terms.specs.Answers.{Answer}
use Rattle.words.specs.Words.{words}
use Rattle.layout.specs.declared.Sizes.{Sizes}
use Rattle.layout.specs.Sizes.{Proper}
use Rattle.layout.specs.View.{View, lay, view_of, Suffices}
use Rattle.layout.proofs.Lay.{lay_view, view_part, lent}
use Rattle.history.specs.History.{Call, Verdict, accept, refuse, verdict, answer_if, given, slice_of, lent_to}
use Rattle.scans.specs.declared.Scans.{Scans}
use Rattle.scans.specs.Entries.{open_count}
use Rattle.scans.specs.Table.{table_of}
use Rattle.facts.specs.Usable.{stored_shape, stored_form, stored_sizes, usable}
use Rattle.model.specs.Calls.{tests_in, reply_in, act_in, entries_after, say, view_if, view_next, entries_if, entries_next, stamps_next}
use Rattle.model.specs.Preconditions.{shape_in, Linked, Pooled}
use Rattle.promise.specs.Promise.{store_view, second_of, room_for, admits, second_after, Moves, MovesBy, answer_of, memory_after, list_after, stamps_left, Serves, ServesBy, Gives, GivesBy, kept, lend}
use Rattle.std.specs.Prelude.{Result, Ok, Err}
use Rattle.terms.specs.declared.Refusal.{Refusal}
use Rattle.std.specs.Prelude.{Result, Ok, Err}
use Rattle.terms.specs.declared.Refusal.{Refusal}
use Rattle.admission.specs.Admitted.{Fitted, PassedWith, Admitted, Admits}
use Rattle.admission.specs.Given.{ScanAt}
use Rattle.admission.specs.Tested.{Finds, IfPassed, Tests, TestsBy}

-- what is known of the elements of a lent slice: each is a byte
abbrev pub FitBytes : List ℕ → Type 0
FitBytes m = (k : ℕ) → Fits w8 (get_or m k 0)

-- ---- what may be relied on once memory and list have passed the test

pub admitted : (on : Form → Bool) (s : Sizes) (n : ℕ) (m : List ℕ) (t : Scans) → Admits on (Ok (s, n)) m t → Admitted s n m t × (on s.form ≡ true)
unfolding Admits
admitted on s n m t h = h

-- the part that is lent is seen as the whole is, and as fitted
module _ {s : Sizes} {n : ℕ} {m : List ℕ} {t : Scans} (e : Admitted s n m t) where
  part_inside : n ≤ length m
  part_inside = omega (arith, e.bytes, e.fitted.room)

  pub part_seen : view_of s (take n m) ≡ view_of s m
  part_seen = rw e.bytes (view_part s m e.fitted.room)

  pub part_fitted : Fitted s (take n m)
  part_fitted =
      let f = e.fitted in
      record {
        room = omega (arith, e.bytes, length-take-le n m part_inside);
        small = f.small;
        sizes_are = f.sizes_are;
        proper = f.proper;
        linked = rw part_seen f.linked;
        pooled = rw part_seen f.pooled;
        chunks_are_current = rw part_seen f.chunks_are_current;
        transactions_to = rw part_seen f.transactions_to;
        scans_to = rw part_seen f.scans_to;
      }

-- ---- what the tests found, and what holds where they are passed

pub found : (P : ℕ → Type 0) (j : ℕ) → Finds (Ok j) P → P j
unfolding Finds
found P j h = h

pub if_passed : (A : Type 0) (j : ℕ) → IfPassed (Ok j) A → A
unfolding IfPassed
if_passed A j h = h

pub scan_below : (t : Scans) (k j : ℕ) → Finds (Ok j) (ScanAt t k) → j < most_scans
scan_below t k j h = (found (ScanAt t k) j h).below

-- ---- the memory is not usable

-- or in another form
unadmitted : (m : List ℕ) (t : Scans) (c : Call) (x : Refusal) → Admits (uses_form (form_use c)) (Err x) m t
    → (x ≡ Refusal.Memory) × ((ps : List ScanEntry) → t ≡ table_of ps → admits (lend m ps) c ≡ false)
unfolding Admits admits
unadmitted m t c x h = (h.0, λ ps q. by_two (works_on c (stored_form (words m))) (room_for (form_use c) (stored_shape (words m)) (second_of c)) (usable m ps) (h.1 ps q))
  where
    by_two : (a b u : Bool) → (a && u) ≡ false → (a && (b && u)) ≡ false
    by_two true true u e = e
    by_two true false u e = refl
    by_two false b u e = refl

pub unfit_serves : (m : List ℕ) (t : Scans) (c : Call) (x : Refusal) → Admits (uses_form (form_use c)) (Err x) m t → ServesBy t m c (Err x) m kept
unfolding ServesBy Serves answer_of memory_after list_after
unfit_serves m t c x h = λ ps q. let n = unadmitted m t c x h in let u = n.1 ps q in (rw (u, n.0), rw u, rw u)

-- and a slice that was lent is as it was
pub unfit_gives : (m : List ℕ) (t : Scans) (c : Call) (x : Refusal) → Admits (uses_form (form_use c)) (Err x) m t
    → GivesBy t m c (given (Err x) (lent_to (slice_of c))) m kept
unfolding GivesBy Gives ServesBy stamps_left
unfit_gives m t c x h = λ ps q. let u = (unadmitted m t c x h).1 ps q in (unfit_serves m t c x h ps q, rw u)

-- and so is a second memory
pub unfit_moves : (m : List ℕ) (t : Scans) (c : Call) (x : Refusal) → Admits (uses_form (form_use c)) (Err x) m t
    → MovesBy t m c (Err x) (second_of c)
unfolding MovesBy Moves answer_of second_after
unfit_moves m t c x h = λ ps q. let n = unadmitted m t c x h in let u = n.1 ps q in (rw (u, n.0), rw u)

-- ---- it is, and the tests tell

-- what is left as it was, whatever they tell
view_kept : (w : Verdict) (v v' : View) → v' ≡ v → view_if w v v' ≡ v
unfolding view_if
view_kept accept v v' e = e
view_kept (refuse n) v v' e = refl

list_kept : (w : Verdict) (ps ps' : List ScanEntry) → ps' ≡ ps → entries_if w ps ps' ≡ ps
unfolding entries_if
list_kept accept ps ps' e = e
list_kept (refuse n) ps ps' e = refl

-- a call that does not look at the list has the same verdict by every list
pub by_any : (s : Sizes) (m : List ℕ) (t : Scans) (c : Call) (d : Result ℕ Refusal) → Tests s m c d → TestsBy t s m c d
unfolding Tests TestsBy
by_any s m t c d h = λ ps q few. h ps

-- all were passed
pub all_passed : (s : Sizes) (m : List ℕ) (t : Scans) (c : Call) (j : ℕ) → TestsBy t s m c (Ok j)
    → (ps : List ScanEntry) → t ≡ table_of ps → open_count ps ≤ most_scans → verdict (tests_in (shape_in s) (view_of s m) ps c) ≡ accept
unfolding TestsBy
all_passed s m t c j h = h

module _ (on : Form → Bool) (s : Sizes) (n : ℕ) (m : List ℕ) (t : Scans) (h : Admits on (Ok (s, n)) m t) where
  facts : Admitted s n m t
  facts = (admitted on s n m t h).0

  pub fitted : Fitted s m
  fitted = facts.fitted

  pub room : Suffices s m
  room = facts.fitted.room

  pub proper : Proper s
  proper = facts.fitted.proper

  pub linked : Linked s (view_of s m)
  linked = facts.fitted.linked

  pub pooled : Pooled s (view_of s m)
  pooled = facts.fitted.pooled

  pub part_room : Suffices s (take n m)
  part_room = (part_fitted facts).room

  pub part_linked : Linked s (view_of s (take n m))
  part_linked = (part_fitted facts).linked

  pub part_pooled : Pooled s (view_of s (take n m))
  part_pooled = (part_fitted facts).pooled

  pub part_in : n ≤ length m
  part_in = part_inside facts

  pub part_long : n ≡ length (take n m)
  part_long = sym (length-take-le n m part_in)

-- a call that works on the form, and is no move
module _ (s : Sizes) (n : ℕ) (m : List ℕ) (t : Scans) (c : Call) (h : Admits (uses_form (form_use c)) (Ok (s, n)) m t) (one : room_for (form_use c) (shape_in s) (second_of c) ≡ true) where
  known : Admitted s n m t
  known = (admitted (uses_form (form_use c)) s n m t h).0

  -- what the definitions give is what the call answers and leaves
  module _ (ps : List ScanEntry) (p : PassedWith s m ps) where
    admits_it : admits (lend m ps) c ≡ true
    unfolding admits stored_sizes stored_shape
    admits_it =
        let z = p.sizes_are in
        let w : works_on c (stored_form (words m)) ≡ true = ap (λ (x : Sizes). works_on c x.form) (sym z) ∙ (admitted (uses_form (form_use c)) s n m t h).1 in
        let r : room_for (form_use c) (stored_shape (words m)) (second_of c) ≡ true = ap (λ (x : Sizes). room_for (form_use c) (shape_in x) (second_of c)) (sym z) ∙ one in
        rw (w, r, p.passed)

    answer_is : say (shape_in s) (view_of s m) ps c ≡ answer_of (lend m ps) c
    unfolding answer_of store_view stored_sizes stored_shape
    answer_is = rw (admits_it, p.sizes_are)

    memory_is : lay s (view_next (shape_in s) (view_of s m) ps c) m ≡ memory_after (lend m ps) c
    unfolding memory_after store_view stored_sizes stored_shape
    memory_is = rw (admits_it, p.sizes_are)

    list_is : entries_next (shape_in s) (view_of s m) ps c ≡ list_after (lend m ps) c
    unfolding list_after store_view stored_sizes stored_shape
    list_is = rw (admits_it, p.sizes_are)

    stamps_are : stamps_next (shape_in s) (view_of s m) ps c ≡ stamps_left (lend m ps) c
    unfolding stamps_left store_view stored_sizes stored_shape
    stamps_are = rw (admits_it, p.sizes_are)

  -- a test failed
  pub failed_serves : (x : Refusal) → TestsBy t s m c (Err x) → FitBytes m → ServesBy t m c (Err x) m kept
  unfolding ServesBy Serves TestsBy say view_next view_if entries_next entries_if answer_if
  failed_serves x k b = λ ps q.
      let l = known.listed ps q in
      let w : verdict (tests_in (shape_in s) (view_of s m) ps c) ≡ refuse x = k ps q l.few in
      let a : Err x ≡ say (shape_in s) (view_of s m) ps c = rw w in
      let v : view_of s m ≡ view_next (shape_in s) (view_of s m) ps c = rw w in
      let y : ps ≡ entries_next (shape_in s) (view_of s m) ps c = rw w in (
        a ∙ answer_is ps l,
        sym (lay_view s m (λ i. (b i).fits) known.fitted.room) ∙ ap (λ (v : View). lay s v m) v ∙ memory_is ps l,
        y ∙ list_is ps l,
      )

  -- a call that only reads the memory, and is lent a slice to write
  pub read_gives : (r : Answer) (out : List ℕ) → FitBytes m
      → ((ps : List ScanEntry) → (act_in (shape_in s) (view_of s m) ps c ≡ view_of s m) × (entries_after (view_of s m) ps c ≡ ps))
      → ((ps : List ScanEntry) → (r ≡ say (shape_in s) (view_of s m) ps c) × (out ≡ stamps_next (shape_in s) (view_of s m) ps c)) → GivesBy t m c (given r out) m kept
  unfolding GivesBy Gives Serves view_next entries_next
  read_gives r out b reads z = λ ps q.
      let l = known.listed ps q in
      let k = reads ps in (
        (
          (z ps).0 ∙ answer_is ps l,
          sym (lay_view s m (λ i. (b i).fits) known.fitted.room) ∙ ap (λ (v : View). lay s v m) (sym (view_kept (verdict (tests_in (shape_in s) (view_of s m) ps c)) _ _ k.0)) ∙ memory_is ps l,
          sym (list_kept (verdict (tests_in (shape_in s) (view_of s m) ps c)) _ _ k.1) ∙ list_is ps l,
        ),
        (z ps).1 ∙ stamps_are ps l,
      )

  -- none failed
  module _ (k : (ps : List ScanEntry) → t ≡ table_of ps → open_count ps ≤ most_scans → verdict (tests_in (shape_in s) (view_of s m) ps c) ≡ accept)
      (r : Answer) (next : List ScanEntry → List ScanEntry) where
    accepted_serves : (m' : List ℕ)
        → ((ps : List ScanEntry) → t ≡ table_of ps → open_count ps ≤ most_scans
        → (r ≡ reply_in (shape_in s) (view_of s m) ps c) × (m' ≡ lay s (act_in (shape_in s) (view_of s m) ps c) m) × (next ps ≡ entries_after (view_of s m) ps c))
        → ServesBy t m c r m' next
    unfolding ServesBy Serves say view_next view_if entries_next entries_if answer_if
    accepted_serves m' z = λ ps q.
        let l = known.listed ps q in
        let w = k ps q l.few in
        let z = z ps q l.few in
        let a : r ≡ say (shape_in s) (view_of s m) ps c = rw w z.0 in
        let y : m' ≡ lay s (view_next (shape_in s) (view_of s m) ps c) m = rw w z.1 in
        let u : next ps ≡ entries_next (shape_in s) (view_of s m) ps c = rw w z.2 in
        (a ∙ answer_is ps l, y ∙ memory_is ps l, u ∙ list_is ps l)

    -- and the call only reads the memory
    pub read_serves : FitBytes m
        → ((ps : List ScanEntry) → t ≡ table_of ps → open_count ps ≤ most_scans
        → (r ≡ reply_in (shape_in s) (view_of s m) ps c) × (view_of s m ≡ act_in (shape_in s) (view_of s m) ps c) × (next ps ≡ entries_after (view_of s m) ps c))
        → ServesBy t m c r m next
    read_serves b z =
        accepted_serves m
        (λ ps q few. ((z ps q few).0, sym (lay_view s m (λ i. (b i).fits) known.fitted.room) ∙ ap (λ (v : View). lay s v m) (z ps q few).1, (z ps q few).2))

    -- or was lent the needed bytes, and left p there
    pub write_serves : (p : List ℕ) → length p ≡ length (take n m) → FitBytes (p ++ drop n m)
        → ((ps : List ScanEntry) → t ≡ table_of ps → open_count ps ≤ most_scans
        → (r ≡ reply_in (shape_in s) (view_of s (take n m)) ps c) × (view_of s p ≡ act_in (shape_in s) (view_of s (take n m)) ps c) × (next ps ≡ entries_after (view_of s (take n m)) ps c))
        → ServesBy t m c r (p ++ drop n m) next
    write_serves p l b z =
        accepted_serves (p ++ drop n m)
        (λ ps q few. let z = z ps q few in (
          rw (part_seen known) at z.0,
          lent s n m p (λ v. act_in (shape_in s) v ps c) z.1 l (λ i. (b i).fits) known.bytes known.fitted.room,
          rw (part_seen known) at z.2,
        ))

-- the laws that the proofs of the calls are searched by
pub ruleset serving = (fitted, room, proper, linked, pooled, part_in, part_long, part_room, part_linked, part_pooled, by_any, all_passed, unfit_serves, failed_serves, read_serves, write_serves)
