-- Release: the least of the open scans' merges tells whether a page is needed, and the loop that frees the pages, turn by turn.
use Prim.Native.Nat.{ℕ, zero, suc, ◌+◌, ◌^◌, ◌≤◌, ◌<◌, min}
use mathlib.Core.Path.{◌≡◌, refl, ap, sym, ◌∙◌, fun_ext}
use mathlib.Core.Bool.{Bool, true, false, cond, ◌||◌}
use mathlib.Core.Logic.{inr}
use mathlib.Core.List.{List, [], ◌∷◌, ◌++◌}
use native.Mathlib.Omega.{arith}
use native.Mathlib.Numerals.{add-one}
use lib.Dec.{ltb}
use lib.ListN.{length, get_or, take, length-take, length-append, length-replicate}
use lib.Seq.{take-suc}
use borrow.Author.Tests.{lt-ltb, le-ltb, ltb-true, ltb-false}
use Rattle.terms.specs.Measures.{most_scans}
use Rattle.terms.specs.declared.ScanEntry.{ScanEntry}
use Rattle.loops.proofs.Change.{changed_outside}
use Rattle.layout.specs.declared.Sizes.{Sizes}
use Rattle.layout.specs.declared.Region.{Region}
use Rattle.layout.specs.View.{View, renew, put}
use Rattle.model.specs.Stored.{page_in, pages_of, count_below}
use Rattle.layout.specs.Codes.{as_free}
use Rattle.model.specs.Writing.{needed_in, releasable, released_in}
use Rattle.scans.specs.declared.Scans.{Scans}
use Rattle.scans.specs.Entries.{open_count, some_open}
use Rattle.scans.specs.Table.{table_of, some_less}
use Rattle.scans.proofs.Answers.{table_before}
use Rattle.layout.specs.Sizes.{Proper}
use Rattle.model.specs.Preconditions.{shape_in}
use Rattle.layout.proofs.Renewed.{change_none, change_next}
use Rattle.merging.specs.Steps.{least_of, freeable, freeables_freed}

-- ---- the least
pub least_none : (l : List ℕ) → 4294967295 ≡ least_of l 0
unfolding least_of
least_none l = refl

pub least_next : (l : List ℕ) (i r r' : ℕ) → r ≡ least_of l i → r' ≡ min r (get_or l i 0) → r' ≡ least_of l (i + 1)
unfolding least_of
least_next l i r r' e q = q ∙ rw (add-one, ← e) (go (ltb (get_or l i 0) r) refl)
  where
    go : (b : Bool) → ltb (get_or l i 0) r ≡ b → min r (get_or l i 0) ≡ cond b (get_or l i 0) r
    go true h = omega (arith, ltb-true (get_or l i 0) r h)
    go false h = omega (arith, ltb-false (get_or l i 0) r h)

pub least_end : (l : List ℕ) (r i n : ℕ) → r ≡ least_of l i → i ≤ n → n ≤ i → r ≡ least_of l n
least_end l r i n e h m = let q : i ≡ n = omega arith in e ∙ rw q

below_append : (m x : ℕ) (l : List ℕ) → some_less m (l ++ (x ∷ [])) ≡ some_less m l || ltb x m
below_append m x [] = go (ltb x m)
  where
    go : (b : Bool) → b || false ≡ b
    go true = refl
    go false = refl
below_append m x (y ∷ l) = go (ltb y m) (below_append m x l)
  where
    go : (b : Bool) → some_less m (l ++ (x ∷ [])) ≡ some_less m l || ltb x m
        → b || some_less m (l ++ (x ∷ [])) ≡ (b || some_less m l) || ltb x m
    go true e = refl
    go false e = e

-- a number is below m exactly if the least is
pub least_tells : (l : List ℕ) (n m : ℕ) → n ≤ length l → m < 2 ^ 32 → ltb (least_of l n) m ≡ some_less m (take n l)
unfolding least_of
least_tells l zero m h k = le-ltb 4294967295 m (omega arith)
least_tells l (suc n) m h k =
    rw (take-suc l n 0 (omega arith), below_append m (get_or l n 0) (take n l), ← least_tells l n m (omega arith) k)
    (go (ltb (get_or l n 0) (least_of l n)) refl (ltb (least_of l n) m) refl)
  where
    go : (b : Bool) → ltb (get_or l n 0) (least_of l n) ≡ b → (d : Bool) → ltb (least_of l n) m ≡ d
        → ltb (cond b (get_or l n 0) (least_of l n)) m ≡ d || ltb (get_or l n 0) m
    go true e true q = lt-ltb (get_or l n 0) m (omega (arith, ltb-true (get_or l n 0) (least_of l n) e, ltb-true (least_of l n) m q))
    go true e false q = refl
    go false e true q = q
    go false e false q =
        q ∙ sym (le-ltb (get_or l n 0) m (omega (arith, ltb-false (get_or l n 0) (least_of l n) e, ltb-false (least_of l n) m q)))

-- ---- the loop
module _ (least : ℕ) (v : View) where
  pub freed_none : v ≡ freeables_freed least 0 v
  unfolding freeables_freed
  freed_none = change_none Region.PageState (λ p w. cond (freeable least v p) as_free w) 0 v

  -- the words of page p are as they were when its turn comes
  pub freeable_same : (x : View) (p : ℕ) → x ≡ freeables_freed least p v → freeable least x p ≡ freeable least v p
  unfolding freeables_freed freeable renew
  freeable_same x p e =
      let w = changed_outside (λ p w. cond (freeable least v p) as_free w) 0 (v Region.PageState) p p (inr (omega arith)) in
      rw (e, w)

  pub state_same : (x : View) (p : ℕ) → x ≡ freeables_freed least p v → get_or (x Region.PageState) p 0 ≡ get_or (v Region.PageState) p 0
  unfolding freeables_freed renew
  state_same x p e =
      let w = changed_outside (λ p w. cond (freeable least v p) as_free w) 0 (v Region.PageState) p p (inr (omega arith)) in
      rw (e, w)

  turn : (x x' : View) (p : ℕ) → x ≡ freeables_freed least p v → x' ≡ put Region.PageState p (cond (freeable least v p) 0 (get_or (v Region.PageState) p 0)) x
      → 0 + p ≡ p → x' ≡ freeables_freed least (p + 1) v
  unfolding freeables_freed
  turn x x' p e w z =
      change_next Region.PageState (λ p w. cond (freeable least v p) as_free w) 0 v x x' p (cond (freeable least v p) 0 (get_or (v Region.PageState) p 0)) e (rw z) (rw z w)

  pub freed_next : (x x' : View) (p : ℕ) → x ≡ freeables_freed least p v
      → x' ≡ put Region.PageState p (cond (freeable least x p) 0 (get_or (x Region.PageState) p 0)) x → x' ≡ freeables_freed least (p + 1) v
  freed_next x x' p e q = turn x x' p e (q ∙ rw (freeable_same x p e, state_same x p e)) (omega arith)

  pub count_next : (x : View) (p n n' : ℕ) → x ≡ freeables_freed least p v → n ≡ count_below (freeable least v) p
      → n' ≡ cond (freeable least x p) (n + 1) n → n' ≡ count_below (freeable least v) (p + 1)
  count_next x p n n' e c q = q ∙ rw (freeable_same x p e, c, add-one, add-one)

  pub count_most : (n : ℕ) → count_below (freeable least v) n ≤ n
  count_most zero = omega arith
  count_most (suc n) = go (freeable least v n) (count_most n)
    where
      go : (b : Bool) → count_below (freeable least v) n ≤ n
          → cond b (suc (count_below (freeable least v) n)) (count_below (freeable least v) n) ≤ suc n
      go true h = omega arith
      go false h = omega arith

  pub freed_end : (n : ℕ) (x : View) (c p : ℕ) → x ≡ freeables_freed least p v → c ≡ count_below (freeable least v) p → p ≤ n → n ≤ p
      → (c ≡ count_below (freeable least v) n) × (x ≡ freeables_freed least n v)
  freed_end n x c p e k h m = let q : p ≡ n = omega arith in (k ∙ rw q, e ∙ rw q)

-- ---- what the scan list says
needed_some : (m : ℕ) (ps : List ScanEntry) → needed_in ps m ≡ some_open (λ p. ltb p.merges m) ps
needed_some m [] = refl
needed_some m (p ∷ ps) = rw (needed_some m ps)

table_room : (ps : List ScanEntry) → (table_of ps).count ≤ length (table_of ps).merges
unfolding table_of
table_room ps = simp (length-take, length-append, length-replicate) (omega arith)

-- the least of a table's merges tells whether a scan needs what merge m replaced
pub needed_least : (ps : List ScanEntry) (t : Scans) → t ≡ table_of ps → open_count ps ≤ most_scans → (m : ℕ) → m < 2 ^ 32
    → ltb (least_of t.merges t.count) m ≡ needed_in ps m
needed_least ps t e h m k =
    ap (λ (t : Scans). ltb (least_of t.merges t.count) m) e
    ∙ least_tells (table_of ps).merges (table_of ps).count m (table_room ps) k
    ∙ table_before ps h m
    ∙ sym (needed_some m ps)

-- a page is freeable exactly if it may be released
pub freeable_is : (ps : List ScanEntry) (least : ℕ) (v : View) → ((m : ℕ) → m < 2 ^ 32 → ltb least m ≡ needed_in ps m)
    → ((p : ℕ) → get_or (v Region.PageReplaced) p 0 < 2 ^ 32) → freeable least v ≡ releasable ps v
unfolding freeable releasable page_in
freeable_is ps least v e f = fun_ext (λ p. rw (e (get_or (v Region.PageReplaced) p 0) (f p)))

pub freed_is : (s : Sizes) (ps : List ScanEntry) (least : ℕ) (v : View) → Proper s → freeable least v ≡ releasable ps v
    → freeables_freed least s.pages v ≡ released_in (shape_in s) ps v
unfolding freeables_freed released_in
freed_is s ps least v p e = let q : s.pages ≡ pages_of (shape_in s) = omega (arith, p.pages_are, p.chunks_are) in rw (e, q)

pub counted_is : (s : Sizes) (ps : List ScanEntry) (least : ℕ) (v : View) → Proper s → freeable least v ≡ releasable ps v
    → count_below (freeable least v) s.pages ≡ count_below (releasable ps v) (pages_of (shape_in s))
counted_is s ps least v p e = let q : s.pages ≡ pages_of (shape_in s) = omega (arith, p.pages_are, p.chunks_are) in rw (e, q)
