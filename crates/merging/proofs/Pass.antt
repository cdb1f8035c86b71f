-- The forward pass of a merge, turn by turn, and that the page it writes is not the page it copies.
use Prim.Native.Nat.{ℕ, zero, suc, ◌+◌, ◌-◌, ◌*◌, ◌%◌, ◌≤◌, ◌<◌}
use mathlib.Core.Path.{◌≡◌, refl, ap, sym, ◌∙◌, subst}
use mathlib.Core.Logic.{◌⊎◌, inl, inr}
use mathlib.Core.Bool.{Bool, true, false, not, cond}
use mathlib.Core.List.{List, [], ◌∷◌}
use native.Mathlib.Omega.{arith}
use native.Mathlib.Numerals.{add-one}
use lib.Dec.{T, T_not, eqb, leb, ltb, lt→ltb}
use lib.ListN.{length, get_or, set}
use borrow.Author.Tests.{ltb-true, ltb-false, lt-ltb, le-ltb, le-leb, eq-eqb, ne_eqb}
use Rattle.terms.specs.Measures.{range_rows}
use Rattle.terms.specs.declared.Shape.{Shape}
use Rattle.std.specs.Prelude.{Option, Some, None}
use Rattle.std.specs.Option.{MatchOption}
use Rattle.loops.specs.Search.{region, first_at}
use Rattle.loops.specs.Change.{copied}
use Rattle.layout.specs.declared.Sizes.{Sizes}
use Rattle.layout.specs.declared.Region.{Region}
use Rattle.words.specs.Words.{words}
use Rattle.words.proofs.Words.{length_words}
use Rattle.layout.specs.View.{View, renew, put, copy, view_of, Suffices}
use Rattle.layout.proofs.View.{view_long}
use Rattle.terms.specs.Entries.{first_index}
use Rattle.model.specs.Stored.{record_in, value_in, page_in, current_in, chunks_of, pages_of, within, free_page, first_from, next_word}
use Rattle.layout.specs.Regions.{merges_at, slot}
use Rattle.model.specs.Writing.{applies, applied, newest_of, named_in, stray_in, free_in, merged_in}
use Rattle.model.proofs.upkeep.Free.{free_unnamed}
use Rattle.history.specs.History.{bit}
use Rattle.history.proofs.Lists.{both, eqb_equal}
use Rattle.rows.proofs.Indices.{chunk_in}
use Rattle.layout.specs.Sizes.{Proper}
use Rattle.model.specs.Preconditions.{shape_in}
use Rattle.loops.specs.Search.{found_at}
use Rattle.loops.proofs.Indices.{find_index}
use Rattle.layout.proofs.Renewed.{renew_none, renew_again, put_renew}
use Rattle.merging.specs.Steps.{applied_one, later_one, applied_all, page_put, page_replaced, MergeReady}

-- ---- the pass looks at no cell
applied_blind : (S : Shape) (v : View) (l : List ℕ) (g c p low n : ℕ) (cells : List ℕ)
    → applied S (renew Region.Cells l v) g c p low n cells ≡ applied S v g c p low n cells
unfolding applied record_in value_in renew
applied_blind S v l g c p low zero cells = refl
applied_blind S v l g c p low (suc n) cells = rw (applied_blind S v l g c p low n cells)

newest_blind : (S : Shape) (v : View) (l : List ℕ) (g c low n stamp : ℕ)
    → newest_of S (renew Region.Cells l v) g c low n stamp ≡ newest_of S v g c low n stamp
unfolding newest_of record_in renew
newest_blind S v l g c low zero stamp = refl
newest_blind S v l g c low (suc n) stamp = rw (newest_blind S v l g c low n stamp)

-- ---- its turns
pub newest_none : (S : Shape) (g c low : ℕ) (v : View) (stamp : ℕ) → stamp ≡ newest_of S v g c low 0 stamp
unfolding newest_of
newest_none S g c low v stamp = refl

module _ (S : Shape) (g c p low : ℕ) (v : View) where
  -- record low + i + 1 of the range
  at_slot : (i : ℕ) → slot S g (suc (low + i)) ≡ g * S.capacity + low + i
  unfolding slot
  at_slot i = omega arith

  pub applied_none : v ≡ applied_all S g c p low 0 v
  unfolding applied_all applied
  applied_none = renew_none Region.Cells v

  pub applied_next : (x x' : View) (i : ℕ) → x ≡ applied_all S g c p low i v → x' ≡ applied_one S (g * S.capacity + low + i) c p x
      → x' ≡ applied_all S g c p low (i + 1) v
  unfolding applied_all applied_one applied record_in value_in renew
  applied_next x x' i e q = q ∙ rw (e, add-one, at_slot i) (go (applies c (record_in v (g * S.capacity + low + i))))
    where
      go : (b : Bool)
          → cond {A = View} b
          (put Region.Cells (p * range_rows + within (record_in v (g * S.capacity + low + i)).row) (value_in S v (g * S.capacity + low + i) c)
          (renew Region.Cells (applied S v g c p low i (v Region.Cells)) v))
          (renew Region.Cells (applied S v g c p low i (v Region.Cells)) v)
          ≡ renew Region.Cells
          (cond {A = List ℕ} b
          (set (applied S v g c p low i (v Region.Cells)) (p * range_rows + within (record_in v (g * S.capacity + low + i)).row) (value_in S v (g * S.capacity + low + i) c))
          (applied S v g c p low i (v Region.Cells)))
          v
      go true = put_renew Region.Cells (applied S v g c p low i (v Region.Cells)) v _ _
      go false = refl

  pub newest_next : (stamp : ℕ) (x : View) (i r r' : ℕ) → x ≡ applied_all S g c p low i v → r ≡ newest_of S v g c low i stamp
      → r' ≡ later_one (g * S.capacity + low + i) c x r → r' ≡ newest_of S v g c low (i + 1) stamp
  unfolding applied_all later_one newest_of record_in renew
  newest_next stamp x i r r' e q t = t ∙ rw (e, q, add-one, at_slot i)

-- what the pass leaves after its last turn
pub pass_end : (S : Shape) (g c p low stamp : ℕ) (v x : View) (r i n : ℕ) → x ≡ applied_all S g c p low i v → r ≡ newest_of S v g c low i stamp → i ≤ n → n ≤ i
    → (r ≡ newest_of S v g c low n stamp) × (x ≡ applied_all S g c p low n v)
pass_end S g c p low stamp v x r i n e q h m = let z : i ≡ n = omega arith in (q ∙ rw z, e ∙ rw z)

-- ---- one record: it applies or not
module _ (S : Shape) (v : View) (k c p stamp : ℕ) (b : Bool) (e : b ≡ applies c (record_in v k)) where
  pub one_applied : (at row w r : ℕ) (x : View) → b ≡ true → at ≡ get_or (v Region.TailStamp) k 0 → row ≡ get_or (v Region.TailRow) k 0
      → w ≡ get_or (v Region.TailValues) (k * S.columns + c) 0 → r ≡ cond (ltb stamp at) at stamp
      → x ≡ put Region.Cells (p * range_rows + row % range_rows) w v → (r ≡ later_one k c v stamp) × (x ≡ applied_one S k c p v)
  unfolding later_one applied_one record_in value_in
  one_applied at row w r x t a i u q f = (q ∙ rw (a, sym e ∙ t), f ∙ rw (i, u, sym e ∙ t))

  pub one_skipped : b ≡ false → (stamp ≡ later_one k c v stamp) × (v ≡ applied_one S k c p v)
  unfolding later_one applied_one
  one_skipped f = (rw (sym e ∙ f), rw (sym e ∙ f))

-- a record's words tell whether it applies
module _ (v : View) (k c mask : ℕ) (has : Bool) (e : mask ≡ get_or (v Region.TailMask) k 0) (b : has ≡ bit mask c) where
  pub applies_not : has ≡ false → false ≡ applies c (record_in v k)
  unfolding applies record_in
  applies_not f = rw (← e, ← b, f)

  module _ (kind : ℕ) (t : has ≡ true) (q : kind ≡ get_or (v Region.TailKind) k 0) where
    pub applies_other : (kind ≡ 1 → ⊥) → false ≡ applies c (record_in v k)
    unfolding applies record_in
    applies_other n = rw (← e, ← b, t, ← q, ne_eqb kind 1 n)

    pub applies_committed : (state : ℕ) → kind ≡ 1 → state ≡ get_or (v Region.TailState) k 0 → eqb state 1 ≡ applies c (record_in v k)
    unfolding applies record_in
    applies_committed state o w = rw (← e, ← b, t, ← q, eq-eqb kind 1 o, ← w)

-- ---- over a copy of a page
copy_here : (S : Shape) (g c p low n : ℕ) (v : View) (l : List ℕ)
    → renew Region.Cells (applied S v g c p low n (renew Region.Cells l v Region.Cells)) v ≡ renew Region.Cells (applied S v g c p low n l) v
unfolding renew
copy_here S g c p low n v l = refl

merged_cells : (S : Shape) (g c old p low n : ℕ) (v x : View) → x ≡ copy Region.Cells (old * range_rows) range_rows (p * range_rows) v
    → applied_all S g c p low n x ≡ renew Region.Cells (applied S v g c p low n (copied (v Region.Cells) (old * range_rows) range_rows (p * range_rows) (v Region.Cells))) v
unfolding applied_all copy
merged_cells S g c old p low n v x e =
    let l : List ℕ = copied (v Region.Cells) (old * range_rows) range_rows (p * range_rows) (v Region.Cells) in
    rw e
    (ap (λ (y : List ℕ). renew Region.Cells y (renew Region.Cells l v)) (applied_blind S v l g c p low n (renew Region.Cells l v Region.Cells))
    ∙ renew_again Region.Cells l (applied S v g c p low n (renew Region.Cells l v Region.Cells)) v
    ∙ copy_here S g c p low n v l)

merged_newest : (S : Shape) (g c old p low n stamp : ℕ) (v x : View) → x ≡ copy Region.Cells (old * range_rows) range_rows (p * range_rows) v
    → newest_of S x g c low n stamp ≡ newest_of S v g c low n stamp
unfolding copy
merged_newest S g c old p low n stamp v x e = rw e (newest_blind S v _ g c low n stamp)

-- two pages that are not one do not overlap
pub apart : (a b : ℕ) → (a ≡ b → ⊥) → (a * range_rows + range_rows ≤ b * range_rows) ⊎ (b * range_rows + range_rows ≤ a * range_rows)
apart a b d = go (ltb a b) refl
  where
    go : (t : Bool) → ltb a b ≡ t → (a * range_rows + range_rows ≤ b * range_rows) ⊎ (b * range_rows + range_rows ≤ a * range_rows)
    go true e = let h : a < b = ltb-true a b e in inl (omega arith)
    go false e = let h : b ≤ a = ltb-false a b e in let k : b < a = omega (arith, d) in inr (omega arith)

-- ---- the free page
-- the search over numbers is the search over a list
pub first_list : (key : ℕ) (l : List ℕ) (n : ℕ) → length l ≡ n → first_from (λ p. eqb (get_or l p 0) key) n 0 ≡ first_index (λ x. eqb x key) l
first_list key l n e = ap (λ (k : ℕ). first_from (λ p. eqb (get_or l p 0) key) k 0) (sym e) ∙ count l
  where
    -- from i on, with i words before
    shifted : (f h : ℕ → Bool) → ((p : ℕ) → f (suc p) ≡ h p) → (n i : ℕ) → first_from f n (suc i) ≡ suc (first_from h n i)
    shifted f h q zero i = refl
    shifted f h q (suc n) i = rw (q i, shifted f h q n (suc i)) (split (h i))
      where
        split : (b : Bool) → cond b (suc i) (suc (first_from h n (suc i))) ≡ suc (cond b i (first_from h n (suc i)))
        split true = refl
        split false = refl

    count : (l : List ℕ) → first_from (λ p. eqb (get_or l p 0) key) (length l) 0 ≡ first_index (λ x. eqb x key) l
    count [] = refl
    count (x ∷ l) =
        rw (shifted (λ p. eqb (get_or (x ∷ l) p 0) key) (λ p. eqb (get_or l p 0) key) (λ p. refl) (length l) 0, count l)

module _ (s : Sizes) (m : List ℕ) (room : Suffices s m) (proper : Proper s) (f : Option ℕ) (e : f ≡ first_at 0 0 (region (view_of s m Region.PageState) 0 s.pages)) where
  -- the first page that says it is free, and the first stray one
  abbrev first : ℕ
  first = first_from (λ p. free_page (page_in (view_of s m) p).state) s.pages 0

  abbrev second : ℕ
  second = first_from (stray_in (shape_in s) (view_of s m)) s.pages 0

  free_first : f ≡ found_at s.pages first
  unfolding page_in
  free_first =
      let states = view_of s m Region.PageState in
      let long : length states ≡ s.pages = view_long s (words m) (omega (arith, length_words m)) Region.PageState in
      e ∙ find_index 0 states s.pages long ∙ ap (found_at s.pages) (sym (first_list 0 states s.pages long))

  free_both : free_in (shape_in s) (view_of s m) ≡ cond (ltb first s.pages) first second
  unfolding free_in
  free_both = let q : s.pages ≡ pages_of (shape_in s) = omega (arith, proper.pages_are, proper.chunks_are) in rw q

  -- the first search, or else the second
  pub free_found : (P : Type 0) (r : Option ℕ) → MatchOption f P (λ j. r ≡ Some j) → (P → r ≡ found_at s.pages second)
      → r ≡ found_at s.pages (free_in (shape_in s) (view_of s m))
  free_found P r h g =
      rw free_both (go (ltb first s.pages) (subst (λ (o : Option ℕ). MatchOption o P (λ j. r ≡ Some j)) free_first h) refl)
    where
      go : (b : Bool) → MatchOption (cond b (Some first) None) P (λ j. r ≡ Some j) → ltb first s.pages ≡ b → r ≡ found_at s.pages (cond b first second)
      go true h q = h ∙ rw q
      go false h q = g h

-- a page's words tell whether it is stray
module _ (s : Sizes) (v : View) (proper : Proper s) (p state : ℕ) (e : state ≡ get_or (v Region.PageState) p 0) where
  pub stray_not : (state ≡ 1 → ⊥) → false ≡ stray_in (shape_in s) v p
  unfolding stray_in page_in
  stray_not n = rw (← e, ne_eqb state 1 n)

  module _ (s1 : state ≡ 1) (at : ℕ) (w : at ≡ get_or (v Region.PageChunk) p 0) where
    pub stray_high : s.chunks ≤ at → leb s.chunks at ≡ stray_in (shape_in s) v p
    unfolding stray_in named_in page_in
    stray_high h = rw (le-leb s.chunks at h, ← e, eq-eqb state 1 s1, ← w, le-ltb at (chunks_of (shape_in s)) (omega (arith, proper.chunks_are)))

    pub stray_other : (page : ℕ) → at < s.chunks → page ≡ get_or (v Region.Current) at 0 → not (eqb page p) ≡ stray_in (shape_in s) v p
    unfolding stray_in named_in page_in
    stray_other page h q = rw (← e, eq-eqb state 1 s1, ← w, lt-ltb at (chunks_of (shape_in s)) (omega (arith, proper.chunks_are)), ← q)

-- ---- the whole merge, as the code has it: a copy of page `old` takes the records after `low`, and is put in its place
pub merged_is : (S : Shape) (g c n p old low newest m latest : ℕ) (v x y z w : View) → p ≡ free_in S v → old ≡ get_or (v Region.Current) (g * S.columns + c) 0
    → low ≡ get_or (v Region.PageLineage) old 0 → newest ≡ get_or (v Region.PageNewest) old 0 → m ≡ next_word (get_or (v Region.Header) merges_at 0)
    → x ≡ copy Region.Cells (old * range_rows) range_rows (p * range_rows) v → latest ≡ newest_of S x g c low (n - low) newest → y ≡ applied_all S g c p low (n - low) x
    → z ≡ page_put p (g * S.columns + c) m n latest y → w ≡ page_replaced old p (g * S.columns + c) m z → w ≡ merged_in S g c n v
unfolding merged_in page_replaced page_put page_in current_in
merged_is S g c n p old low newest m latest v x y z w e f h k l q r t u s =
    rw (s, u, t ∙ merged_cells S g c old p low (n - low) v x q, r ∙ merged_newest S g c old p low (n - low) newest v x q, l, k, h, f, ← e)

-- the current page is not the free one: its chunk names it
pub not_free : (s : Sizes) (v : View) (g c n p old : ℕ) → Proper s → MergeReady s v g c n p → old ≡ get_or (v Region.Current) (g * s.columns + c) 0
    → old ≡ p → ⊥
unfolding named_in
not_free s v g c n p old w m e q =
    let S : Shape = shape_in s in
    let i : ℕ = g * s.columns + c in
    let k : p < pages_of S = omega (arith, w.pages_are, w.chunks_are, m.page_below) in
    let b : i < chunks_of S = omega (arith, w.chunks_are, chunk_in s w g c m.range_below m.column_below) in
    let at : (page_in v old).chunk ≡ i = rw (← e) at (m.chunks_are_current.chunk i b) in
    T_not (named_in S v (free_in S v)) (free_unnamed S v m.chunks_are_current (omega (arith, m.free)))
    (subst (λ (x : ℕ). T (named_in S v x)) (q ∙ m.free) (both (ltb (page_in v old).chunk (chunks_of S)) (eqb (get_or (v Region.Current) (page_in v old).chunk 0) old) (lt→ltb (page_in v old).chunk (chunks_of S) (omega (arith, at))) (eqb_equal (get_or (v Region.Current) (page_in v old).chunk 0) old (ap (λ (j : ℕ). get_or (v Region.Current) j 0) at ∙ sym e))))

-- and its lineage is at most n
pub reaches : (s : Sizes) (v : View) (g c n p old low : ℕ) → MergeReady s v g c n p → old ≡ get_or (v Region.Current) (g * s.columns + c) 0
    → low ≡ get_or (v Region.PageLineage) old 0 → low ≤ n
unfolding page_in current_in
reaches s v g c n p old low m e q = rw (q, e) m.from
