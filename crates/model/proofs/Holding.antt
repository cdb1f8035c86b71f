-- What a page holds stays right under every step of the history that gives no row of the page, and under an insert into it.
use mathlib.Core.Path.{◌≡◌, sym, ◌∙◌, ap}
use mathlib.Core.Logic.{◌≢◌, ◌⊎◌, inl, inr}
use mathlib.Core.Bool.{Bool}
use mathlib.Core.List.{List, [], ◌∷◌, ◌++◌}
use Prim.Native.Nat.{ℕ, suc, ◌≤◌, ◌<◌}
use native.Mathlib.Omega.{arith}
use native.Mathlib.Nat.{le_refl, le_trans}
use native.Mathlib.Decide.{ℕ_discrete, dec_lt}
use lib.ListN.{length, get_or, take, length-append, get_or-eq_default}
use lib.Seq.{get_or-append_seam}
use lib.IntN.{pos}
use borrow.Author.Tests.{ne_eqb}
use mir.Syntax.{w32}
use mir.Val.{to_z}
use Rattle.terms.specs.Measures.{range_rows}
use Rattle.terms.specs.declared.Shape.{Shape}
use Rattle.history.specs.History.{Call, History, Row, Record, Version, is_committed, state_of, row_at, inserted_value, inserted, last_setting, range_of, records_of, with_rows, with_tail, with_transactions, with_scans, with_merges, cell_through}
use Rattle.history.specs.Lists.{All}
use Rattle.history.proofs.Lists.{by_cases, all_map, all_map₂, all_filterb, all_take, filterb_append, length_change}
use Rattle.history.specs.Steps.{scan_opened, scan_closed, merged, released, Step, nothing, new_states, row_given, records_made, new_scans, new_merges}
use Rattle.history.proofs.States.{up_refl, states_last}
use Rattle.history.proofs.Ranges.{last_unfound}
use Rattle.history.proofs.Merges.{length_released}
use Rattle.history.proofs.Order.{order_step}
use Rattle.history.specs.Invariants.{UpTo, InOrder, Through}
use Rattle.history.proofs.Pages.{through_step, Settled, settled_step, cell_stays}
use Rattle.model.specs.Stored.{PageWords, within}
use Rattle.model.specs.Represents.{Holds, NotAfter, every_row, TakenBefore}

-- ---- a row that was not given has no records, and 0 in every cell
pub last_other : (sees : ℕ → Bool) (r c : ℕ) (v : Version) {l : List Record} → All (λ (x : Record). x.row ≢ r) l → last_setting sees r c v l ≡ v
last_other sees r c v a = last_unfound sees r c v (all_map (λ x n. rw (ne_eqb x.row r n)) a)

pub not_given_lem : (h : History) (g n r : ℕ) → InOrder h → length h.rows ≤ r → All (λ (x : Record). x.row ≢ r) (take n (records_of h g))
unfolding records_of
not_given_lem h g n r i b = all_take n (all_filterb _ (all_map (λ x p e. omega (arith, p.inside)) i.records))

pub absent_inserted : (h : History) (r c : ℕ) → length h.rows ≤ r → inserted_value h r c ≡ pos 0
unfolding inserted_value row_at
absent_inserted h r c b = rw (get_or-eq_default h.rows record { inserter = 0; values = [] } b)

pub cell_absent : (h : History) (c r n : ℕ) → InOrder h → length h.rows ≤ r → cell_through h c r n ≡ pos 0
unfolding cell_through inserted
cell_absent h c r n i b =
    ap (λ (v : Version). v.value) (last_other (λ k. is_committed (state_of h k)) r c (inserted h r c) (not_given_lem h (range_of r) n r i b)) ∙ absent_inserted h r c b

-- ---- what no step lowers
pub record Grown (h h' : History) : Type 0 where
  pub last : UpTo h.last h'.last
  pub rows : length h.rows ≤ length h'.rows
  pub records : (g : ℕ) → length (records_of h g) ≤ length (records_of h' g)
  pub scans : length h.scans ≤ length h'.scans
  pub merges : length h.merges ≤ length h'.merges

one_longer : {A : Type 0} (l : List A) (x : A) → length l ≤ length (l ++ x ∷ [])
one_longer l x = simp length-append (omega arith)

records_longer : (h : History) (m : List Record) (g : ℕ) → length (records_of h g) ≤ length (records_of (with_tail h (h.tail ++ m)) g)
unfolding records_of with_tail
records_longer h m g = simp (filterb_append, length-append) (omega arith)

pub grown : {S : Shape} {x : Call} {h h' : History} → Step S h x h' → Grown h h'
unfolding records_of with_transactions with_rows with_tail with_scans with_merges
grown nothing = search (le_refl, up_refl)
grown (new_states n) = search (le_refl, states_last n)
grown (row_given _ _ _ _) = search (le_refl, up_refl, one_longer)
grown {h = h} (records_made _ _ {m} _ _ _) = search (le_refl, up_refl, records_longer h m)
grown (new_scans (scan_opened _ _ _)) = search (le_refl, up_refl, one_longer)
grown (new_scans (scan_closed k _)) = search (le_refl, up_refl, length_change)
grown (new_merges (merged _)) = search (le_refl, up_refl, one_longer)
grown (new_merges released) = search (le_refl, up_refl, length_released)

-- the commits that a page has taken in are among the first n for ever: their transactions are closed
pub taken_step : {S : Shape} {y : Call} {h h' : History} → InOrder h → Step S h y h' → (g n : ℕ) {k : ℕ} → Through h g k → All (TakenBefore (state_of h) n) (take k (records_of h g))
    → All (TakenBefore (state_of h') n) (take k (records_of h' g))
taken_step i step g n t a =
    let q = settled_step i t step in
    rw q.records (all_map₂ (λ y e f s u. f s (sym e ∙ u)) q.states a)

-- ---- a step that gives none of the rows in question
module _ {S : Shape} {y : Call} {h h' : History} (i : InOrder h) (step : Step S h y h') (g c : ℕ) (x : PageWords) where
  newest_step : Through h g x.lineage → All (NotAfter (state_of h) c x.newest) (take x.lineage (records_of h g))
      → All (NotAfter (state_of h') c x.newest) (take x.lineage (records_of h' g))
  newest_step t a =
      let q : Settled h h' g x.lineage = settled_step i t step in
      rw q.records (all_map₂ (λ y e f s n u. f s n (sym e ∙ u)) q.states a)

  cell_step : (r : ℕ) → range_of r ≡ g → Through h g x.lineage → (r < length h.rows) ⊎ (length h'.rows ≤ r)
      → cell_through h' c r x.lineage ≡ cell_through h c r x.lineage
  cell_step r e t (inl b) = cell_stays c r x.lineage i (rw e t) b step
  cell_step r e t (inr b) = cell_absent h' c r x.lineage (order_step i step) b ∙ sym (cell_absent h c r x.lineage i (le_trans (grown step).rows b))

  pub holds_step : {Q Q' : ℕ → Type 0} {cell : ℕ → ℕ}
      → ((r : ℕ) → range_of r ≡ g → Q' r → Q r × ((r < length h.rows) ⊎ (length h'.rows ≤ r)))
      → Holds h g c Q x cell → Holds h' g c Q' x cell
  holds_step f o =
      record {
        through = through_step i o.through step;
        newest = newest_step o.through o.newest;
        stamped = le_trans o.stamped (grown step).last.stamps;
        cells = λ r e q.
            let p = f r e q in
            o.cells r e p.0 ∙ sym (cell_step r e o.through p.1);
      }

-- a row is given or not, where a step gives none
pub same_rows : (n m r : ℕ) → n ≡ m → (r < n) ⊎ (m ≤ r)
same_rows n m r e = by_cases (dec_lt r n) (λ b. inl b) (λ f. inr (omega arith))

-- only the cells that are looked at matter
pub holds_cells : {h : History} {g c : ℕ} {Q : ℕ → Type 0} {x : PageWords} {cell cell' : ℕ → ℕ} → ((r : ℕ) → range_of r ≡ g → Q r → cell' (within r) ≡ cell (within r))
    → Holds h g c Q x cell → Holds h g c Q x cell'
holds_cells f o =
    record { through = o.through; newest = o.newest; stamped = o.stamped; cells = λ r e q. ap (to_z w32) (f r e q) ∙ o.cells r e q }

pub same_row : (m n : ℕ) → range_of m ≡ range_of n → within m ≡ within n → m ≡ n
unfolding range_of
same_row m n a b = omega arith

-- ---- an insert into the page
abbrev pub with_row : History → Row → History
with_row h w = with_rows h (h.rows ++ w ∷ [])

pub row_new : (h : History) (w : Row) → row_at (with_row h w) (length h.rows) ≡ w
unfolding row_at with_rows
row_new h w = get_or-append_seam h.rows w [] record { inserter = 0; values = [] }

pub rows_more : (h : History) (w : Row) → length (with_row h w).rows ≡ suc (length h.rows)
unfolding with_rows
rows_more h w = simp length-append (omega arith)

pub cell_new : (h : History) (w : Row) (c n : ℕ) → InOrder h → cell_through (with_row h w) c (length h.rows) n ≡ get_or w.values c (pos 0)
unfolding cell_through inserted inserted_value
cell_new h w c n i =
    ap (λ (v : Version). v.value)
    (last_other (λ k. is_committed (state_of (with_row h w) k)) (length h.rows) c (inserted (with_row h w) (length h.rows) c) (unfold records_of with_rows in (not_given_lem h (range_of (length h.rows)) n (length h.rows) i (le_refl _))))
    ∙ ap (λ (x : Row). get_or x.values c (pos 0)) (row_new h w)

pub other_row : (h : History) (w : Row) (r : ℕ) → r ≢ length h.rows → (r < length h.rows) ⊎ (length (with_row h w).rows ≤ r)
other_row h w r f = by_cases (dec_lt r (length h.rows)) (λ b. inl b) (λ b. inr (omega (arith, rows_more h w)))

-- The new row's cell gets its value, and the other cells stay.
pub holds_insert : {S : Shape} {y : Call} {h : History} (w : Row) (g c : ℕ) (x : PageWords) {cell cell' : ℕ → ℕ} → InOrder h → Step S h y (with_row h w)
    → range_of (length h.rows) ≡ g → to_z w32 (cell' (within (length h.rows))) ≡ get_or w.values c (pos 0)
    → ((i : ℕ) → i < range_rows → i ≢ within (length h.rows) → cell' i ≡ cell i) → Holds h g c every_row x cell → Holds (with_row h w) g c every_row x cell'
unfolding range_of
holds_insert {h = h} w g c x {cell} {cell'} i step e new old o =
    record {
      through = through_step i o.through step;
      newest = newest_step i step g c x o.through o.newest;
      stamped = le_trans o.stamped (grown step).last.stamps;
      cells = λ r q u. by_cases (ℕ_discrete r (length h.rows))
          (λ z. rw z (new ∙ sym (cell_new h w c x.lineage i)))
          (λ f. ap (to_z w32) (old (within r) (omega arith) (λ z. f (omega arith))) ∙ o.cells r q tt ∙ sym (cell_step i step g c x r q o.through (other_row h w r f)));
    }
