-- The answers of a few tests, one lemma for each way through the code.
use Prim.Native.Nat.{ℕ, ◌≤◌, ◌<◌}
use mathlib.Core.Path.{◌≡◌, refl, sym, ◌∙◌, ap}
use mathlib.Core.Bool.{Bool, true, false, not, cond, ◌&&◌, or-false, and-false, and-true}
use native.Mathlib.Omega.{arith}
use lib.Dec.{leb, ltb, eqb}
use lib.ListN.{get_or}
use borrow.Author.Tests.{eq-eqb, ne_eqb, lt-ltb, le-ltb, not-true, not-false}
use Rattle.terms.specs.declared.Shape.{Shape}
use Rattle.std.specs.Prelude.{Option, Some, None}
use Rattle.layout.specs.declared.Region.TheVariants.{RowTransaction, RowState, RowStamp, RowLink, TailTransaction, TailKind, TailState, TailStamp, RowOrdinal, TailOrdinal}
use Rattle.layout.specs.View.{View}
use Rattle.history.specs.History.{range_of}
use Rattle.model.specs.declared.Reader.{Reader}
use Rattle.model.specs.Stored.{row_in, record_in}
use Rattle.layout.specs.Regions.{slot}
use Rattle.model.specs.Reading.{sees, sees_row, sees_record, has_record, head_in, visible_in}
use Rattle.rows.specs.Finders.{head_at}

module _ (who : Reader) (state stamp ordinal transaction : ℕ) where
  pub sees_committed : (b : Bool) → b ≡ (leb stamp who.stamp.0 && leb ordinal who.commits) → state ≡ 1 → b ≡ sees who state stamp ordinal transaction
  unfolding sees
  sees_committed b q e = q ∙ rw e (sym (or-false (leb stamp who.stamp.0 && leb ordinal who.commits)))

  pub sees_ended : (state ≡ 1 → ⊥) → (state ≡ 0 → ⊥) → false ≡ sees who state stamp ordinal transaction
  unfolding sees
  sees_ended h k = rw (ne_eqb state 1 h, ne_eqb state 0 k)

  pub sees_other : state ≡ 0 → (transaction ≡ who.me.0 → ⊥) → false ≡ sees who state stamp ordinal transaction
  unfolding sees
  sees_other e h = rw (e, ne_eqb transaction who.me.0 h, and-false (not (eqb who.me.0 0)))

  pub sees_own : state ≡ 0 → transaction ≡ who.me.0 → not (eqb transaction 0) ≡ sees who state stamp ordinal transaction
  unfolding sees
  sees_own e h = rw (e, h, eq-eqb who.me.0 who.me.0 refl, and-true (not (eqb who.me.0 0)))

-- the row or record i, word by word
module _ (v : View) (who : Reader) (i state stamp ordinal transaction : ℕ) (x : Bool) (e : x ≡ sees who state stamp ordinal transaction) where
  pub row_sees : state ≡ get_or (v RowState) i 0 → stamp ≡ get_or (v RowStamp) i 0 → ordinal ≡ get_or (v RowOrdinal) i 0 → transaction ≡ get_or (v RowTransaction) i 0 → x ≡ sees_row who (row_in v i)
  unfolding row_in
  row_sees a b c d = e ∙ rw (a, b, c, d)

  pub record_sees : state ≡ get_or (v TailState) i 0 → stamp ≡ get_or (v TailStamp) i 0 → ordinal ≡ get_or (v TailOrdinal) i 0 → transaction ≡ get_or (v TailTransaction) i 0 → x ≡ sees_record who (record_in v i)
  unfolding record_in
  record_sees a b c d = e ∙ rw (a, b, c, d)

-- ---- what a finder tells whose answer hangs on one test
module _ (b : Bool) (j : ℕ) where
  pub found_at : (i : ℕ) → cond b None (Some j) ≡ Some i → (b ≡ false) × (i ≡ j)
  found_at i e = go b refl e
    where
      go : (d : Bool) → b ≡ d → cond d None (Some j) ≡ Some i → (b ≡ false) × (i ≡ j)
      go true q f = let z : ◌≡◌ {A = ℕ} 0 1 = cc in absurd (omega arith)
      go false q f = (q, cc)

  pub found_nothing : cond b None (Some j) ≡ None → b ≡ true
  found_nothing e = go b refl e
    where
      go : (d : Bool) → b ≡ d → cond d None (Some j) ≡ None → b ≡ true
      go true q f = q
      go false q f = let z : ◌≡◌ {A = ℕ} 0 1 = cc in absurd (omega arith)

-- ---- what the finder of a row's newest record tells
module _ (S : Shape) (v : View) (r : ℕ) where
  pub head_there : (at : ℕ) → head_at S v r ≡ Some at → (has_record v r ≡ true) × (head_in S v r ≡ record_in v at)
  unfolding head_at head_in
  head_there at e = go (has_record v r) refl e
    where
      go : (b : Bool) → has_record v r ≡ b → cond b (Some (slot S (range_of r) (row_in v r).link)) None ≡ Some at
          → (has_record v r ≡ true) × (record_in v (slot S (range_of r) (row_in v r).link) ≡ record_in v at)
      go true q f = let k : slot S (range_of r) (row_in v r).link ≡ at = cc in (q, ap (record_in v) k)
      go false q f = let z : ◌≡◌ {A = ℕ} 0 1 = cc in absurd (omega arith)

  pub head_none : head_at S v r ≡ None → has_record v r ≡ false
  unfolding head_at
  head_none e = go (has_record v r) refl e
    where
      go : (b : Bool) → has_record v r ≡ b → cond b (Some (slot S (range_of r) (row_in v r).link)) None ≡ None
          → has_record v r ≡ false
      go true q f = let z : ◌≡◌ {A = ℕ} 0 1 = cc in absurd (omega arith)
      go false q f = q

  module _ (link : ℕ) (l : link ≡ get_or (v RowLink) r 0) where
    pub head_empty : link ≡ 0 → None ≡ head_at S v r
    unfolding head_at row_in
    head_empty e = rw (← l, eq-eqb link 0 e)

    pub head_found : (g at : ℕ) → (link ≡ 0 → ⊥) → g ≡ range_of r → at ≡ slot S g link → Some at ≡ head_at S v r
    unfolding head_at row_in
    head_found g at n i e = rw (← l, ne_eqb link 0 n, ← i, e)

  module _ (who : Reader) (row : Bool) (e : row ≡ sees_row who (row_in v r)) where
    pub unseen_row : not row ≡ true → false ≡ visible_in S v who r
    unfolding visible_in
    unseen_row h = rw (← e, not-true row h)

    module _ (head : Option ℕ) (h : not row ≡ false) (f : head ≡ head_at S v r) where
      pub row_alone : head ≡ None → true ≡ visible_in S v who r
      unfolding visible_in
      row_alone q = rw (← e, not-false row h, head_none (sym f ∙ q))

      module _ (at kind : ℕ) (q : head ≡ Some at) (k : kind ≡ get_or (v TailKind) at 0) where
        pub row_kept : kind < 2 → ltb kind 2 ≡ visible_in S v who r
        unfolding visible_in record_in
        row_kept l =
            let d = head_there at (sym f ∙ q) in
            let no : ltb 1 (get_or (v TailKind) at 0) ≡ false = le-ltb 1 (get_or (v TailKind) at 0) (omega arith) in
            rw (lt-ltb kind 2 l, ← e, not-false row h, d.0, d.1, no)

        pub row_deleted : (seen : Bool) → 2 ≤ kind → seen ≡ sees_record who (record_in v at) → not seen ≡ visible_in S v who r
        unfolding visible_in record_in
        row_deleted seen l w =
            let d = head_there at (sym f ∙ q) in
            let yes : ltb 1 (get_or (v TailKind) at 0) ≡ true = lt-ltb 1 (get_or (v TailKind) at 0) (omega arith) in
            rw (← e, not-false row h, d.0, d.1, yes, w)
