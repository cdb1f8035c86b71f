-- What the steps of insert, update and delete do to the parts of the memory that other steps go by, and the turns of the loops.
use Prim.Native.Nat.{ℕ, ◌+◌, ◌-◌, ◌*◌, ◌/◌, ◌%◌, ◌^◌, ◌≤◌, ◌<◌}
use mathlib.Core.Path.{◌≡◌, refl, ap, ◌∙◌}
use mathlib.Core.Bool.{Bool, true, false, cond}
use mathlib.Core.List.{List}
use native.Mathlib.Omega.{arith}
use native.Mathlib.Numerals.{add-one}
use lib.Dec.{eqb}
use lib.ListN.{length, get_or}
use lib.Seq.{get_or-set_same}
use lib.Bits.{bit_or}
use lib.IntN.{ℤ, pos}
use borrow.Author.Tests.{eq-eqb, ne_eqb}
use mir.Syntax.{w32}
use mir.Val.{of_z, to_z, hbits}
use mir.ValLaws.{to_z-of_z}
use lib.Signed.{mag}
use Rattle.terms.specs.Measures.{range_rows}
use Rattle.terms.specs.declared.Shape.{Shape}
use Rattle.history.specs.History.{range_of}
use Rattle.layout.specs.declared.Sizes.{Sizes}
use Rattle.layout.specs.declared.Region.{Region}
use Rattle.words.specs.Words.{words}
use Rattle.loops.specs.Change.{changed}
use Rattle.words.proofs.Words.{length_words}
use Rattle.layout.specs.Regions.{rows_at, slot}
use Rattle.layout.specs.View.{View, renew, put, rows_given, used_in, view_of, Suffices}
use Rattle.layout.proofs.View.{view_long}
use Rattle.model.specs.Stored.{row_keeper, open_keeper, open_index, row_in, cell_in, current_in}
use Rattle.layout.specs.Codes.{as_original, as_delete}
use Rattle.model.specs.Writing.{noted, put_cells, next_slot, appended, filled_in, new_bits, new_bits_in, records_wanted, original_appended, setting_appended, updated_in, inserted_in, inserted_at, deleted_in}
use Rattle.layout.specs.Sizes.{Proper}
use Rattle.model.specs.Preconditions.{shape_in, OpenAt}
use Rattle.transactions.specs.Steps.{noted_at}
use Rattle.layout.proofs.Renewed.{renew_none, turn_put, change_none, change_next}
use Rattle.layout.proofs.Indices.{range_in}
use Rattle.writing.specs.Steps.{open_put, row_put, cells_put, record_put, cell_words, newest_filled, original_put, records_put, Room, Newest}

-- a note at the entry of t, after a step that left the open transactions as they were
noted_at_lem : (v w : View) (t j : ℕ) → OpenAt v t j → w Region.Opens ≡ v Region.Opens → noted_at j w ≡ noted t w
unfolding noted_at noted open_index
noted_at_lem v w t j o e = rw (e, ← o.found)

-- ---- the loop that puts a row's values into the current pages
module _ (S : Shape) (g i : ℕ) (vs : List ℤ) (v : View) where
  -- the view after c columns
  unfoldable pub cells_to : ℕ → View
  cells_to c = renew Region.Cells (put_cells S (v Region.Current) g i vs c (v Region.Cells)) v

  pub cells_none : v ≡ cells_to 0
  unfolding cells_to
  cells_none = renew_none Region.Cells v

  pub cells_current : (x : View) (c : ℕ) → x ≡ cells_to c → x Region.Current ≡ v Region.Current
  unfolding cells_to renew
  cells_current x c e = ap (λ (y : View). y Region.Current) e

  pub cells_next : (x x' : View) (c w : ℕ) → x ≡ cells_to c → w ≡ of_z w32 (get_or vs c (pos 0))
      → x' ≡ put Region.Cells (get_or (x Region.Current) (g * S.columns + c) 0 * range_rows + i) w x → x' ≡ cells_to (c + 1)
  unfolding cells_to
  cells_next x x' c w e q p =
      turn_put Region.Cells (put_cells S (v Region.Current) g i vs c (v Region.Cells)) v x x' _ w e p
      ∙ rw (cells_current x c e, q, add-one)

  pub cells_all : (x : View) (c : ℕ) → x ≡ cells_to c → c ≤ S.columns → S.columns ≤ c → x ≡ cells_put S g i vs v
  unfolding cells_to cells_put
  cells_all x c e h m = let q : c ≡ S.columns = omega arith in e ∙ rw q

-- ---- an appended record is the newest of its range
appended_used : (S : Shape) (t keeper r kind mask : ℕ) (v : View) → r / range_rows < length (v Region.Used)
    → used_in (appended S t keeper r kind mask v) (r / range_rows) ≡ used_in v (r / range_rows) + 1
unfolding appended range_of put renew
appended_used S t keeper r kind mask v h = get_or-set_same (v Region.Used) (r / range_rows) _ 0 h

-- the words that are put, one after the other
pub appended_is : (S : Shape) (t keeper r kind mask u link : ℕ) (v x y z : View) → u ≡ get_or (v Region.Used) (r / range_rows) 0 → link ≡ get_or (v Region.RowLink) r 0
    → x ≡ record_put (r / range_rows * S.capacity + u) t keeper r kind mask link v → y ≡ put Region.Used (r / range_rows) (u + 1) x → z ≡ put Region.RowLink r (u + 1) y
    → z ≡ appended S t keeper r kind mask v
unfolding appended next_slot open_put record_put slot range_of row_in
appended_is S t keeper r kind mask u link v x y z e f a b c =
    let q : get_or (v Region.Used) (r / range_rows) 0 + 1 - 1 ≡ get_or (v Region.Used) (r / range_rows) 0 = omega arith in
    rw (c, b, a, f, e, q)

-- row r's range is one whose records are counted
range_counted : (s : Sizes) (m : List ℕ) (r : ℕ) → Suffices s m → Proper s → r < s.rows
    → (r / range_rows < s.ranges) × (r / range_rows < length (view_of s m Region.Used))
range_counted s m r h p l =
    let g : r / range_rows < s.ranges = range_in s p r l in
    (g, omega (arith, view_long s (words m) (omega (arith, length_words m)) Region.Used))

module _ (s : Sizes) (m : List ℕ) (t keeper r kind mask : ℕ) (x : View) (e : x ≡ appended (shape_in s) t keeper r kind mask (view_of s m))
    (h : Suffices s m) (p : Proper s) (o : Room s (view_of s m) r 1) where
  one_more : used_in (appended (shape_in s) t keeper r kind mask (view_of s m)) (r / range_rows) ≡ used_in (view_of s m) (r / range_rows) + 1
  one_more = appended_used (shape_in s) t keeper r kind mask (view_of s m) (range_counted s m r h p o.row_below).1

  pub appended_newest : Newest s x (r / range_rows)
  appended_newest =
      rw e record { range_below = (range_counted s m r h p o.row_below).0; some = omega (arith, one_more); most = omega (arith, one_more, o.left) }

  -- so that filling the newest record fills the appended one
  pub appended_filled : (f : ℕ → ℕ) (y : View) → y ≡ newest_filled (shape_in s) (r / range_rows) f x
      → y ≡ filled_in (shape_in s) (next_slot (shape_in s) (view_of s m) (r / range_rows)) f (appended (shape_in s) t keeper r kind mask (view_of s m))
  unfolding newest_filled next_slot
  appended_filled f y q =
      q
      ∙ rw e
      (ap (λ (k : ℕ). filled_in (shape_in s) (slot (shape_in s) (r / range_rows) k) f (appended (shape_in s) t keeper r kind mask (view_of s m))) one_more)

-- the record of the original values: the current pages are as they were
pub original_is : (s : Sizes) (m : List ℕ) (t keeper r fresh : ℕ) (x y : View) → keeper ≡ get_or (view_of s m Region.RowKeeper) r 0 → x ≡ appended (shape_in s) t keeper r as_original fresh (view_of s m)
    → y ≡ newest_filled (shape_in s) (r / range_rows) (cell_words (shape_in s) x (r / range_rows) (r % range_rows)) x → Suffices s m → Proper s → Room s (view_of s m) r 1
    → y ≡ original_put (shape_in s) t r fresh (view_of s m)
unfolding original_put cell_words cell_in current_in row_keeper appended put renew range_of
original_is s m t keeper r fresh x y k e q h p o =
    appended_filled s m t keeper r as_original fresh x e h p o (cell_words (shape_in s) x (r / range_rows) (r % range_rows)) y q ∙ rw (e, k)

-- the records of an update leave the open transactions as they were
records_opens : (S : Shape) (t keeper r mask : ℕ) (vs : List ℤ) (v : View) → records_put S t keeper r mask vs v Region.Opens ≡ v Region.Opens
unfolding records_put setting_appended original_appended filled_in appended put renew
records_opens S t keeper r mask vs v = go (eqb (new_bits_in v r mask) 0)
  where
    go : (b : Bool)
        → cond {A = View} b (setting_appended S t keeper r mask vs v) (setting_appended S t keeper r mask vs (original_appended S t r mask v)) Region.Opens ≡ v Region.Opens
    go true = refl
    go false = refl

-- ---- the loops that fill the newest record of a range
module _ (S : Shape) (f : ℕ → ℕ) (at : ℕ) (v : View) where
  -- the view after c columns
  unfoldable pub fills_to : ℕ → View
  fills_to c = renew Region.TailValues (changed (λ k w. f k) at c (v Region.TailValues)) v

  pub fills_none : v ≡ fills_to 0
  unfolding fills_to
  fills_none = change_none Region.TailValues (λ k w. f k) at v

  pub fills_next : (x x' : View) (c w : ℕ) → x ≡ fills_to c → w ≡ f c → x' ≡ put Region.TailValues (at + c) w x → x' ≡ fills_to (c + 1)
  unfolding fills_to
  fills_next x x' c w e q p = change_next Region.TailValues (λ k w. f k) at v x x' c w e q p

  pub fills_all : (g : ℕ) (x : View) (c : ℕ) → at ≡ slot S g (used_in v g) * S.columns → x ≡ fills_to c → c ≤ S.columns → S.columns ≤ c
      → x ≡ newest_filled S g f v
  unfolding fills_to newest_filled filled_in
  fills_all g x c q e h m = let z : c ≡ S.columns = omega arith in e ∙ rw (z, q)

  -- what the turns read is as it was
  pub fills_current : (x : View) (c : ℕ) → x ≡ fills_to c → x Region.Current ≡ v Region.Current
  unfolding fills_to renew
  fills_current x c e = ap (λ (y : View). y Region.Current) e

  pub fills_cells : (x : View) (c : ℕ) → x ≡ fills_to c → x Region.Cells ≡ v Region.Cells
  unfolding fills_to renew
  fills_cells x c e = ap (λ (y : View). y Region.Cells) e

-- the word that a turn reads in a current page
pub fills_cell : (S : Shape) (g i at : ℕ) (v x : View) (c w : ℕ) → x ≡ fills_to S (cell_words S v g i) at v c
    → w ≡ get_or (x Region.Cells) (get_or (x Region.Current) (g * S.columns + c) 0 * range_rows + i) 0 → w ≡ cell_words S v g i c
unfolding cell_words cell_in current_in
fills_cell S g i at v x c w e q =
    q ∙ rw (fills_current S (cell_words S v g i) at v x c e, fills_cells S (cell_words S v g i) at v x c e)

-- ---- the records of an update: fresh are the columns that it sets for the first time
-- there is room for one record at least
pub room_one : (s : Sizes) (v : View) (r mask : ℕ) → Room s v r (records_wanted v r mask) → Room s v r 1
unfolding records_wanted
room_one s v r mask o = go (eqb (new_bits_in v r mask) 0) o.left
  where
    go : (b : Bool) → used_in v (r / range_rows) + cond b 1 2 ≤ s.capacity → Room s v r 1
    go true h = record { row_below = o.row_below; left = h }
    go false h = record { row_below = o.row_below; left = omega arith }

module _ (v : View) (r mask old fresh : ℕ) (e : old ≡ get_or (v Region.RowMask) r 0) (q : fresh ≡ new_bits mask old) where
  fresh_is : fresh ≡ new_bits_in v r mask
  unfolding new_bits_in row_in
  fresh_is = q ∙ ap (new_bits mask) e

  pub records_one : (S : Shape) (t keeper : ℕ) (vs : List ℤ) (y : View) → y ≡ setting_appended S t keeper r mask vs v → fresh ≡ 0 → y ≡ records_put S t keeper r mask vs v
  unfolding records_put
  records_one S t keeper vs y a z = a ∙ rw (← fresh_is, eq-eqb fresh 0 z)

  module _ (n : fresh ≡ 0 → ⊥) where
    pub records_two : (S : Shape) (t keeper : ℕ) (vs : List ℤ) (x y : View) → x ≡ original_put S t r fresh v → y ≡ setting_appended S t keeper r mask vs x
        → y ≡ records_put S t keeper r mask vs v
    unfolding records_put original_appended original_put cell_words
    records_two S t keeper vs x y a b = b ∙ rw (a, ← fresh_is, ne_eqb fresh 0 n)

    wanted_two : records_wanted v r mask ≡ 2
    unfolding records_wanted
    wanted_two = rw (← fresh_is, ne_eqb fresh 0 n)

-- after the record of the original values there is room for the other
pub original_room : (s : Sizes) (m : List ℕ) (t r mask old fresh : ℕ) (x : View) → x ≡ original_put (shape_in s) t r fresh (view_of s m)
    → old ≡ get_or (view_of s m Region.RowMask) r 0 → fresh ≡ new_bits mask old → (fresh ≡ 0 → ⊥) → Suffices s m → Proper s
    → Room s (view_of s m) r (records_wanted (view_of s m) r mask) → Room s x r 1
unfolding original_put filled_in range_of renew
original_room s m t r mask old fresh x e a b n h p o =
    let used = appended_used (shape_in s) t (row_keeper (view_of s m) r) r as_original fresh (view_of s m) (range_counted s m r h p o.row_below).1 in
    rw e record { row_below = o.row_below; left = omega (arith, used, wanted_two (view_of s m) r mask old fresh a b n, o.left) }

-- ---- the steps of each call, one after the other: the last is the note
module _ (S : Shape) (t j : ℕ) (v : View) (o : OpenAt v t j) where
  -- the keeper read at the entry
  keeper_read_lem : (keeper : ℕ) → keeper ≡ get_or (v Region.OpenKeeper) j 0 → keeper ≡ open_keeper v t
  unfolding open_keeper
  keeper_read_lem keeper k = rw (← o.found) k

  pub updated_is : (r mask old keeper : ℕ) (vs : List ℤ) (x y z : View) → keeper ≡ get_or (v Region.OpenKeeper) j 0 → old ≡ get_or (v Region.RowMask) r 0 → x ≡ records_put S t keeper r mask vs v
      → y ≡ put Region.RowMask r (bit_or mask old) x → z ≡ noted_at j y → z ≡ updated_in S t r mask vs v
  unfolding updated_in records_put row_in put renew
  updated_is r mask old keeper vs x y z k e a b c = rw (c, b, a, e, ← (keeper_read_lem keeper k)) (noted_at_lem v _ t j o (records_opens S t keeper r mask vs v))

  pub inserted_is : (n keeper : ℕ) (vs : List ℤ) (w x y z : View) → keeper ≡ get_or (v Region.OpenKeeper) j 0 → n ≡ rows_given v → w ≡ row_put t keeper n v → x ≡ cells_put S (n / range_rows) (n % range_rows) vs w
      → y ≡ put Region.Header rows_at (n + 1) x → z ≡ noted_at j y → z ≡ inserted_in S t vs v
  unfolding inserted_in inserted_at cells_put open_put row_put range_of put renew
  inserted_is n keeper vs w x y z k e a b c d = rw (d, c, b, a, e, ← (keeper_read_lem keeper k)) (noted_at_lem v _ t j o refl)

  pub deleted_is : (r keeper : ℕ) (x z : View) → keeper ≡ get_or (v Region.OpenKeeper) j 0 → x ≡ appended S t keeper r as_delete 0 v → z ≡ noted_at j x → z ≡ deleted_in S t r v
  unfolding deleted_in appended put renew
  deleted_is r keeper x z k a b = rw (b, a, ← (keeper_read_lem keeper k)) (noted_at_lem v _ t j o refl)

-- the word of a signed number that was read from an array
pub word_of : (z : ℤ) (r : ℕ) → r ≡ of_z w32 (to_z w32 (of_z w32 z)) → mag z < 2 ^ hbits w32 → r ≡ of_z w32 z
word_of z r e h = e ∙ ap (of_z w32) (to_z-of_z w32 z (record { sfits = h }))
