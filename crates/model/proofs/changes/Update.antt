-- Update keeps the relation: one record where every column was set before, two where one is new.
use mathlib.Core.Path.{◌≡◌, refl, sym, ◌∙◌, ap}
use mathlib.Core.Bool.{Bool, true, false, not, cond, ◌&&◌, ◌||◌, or_comm, or-false, true≢false}
use mathlib.Core.List.{List, [], ◌∷◌, ◌++◌}
use Prim.Native.Nat.{ℕ, ◌+◌, ◌*◌, ◌^◌, ◌≤◌, ◌<◌}
use native.Mathlib.Omega.{arith}
use lib.Dec.{T, eqb, eqb→eq}
use lib.ListN.{length, get_or, take}
use lib.Seq.{get_or-set_same, get_or-set_other}
use lib.IntN.{ℤ, pos}
use lib.Bits.{bit_or, or_lt, xor_lt}
use borrow.Author.Tests.{eq-eqb}
use mir.Syntax.{w32}
use mir.Val.{to_z, of_z, SFits}
use mir.ValLaws.{to_z-of_z, of_z_fits}
use Rattle.terms.specs.Measures.{range_rows, most_columns}
use Rattle.terms.specs.declared.Shape.{Shape}
use Rattle.terms.specs.declared.Form.{Form}
use Rattle.history.specs.History.{update, History, Record, Version, active, original, setting, is_committed, up_to, state_of, keeper_of, row_at, inserted_value, inserted, bit, sets, range_of, records_of, bad_mask, new_columns, original_records, update_records, with_tail, cell_through, scan_at}
use Rattle.history.specs.Lists.{All}
use Rattle.history.proofs.Lists.{eqb_same, is_true, is_false, refuted, parts, among_up_to_lem}
use Rattle.history.specs.Records.{among, was_set}
use Rattle.history.proofs.Steps.{New, new_columns_lem}
use Rattle.history.specs.Steps.{Step}
use Rattle.history.proofs.Masks.{bit_low}
use Rattle.history.proofs.Ranges.{last_unset}
use Rattle.history.proofs.Endings.{set_range}
use Rattle.layout.specs.Regions.{len}
use Rattle.layout.specs.Sizes.{sizes_of}
use Rattle.layout.specs.View.{View, renew, put}
use Rattle.layout.specs.declared.Region.TheVariants.{RowMask, RowKeeper, Cells}
use Rattle.terms.specs.declared.ScanEntry.{ScanEntry}
use Rattle.model.specs.Stored.{row_in, record_in, value_in, page_in, cell_in, current_in, open_index, row_keeper, open_keeper}
use Rattle.layout.specs.Codes.{as_original, as_setting}
use Rattle.model.specs.Reading.{scan_page, was_current}
use Rattle.model.specs.Writing.{noted, appended, filled_in, new_bits_in, records_wanted, original_appended, original_word, setting_appended, updated_in}
use Rattle.model.specs.Represents.{RowsAre, ContentIs, Represents, WellFormed, Whole}
use Rattle.model.proofs.Views.{put_whole, noted_whole}
use Rattle.model.proofs.changes.Insert.{bit_none, value_fits}
use Rattle.model.proofs.lookups.Heads.{in_range}
use Rattle.model.proofs.lookups.Read.{unset_take}
use Rattle.model.proofs.changes.Masks.{bit_or_lem, bit_new, no_bits}
use Rattle.model.proofs.Steady.{pages_stay}
use Rattle.model.proofs.changes.Keepers.{later_none, own_keeper}
use Rattle.model.proofs.changes.Records.{made_rows, made_parts, made_keepers, Extended, none_made, extend}

-- ---- the columns that are set for the first time
module _ {F : Form} {S : Shape} {v : View} {ps : List ScanEntry} {h : History} (o : Represents F S v ps h) (k : WellFormed S h) (r m : ℕ) (b : r < length h.rows) (good : T (not (bad_mask S m))) where
  abbrev is_new : ℕ → Bool
  is_new c = bit m c && not (was_set h.tail r c)

  new_bit : (c : ℕ) → bit (new_bits_in v r m) c ≡ is_new c
  unfolding new_bits_in
  new_bit c = bit_new m (row_in v r).mask c ∙ rw ((o.rows r b).mask c, set_range h r c)

  bit_column : (c : ℕ) → T (bit m c) → c < most_columns
  bit_column c t = omega (arith, bit_low S m c good t, k.small.columns)

  -- a bit of a good mask is a column's
  new_among : (c : ℕ) → is_new c ≡ among c (new_columns h r m)
  new_among c = sym (new_columns_lem h r m c ∙ go (bit m c) refl (not (was_set h.tail r c)))
    where
      go : (q : Bool) → bit m c ≡ q → (n : Bool) → (q && n && among c (up_to most_columns)) ≡ (q && n)
      go true e true = is_true (among c (up_to most_columns)) (among_up_to_lem most_columns c (bit_column c (rw e tt)))
      go true e false = refl
      go false e n = refl

  pub original_bits : (c : ℕ) → bit (new_bits_in v r m) c ≡ among c (new_columns h r m)
  original_bits c = new_bit c ∙ new_among c

  pub none_new : new_columns h r m ≡ [] → eqb (new_bits_in v r m) 0 ≡ true
  none_new e = eq-eqb (new_bits_in v r m) 0 (no_bits (new_bits_in v r m) (λ c. original_bits c ∙ ap (among c) e))

  pub some_new : (d : ℕ) (cs : List ℕ) → new_columns h r m ≡ d ∷ cs → eqb (new_bits_in v r m) 0 ≡ false
  some_new d cs e =
      refuted (eqb (new_bits_in v r m) 0)
      (λ t. true≢false
      (sym (original_bits d ∙ ap (among d) e ∙ rw (eqb_same d)) ∙ ap (λ (n : ℕ). bit n d) (eqb→eq (new_bits_in v r m) 0 t) ∙ bit_none d))

  -- how many records are wanted
  pub wanted_is : (t : ℕ) (vs : List ℤ) → records_wanted v r m ≡ length (update_records h t r m vs)
  unfolding records_wanted update_records original_records
  wanted_is t vs = go (new_columns h r m) refl
    where
      go : (cs : List ℕ) → new_columns h r m ≡ cs
          → cond (eqb (new_bits_in v r m) 0) 1 2 ≡ length (original_records t r cs (row_at h r).values ++ record { transaction = t; row = r; content = setting m vs } ∷ [])
      go [] e = rw (none_new e)
      go (d ∷ cs) e = rw (some_new d cs e)

  -- the cell of a column that was never set is the inserted value
  pub original_cell : (c : ℕ) → c < S.columns → T (bit (new_bits_in v r m) c) → to_z w32 (original_word S v r c) ≡ get_or (row_at h r).values c (pos 0)
  unfolding cell_through
  original_cell c d t =
      let n : ℕ = (page_in v (current_in S v (range_of r) c)).lineage in
      let e : was_set h.tail r c ≡ false = is_false (was_set h.tail r c) (parts (bit m c) _ (rw (new_bit c) at t)).1 in
      (o.currents (range_of r) c (in_range k r b) d).holds.cells r refl tt
      ∙ ap (λ (y : Version). y.value) (last_unset (λ k. is_committed (state_of h k)) r c (inserted h r c) (take n (records_of h (range_of r))) (unset_take (records_of h (range_of r)) r c n (set_range h r c ∙ e)))
      ∙ (unfold inserted inserted_value in refl)

-- ---- the words that are written fit
pub masks_fit : {F : Form} (S : Shape) (v : View) (r m : ℕ) → Whole F S v → m < 2 ^ most_columns → (new_bits_in v r m < 2 ^ 32) × (bit_or m (row_in v r).mask < 2 ^ 32)
unfolding new_bits_in row_in
masks_fit S v r m w b =
    let old : ℕ = (row_in v r).mask in
    let c : old < 2 ^ 32 = w.fits RowMask r in
    let d : m < 2 ^ 32 = omega arith in
    let e : bit_or m old < 2 ^ 32 = or_lt 32 m old d c in
    (xor_lt 32 (bit_or m old) old e c, e)

module _ {F : Form} {S : Shape} {v : View} {ps : List ScanEntry} {h : History} (o : Represents F S v ps h) (k : WellFormed S h) (t r m : ℕ) (vs : List ℤ) (a : state_of h t ≡ active) (b : r < length h.rows)
    (good : T (not (bad_mask S m))) (mask : m < 2 ^ most_columns) (typed : All (SFits w32) vs) where
  abbrev y : Record
  y = record { transaction = t; row = r; content = setting m vs }

  row_in_lem : r < S.ranges * range_rows
  row_in_lem = omega (arith, k.invariants.limits.rows)

  abbrev f₂ : ℕ → ℕ
  f₂ c = of_z w32 (get_or vs c (pos 0))

  setting_is : ContentIs S.columns (setting m vs) as_setting m f₂
  setting_is = (refl, refl, λ c d u. to_z-of_z w32 (get_or vs c (pos 0)) (value_fits vs typed c))

  values_fit : (c : ℕ) → f₂ c < 2 ^ 32
  values_fit c = (of_z_fits w32 (get_or vs c (pos 0)) (value_fits vs typed c)).fits

  union : (c : ℕ) → bit (bit_or m (row_in v r).mask) c ≡ (bit (row_in v r).mask c || (eqb r r && bit m c || false))
  union c = bit_or_lem m (row_in v r).mask c ∙ rw (eqb_same r, or-false (bit m c)) (or_comm (bit m c) (bit (row_in v r).mask c))

  add_setting : {ms : List Record} {u : View} → Extended F S h v r ms u → length (records_of h (range_of r)) + length ms < S.capacity → Extended F S h v r (ms ++ y ∷ []) (setting_appended S t (open_keeper v t) r m vs u)
  unfolding setting_appended
  add_setting E room = extend E k t a b (setting m vs) (open_keeper v t) (own_keeper o k t a).0 (own_keeper o k t a).1 (own_keeper o k t a).2 as_setting m room (omega arith) (omega arith) f₂ setting_is values_fit

  -- the row's new mask, in a memory that has the records
  abbrev masked : View → View
  masked u = noted t (put RowMask r (bit_or m (row_in v r).mask) u)

  masked_rows : {ms : List Record} {u : View} → Extended F S h v r ms u → All (New h t r) ms → ((c : ℕ) → (eqb r r && bit m c || false) ≡ was_set ms r c) → RowsAre (with_tail h (h.tail ++ ms)) (masked u)
  masked_rows {ms} {u} E new f = made_rows o k a b new E (masked u) (bit_or m (row_in v r).mask)
      (λ i n. unfold row_in noted put renew in (rw (get_or-set_other (u RowMask) r i (bit_or m (get_or (v RowMask) r 0)) 0 n)))
      (unfold row_in noted put renew in (rw (get_or-set_same (u RowMask) r (bit_or m (get_or (v RowMask) r 0)) 0 (omega (arith, row_in_lem, E.whole.long RowMask)))))
      (λ c. union c ∙ ap (λ (q : Bool). bit (row_in v r).mask c || q) (f c))

  masked_whole : {ms : List Record} {u : View} → Extended F S h v r ms u → Whole F S (masked u)
  masked_whole E = noted_whole t (put_whole RowMask r _ (masks_fit S v r m o.whole mask).1 E.whole)

  -- ---- every column was set before
  update_one : length (records_of h (range_of r)) + 1 ≤ S.capacity → Step S h (update t r m vs) (with_tail h (h.tail ++ y ∷ [])) → All (New h t r) (y ∷ [])
      → Represents F S (noted t (put RowMask r (bit_or m (row_in v r).mask) (setting_appended S t (open_keeper v t) r m vs v))) ps (with_tail h (h.tail ++ y ∷ []))
  unfolding setting_appended filled_in noted open_index put renew with_tail record_in value_in page_in cell_in current_in scan_page was_current appended state_of keeper_of row_at scan_at
  update_one room step new =
      let made = add_setting (none_made o r b) (omega arith) in
      search (made_parts o k a b new made (omega arith), made_keepers o k a b new made, masked_rows made new (λ c. unfold was_set sets in refl), masked_whole made, pages_stay o k step refl refl (λ i. refl))

  -- ---- a column is new: its original value goes first
  update_two : (d : ℕ) (cs : List ℕ) → new_columns h r m ≡ d ∷ cs → length (records_of h (range_of r)) + 2 ≤ S.capacity
      → Step S h (update t r m vs) (with_tail h (h.tail ++ record { transaction = t; row = r; content = original (d ∷ cs) (row_at h r).values } ∷ y ∷ []))
      → All (New h t r) (record { transaction = t; row = r; content = original (d ∷ cs) (row_at h r).values } ∷ y ∷ [])
      → Represents F S (noted t (put RowMask r (bit_or m (row_in v r).mask) (setting_appended S t (open_keeper v t) r m vs (original_appended S t r m v)))) ps
      (with_tail h (h.tail ++ record { transaction = t; row = r; content = original (d ∷ cs) (row_at h r).values } ∷ y ∷ []))
  unfolding setting_appended original_appended filled_in noted open_index put renew with_tail record_in value_in page_in cell_in current_in scan_page was_current appended state_of keeper_of row_at scan_at
  update_two d cs e room step new =
      search (made_parts o k a b new two (omega arith), made_keepers o k a b new two, masked_rows two new (λ c. unfold was_set sets in (rw (eqb_same r))), masked_whole two, pages_stay o k step refl refl (λ i. refl))
    where
      w : Record
      w = record { transaction = t; row = r; content = original (d ∷ cs) (row_at h r).values }

      original_is : ContentIs S.columns (original (d ∷ cs) (row_at h r).values) as_original (new_bits_in v r m) (original_word S v r)
      original_is = (refl, (λ c. original_bits o k r m b good c ∙ ap (among c) e), (λ c q u. original_cell o k r m b good c q u))

      row_keeper_lem : (row_keeper v r ≡ keeper_of h (row_at h r).inserter) × (row_keeper v r < 2 ^ 32) × (F ≡ Form.First → row_keeper v r ≡ 0)
      row_keeper_lem = unfold row_keeper in (let q = o.keepers.of_rows r b in (q, omega (arith, q, o.keepers.small (row_at h r).inserter), λ f. later_none F (λ x. len (sizes_of x S) RowKeeper) refl (v RowKeeper) (o.whole.long RowKeeper) f r))

      one : Extended F S h v r (w ∷ []) (original_appended S t r m v)
      one = extend (none_made o r b) k t a b (original (d ∷ cs) (row_at h r).values) (row_keeper v r) row_keeper_lem.0 row_keeper_lem.1 row_keeper_lem.2 as_original (new_bits_in v r m) (omega arith) (omega arith) (masks_fit S v r m o.whole mask).0
          (original_word S v r) original_is (λ c. o.whole.fits Cells _)

      two : Extended F S h v r (w ∷ y ∷ []) (setting_appended S t (open_keeper v t) r m vs (original_appended S t r m v))
      two = add_setting one (omega arith)

  pub update_kept : length (records_of h (range_of r)) + length (update_records h t r m vs) ≤ S.capacity → Step S h (update t r m vs) (with_tail h (h.tail ++ update_records h t r m vs))
      → All (New h t r) (update_records h t r m vs) → Represents F S (updated_in S t r m vs v) ps (with_tail h (h.tail ++ update_records h t r m vs))
  unfolding updated_in update_records original_records
  update_kept = go (new_columns h r m) refl
    where
      go : (cs : List ℕ) → new_columns h r m ≡ cs → length (records_of h (range_of r)) + length (original_records t r cs (row_at h r).values ++ y ∷ []) ≤ S.capacity
          → Step S h (update t r m vs) (with_tail h (h.tail ++ (original_records t r cs (row_at h r).values ++ y ∷ []))) → All (New h t r) (original_records t r cs (row_at h r).values ++ y ∷ [])
          → Represents F S (updated_in S t r m vs v) ps (with_tail h (h.tail ++ (original_records t r cs (row_at h r).values ++ y ∷ [])))
      go [] e room step new = rw (none_new o k r m b good e) (update_one room step new)
      go (d ∷ cs) e room step new = rw (some_new o k r m b good d cs e) (update_two d cs e room step new)
