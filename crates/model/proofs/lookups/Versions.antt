-- The values that a store's records tell of a row and column are those that the history's records tell, and so are the crossings.
use mathlib.Core.Path.{◌≡◌, refl, sym, ◌∙◌, ap}
use mathlib.Core.Bool.{Bool, true, false, not, cond, ◌&&◌, ◌||◌}
use mathlib.Core.List.{List, [], ◌∷◌, ◌++◌, append-nil}
use Prim.Native.Nat.{ℕ, zero, suc, ◌+◌, ◌*◌, ◌≤◌, ◌<◌}
use native.Mathlib.Omega.{arith}
use native.Mathlib.Nat.{le_refl}
use lib.Dec.{T, eqb, eqb→eq}
use lib.ListN.{length, get_or, take}
use lib.Seq.{take-length, take-suc}
use lib.IntN.{ℤ}
use Rattle.terms.specs.declared.Shape.{Shape}
use Rattle.terms.specs.declared.Form.{Form}
use Rattle.history.specs.History.{History, Record, Dated, dated, state_of, row_at, range_of, records_of, sets, inserted, inserted_value, version_in}
use Rattle.history.specs.Records.{is_original, no_record}
use Rattle.history.proofs.Lists.{by_test, parts}
use Rattle.history.proofs.Versions.{told, all_told, told_append}
use Rattle.layout.specs.View.{View, used_in}
use Rattle.terms.specs.declared.ScanEntry.{ScanEntry}
use Rattle.model.specs.declared.Reader.{Reader}
use Rattle.model.specs.Stored.{row_in, record_in, value_in, original_kind}
use Rattle.model.specs.Reading.{sees_row, answers_for, setter_at}
use Rattle.model.specs.Versions.{tells, setter_number, dated_in, values_in}
use Rattle.model.specs.Represents.{RecordIs, Represents, WellFormed}
use Rattle.model.proofs.lookups.Heads.{slot_is, SeesAs}
use Rattle.model.proofs.lookups.Read.{record_answers, setting_value, original_value, lok, original_there, kind_setting, kind_original, setting_stamp, original_stamp}

same_dated : {a b : ℕ} {s t : ℕ} {x y : ℤ} → a ≡ b → s ≡ t → x ≡ y → ◌≡◌ {A = Dated} record { setter = a; stamp = s; value = x } record { setter = b; stamp = t; value = y }
same_dated e q u = rw (e, q, u)

nested : {A : Type 0} (a b d : Bool) (x : A) (y : A) → cond (a && (b && d)) x y ≡ cond a (cond b (cond d x y) y) y
nested true true d x y = refl
nested true false d x y = refl
nested false b d x y = refl

pub behind : {A : Type 0} (t : Bool) (l : List A) (x : A) → cond t (l ++ x ∷ []) l ≡ l ++ cond t (x ∷ []) []
behind true l x = refl
behind false l x = sym (append-nil l)

module _ {F : Form} {S : Shape} {v : View} {ps : List ScanEntry} {h : History} (o : Represents F S v ps h) (k : WellFormed S h) (who : Reader) (f : ℕ → Bool) (w : SeesAs h who f) (r : ℕ)
    (b : r < length h.rows) (c : ℕ) (inside : c < S.columns) where
  abbrev g : ℕ
  g = range_of r

  abbrev list : List Record
  list = records_of h (range_of r)

  abbrev rec : ℕ → Record
  rec i = get_or (records_of h (range_of r)) i no_record

  -- the slot of record i, counted from 0
  abbrev at : ℕ → ℕ
  at i = g * S.capacity + i

  abbrev tells_here : Record → List Dated
  tells_here x = told f (state_of h) (inserted h r c) r c x

  -- the value that a setting tells, and an original
  setting_dated : (i : ℕ) → i < length list → T (sets c (rec i).content) → dated_in S v r c (at i) ≡ dated (state_of h) (version_in c (rec i))
  unfolding dated_in dated setter_number version_in setter_at
  setting_dated i u t =
      let x = (lok o k who f w r b c inside).each i u in
      same_dated (rw (kind_setting o k who f w r b c inside _ _ _ _ x.content t) x.transaction) (setting_stamp o k who f w r b c inside i u t)
      (setting_value S.columns c inside _ _ _ _ x.content t)

  original_dated : (i : ℕ) → i < length list → (rec i).row ≡ r → T (is_original c (rec i).content) → dated_in S v r c (at i) ≡ dated (state_of h) (inserted h r c)
  unfolding dated_in dated setter_number inserted setter_at
  original_dated i u e t =
      let x = (lok o k who f w r b c inside).each i u in
      same_dated (rw (kind_original o k who f w r b c inside _ _ _ _ x.content t) (o.rows r b).transaction) (original_stamp o k who f w r b c inside i u t)
      (original_value S.columns c inside (inserted_value h r c) _ _ _ _ x.content (original_there o k who f w r b c inside i u e) t)

  row_seen : sees_row who (row_in v r) ≡ f (row_at h r).inserter
  unfolding SeesAs
  row_seen = rw ((o.rows r b).state, (o.rows r b).stamp, (o.rows r b).ordinal, (o.rows r b).transaction) (w (row_at h r).inserter)

  -- one record
  told_here : (i : ℕ) → i < length list → cond (tells v who r c (record_in v (at i))) (dated_in S v r c (at i) ∷ []) [] ≡ tells_here (rec i)
  unfolding tells answers_for SeesAs inserted
  told_here i u =
      let x : RecordIs S.columns (state_of h) (rec i) (record_in v (at i)) (value_in S v (at i)) = (lok o k who f w r b c inside).each i u in
      nested (eqb (record_in v (at i)).row r) (answers_for who c (record_in v (at i))) _ _ _
      ∙ rw x.row
      (by_test (λ q. cond q (cond (answers_for who c (record_in v (at i))) (cond (not (original_kind (record_in v (at i)).kind) || sees_row who (row_in v r)) (dated_in S v r c (at i) ∷ []) []) []) []
      ≡ cond q (cond (sets c (rec i).content && f (rec i).transaction) (dated (state_of h) (version_in c (rec i)) ∷ []) (cond (is_original c (rec i).content) (cond (f (row_at h r).inserter) (dated (state_of h) (inserted h r c) ∷ []) []) [])) [])
      (eqb (rec i).row r)
      (λ q. rw (x.state, x.stamp, x.ordinal, x.transaction, w (rec i).transaction)
      (record_answers S.columns c (rec i).content _ _ _ (f (rec i).transaction) _ _ _ _ x.content
      (λ t. let s = (parts (sets c (rec i).content) _ t).0 in rw (kind_setting o k who f w r b c inside _ _ _ _ x.content s, setting_dated i u s))
      (λ t. rw (kind_original o k who f w r b c inside _ _ _ _ x.content t, row_seen, original_dated i u (eqb→eq (rec i).row r q) t))))
      (λ _. refl))

  -- the first n
  values_told : (n : ℕ) → n ≤ length list → values_in S v who r c n ≡ all_told f (state_of h) (inserted h r c) r c (take n list)
  unfolding values_in
  values_told zero u = refl
  values_told (suc n) u =
      rw (slot_is S g n, values_told n (omega arith), take-suc list n no_record u, told_append f (state_of h) (inserted h r c) r c (take n list) (rec n ∷ []), append-nil (tells_here (rec n)))
      (behind (tells v who r c (record_in v (at n))) (all_told f (state_of h) (inserted h r c) r c (take n list)) (dated_in S v r c (at n))
      ∙ ap (λ (l : List Dated). all_told f (state_of h) (inserted h r c) r c (take n list) ++ l) (told_here n u))

  pub values_is : values_in S v who r c (used_in v (range_of r)) ≡ all_told f (state_of h) (inserted h r c) r c list
  values_is = rw ((lok o k who f w r b c inside).used_all, values_told (length list) (le_refl _), take-length)
