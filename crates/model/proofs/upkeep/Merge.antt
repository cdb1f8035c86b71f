-- Merge keeps the relation: the records above the lineage applied forward to a copy of the current page, which waits from then on. The scans find the pages that
-- they found before.
use mathlib.Core.Path.{◌≡◌, refl, sym, ◌∙◌, ap}
use mathlib.Core.Logic.{◌≢◌, ◌⊎◌, inl, inr}
use mathlib.Core.Bool.{Bool, true, false, cond, ◌&&◌, and-false}
use mathlib.Core.List.{List}
use Prim.Native.Nat.{ℕ, zero, suc, ◌+◌, ◌*◌, ◌^◌, ◌≤◌, ◌<◌}
use native.Mathlib.Omega.{arith}
use native.Mathlib.Nat.{le_refl, le_trans, add-zero}
use native.Mathlib.Decide.{ℕ_discrete}
use lib.Dec.{T, ltb, eqb, ltb→lt, nltb→le}
use lib.ListN.{length, get_or, set, take, length-set}
use lib.Seq.{get_or-set_same, get_or-set_other, take-suc}
use borrow.Author.Tests.{ne_eqb, eq-eqb}
use mir.Syntax.{w32}
use mir.Val.{to_z}
use Rattle.terms.specs.Measures.{range_rows}
use Rattle.terms.specs.declared.Shape.{Shape}
use Rattle.history.specs.History.{History, Record, Commit, State, unknown, active, aborted, committed, Content, original, setting, ending, is_committed, state_of, bit, sets, new_value, inserted, version_in, last_setting, range_of, records_of, commit_of}
use Rattle.history.specs.Lists.{All, nil, cons}
use Rattle.history.proofs.Lists.{by_cases, by_test, all_append, all_map, all_at}
use Rattle.history.specs.Invariants.{InOrder}
use Rattle.history.proofs.States.{commit_last}
use Rattle.history.proofs.Ranges.{last_next, records_range}
use Rattle.history.specs.Records.{no_record}
use Rattle.words.specs.Words.{Fit}
use Rattle.loops.proofs.Change.{set_fit}
use Rattle.layout.specs.View.{View}
use Rattle.layout.specs.declared.Region.TheVariants.{TailValues, TailStamp}
use Rattle.model.specs.Stored.{record_in, value_in, within, committed_state, setting_kind}
use Rattle.layout.specs.Regions.{slot}
use Rattle.model.specs.Writing.{applies, applied, newest_of}
use Rattle.model.specs.Represents.{state_word, ContentIs, RecordIs, NotAfter, TailOf}
use Rattle.model.proofs.lookups.Read.{setting_value}
use Rattle.model.proofs.Holding.{same_row}
use Rattle.model.proofs.lookups.Heads.{slot_is}

committed_word : (s : State) → committed_state (state_word s) ≡ is_committed s
unfolding is_committed
committed_word s = elim s as (λ x. committed_state (state_word x) ≡ is_committed x) [ unknown ↦ refl | active ↦ refl | aborted ↦ refl | committed s ↦ refl ]

setting_word : (C c : ℕ) (y : Content) (kind mask : ℕ) (value : ℕ → ℕ) (b : Bool) → ContentIs C y kind mask value → (bit mask c && (setting_kind kind && b)) ≡ (sets c y && b)
unfolding sets
setting_word C c (original cs vs) kind mask value b o = rw o.0 (and-false (bit mask c))
setting_word C c (setting m vs) kind mask value b o = rw (o.0, o.1)
setting_word C c ending kind mask value b o = rw o (and-false (bit mask c))

-- ---- what the forward pass writes, in any memory
module _ (S : Shape) (v : View) (g c p low : ℕ) where
  -- what every put into the page keeps
  applied_keeps : (P : List ℕ → Type 0) → ((l : List ℕ) (r s : ℕ) → P l → P (set l (p * range_rows + within r) (value_in S v s c))) → (k : ℕ) (l : List ℕ) → P l
      → P (applied S v g c p low k l)
  unfolding applied
  applied_keeps P kept zero l o = o
  applied_keeps P kept (suc k) l o =
      let s = slot S g (suc (low + k)) in
      let done = applied S v g c p low k l in
      elim (applies c (record_in v s)) as (λ b. P (cond b (set done (p * range_rows + within (record_in v s).row) (value_in S v s c)) done)) [
        | true ↦ kept done _ _ (applied_keeps P kept k l o)
        | false ↦ applied_keeps P kept k l o
      ]

  pub applied_length : (k : ℕ) (l : List ℕ) → length (applied S v g c p low k l) ≡ length l
  applied_length k l = applied_keeps (λ m. length m ≡ length l) (λ m r s e. length-set m _ _ ∙ e) k l refl

  pub applied_fit : Fit (v TailValues) → (k : ℕ) (l : List ℕ) → Fit l → Fit (applied S v g c p low k l)
  unfolding value_in
  applied_fit w = applied_keeps Fit (λ m r s f. set_fit m _ _ f (w _))

  -- other pages stay
  pub applied_outside : (k : ℕ) (l : List ℕ) (j : ℕ) → (j < p * range_rows) ⊎ (p * range_rows + range_rows ≤ j) → get_or (applied S v g c p low k l) j 0 ≡ get_or l j 0
  applied_outside k l j d = applied_keeps (λ m. get_or m j 0 ≡ get_or l j 0) (λ m r s e. get_or-set_other m _ j _ 0 (apart r d) ∙ e) k l refl
    where
      apart : (r : ℕ) → (j < p * range_rows) ⊎ (p * range_rows + range_rows ≤ j) → j ≢ p * range_rows + within r
      apart r (inl u) z = omega arith
      apart r (inr u) z = omega arith

-- ---- and over the records of a history
module _ (S : Shape) (v : View) (h : History) (g c p low : ℕ) (inside : c < S.columns) (o : TailOf S (state_of h) (records_of h g) v g) where
  abbrev recs : List Record
  recs = records_of h g

  abbrev done : ℕ → Bool
  done k = is_committed (state_of h k)

  -- the record after `low` and k more
  abbrev rec : ℕ → Record
  rec k = get_or (records_of h g) (low + k) no_record

  take_at : (k : ℕ) → low + suc k ≡ suc (low + k)
  take_at k = omega arith

  record_at_lem : (k : ℕ) → low + k < length recs
      → RecordIs S.columns (state_of h) (rec k) (record_in v (slot S g (suc (low + k)))) (value_in S v (slot S g (suc (low + k))))
  record_at_lem k b = rw (slot_is S g (low + k)) (o.each (low + k) b)

  applies_is : (k : ℕ) → low + k < length recs → applies c (record_in v (slot S g (suc (low + k)))) ≡ (sets c (rec k).content && done (rec k).transaction)
  unfolding applies
  applies_is k b =
      let x : RecordIs S.columns (state_of h) (rec k) (record_in v (slot S g (suc (low + k)))) (value_in S v (slot S g (suc (low + k)))) = record_at_lem k b in
      rw (x.state, committed_word (state_of h (rec k).transaction)) (setting_word S.columns c (rec k).content _ _ _ (done (rec k).transaction) x.content)

  pub applied_is : (l : List ℕ) → p * range_rows + range_rows ≤ length l → (r : ℕ) → range_of r ≡ g
      → to_z w32 (get_or l (p * range_rows + within r) 0) ≡ (last_setting done r c (inserted h r c) (take low recs)).value
      → (k : ℕ) → low + k ≤ length recs
      → to_z w32 (get_or (applied S v g c p low k l) (p * range_rows + within r) 0) ≡ (last_setting done r c (inserted h r c) (take (low + k) recs)).value
  unfolding applied
  applied_is l room r e base zero b = rw add-zero base
  applied_is l room r e base (suc k) b =
      let u : low + k < length recs = omega arith in
      rw (take_at k, last_next done r c (inserted h r c) recs (low + k) no_record u, applies_is k u)
      (go u (sets c (rec k).content) (setting_value S.columns c inside (rec k).content _ _ _ (record_at_lem k u).content) (done (rec k).transaction) (applied_is l room r e base k (omega arith)))
    where
      before : List ℕ
      before = applied S v g c p low k l

      s : ℕ
      s = slot S g (suc (low + k))

      -- the cell of row r after a put at the record's row
      put_at : low + k < length recs → (x : ℕ) → get_or (set before (p * range_rows + within (record_in v s).row) x) (p * range_rows + within r) 0
          ≡ cond (eqb (rec k).row r) x (get_or before (p * range_rows + within r) 0)
      put_at u x = by_cases (ℕ_discrete (rec k).row r)
          (λ q. rw (eq-eqb (rec k).row r q, (record_at_lem k u).row ∙ q) (get_or-set_same before (p * range_rows + within r) x 0 (omega (arith, applied_length S v g c p low k l))))
          (λ f. rw (ne_eqb (rec k).row r f)
          (get_or-set_other before (p * range_rows + within (record_in v s).row) (p * range_rows + within r) x 0
          (λ z. f (same_row (rec k).row r (all_at (records_range h g) (low + k) no_record u ∙ sym e) (omega (arith, (record_at_lem k u).row, z))))))

      go : low + k < length recs → (q : Bool) → (T q → to_z w32 (value_in S v s c) ≡ new_value c (rec k).content) → (d : Bool)
          → to_z w32 (get_or before (p * range_rows + within r) 0) ≡ (last_setting done r c (inserted h r c) (take (low + k) recs)).value
          → to_z w32 (get_or (cond (q && d) (set before (p * range_rows + within (record_in v s).row) (value_in S v s c)) before) (p * range_rows + within r) 0)
          ≡ (cond (eqb (rec k).row r && (q && d)) (version_in c (rec k)) (last_setting done r c (inserted h r c) (take (low + k) recs))).value
      go u true f true ih = ap (to_z w32) (put_at u (value_in S v s c))
          ∙ elim (eqb (rec k).row r) as (λ z. to_z w32 (cond z (value_in S v s c) (get_or before (p * range_rows + within r) 0))
          ≡ (cond (z && true) (version_in c (rec k)) (last_setting done r c (inserted h r c) (take (low + k) recs))).value) [ true ↦ unfold version_in in (f tt) | false ↦ ih ]
      go u true f false ih = rw (and-false (eqb (rec k).row r)) ih
      go u false f d ih = rw (and-false (eqb (rec k).row r)) ih

  -- ---- the latest stamp
  pub newest_is_lem : (s : ℕ) → All (NotAfter (state_of h) c s) (take low recs) → (k : ℕ) → low + k ≤ length recs
      → All (NotAfter (state_of h) c (newest_of S v g c low k s)) (take (low + k) recs)
  unfolding newest_of
  newest_is_lem s base zero b = rw add-zero base
  newest_is_lem s base (suc k) b =
      let u : low + k < length recs = omega arith in
      rw (take_at k, take-suc recs (low + k) no_record u, applies_is k u, (record_at_lem k u).stamp)
      (all_append
      (all_map (λ (y : Record) f q a e. le_trans (f q a e) (grows (sets c (rec k).content && done (rec k).transaction))) (newest_is_lem s base k (omega arith)))
      (cons (λ q a e. covers (state_of h (rec k).transaction) (sets c (rec k).content) q a e) nil))
    where
      old : ℕ
      old = newest_of S v g c low k s

      st : ℕ
      st = (commit_of (state_of h (rec k).transaction)).stamp

      grows : (a : Bool) → old ≤ cond (a && ltb old st) st old
      grows true = by_test (λ d. old ≤ cond d st old) (ltb old st) (λ t. omega (arith, ltb→lt old st t)) (λ _. le_refl _)
      grows false = le_refl _

      covers : (x : State) (q : Bool) → T q → (a : Commit) → x ≡ committed a → a.stamp ≤ cond (q && is_committed x && ltb old (commit_of x).stamp) (commit_of x).stamp old
      covers x true t a e = rw e (unfold is_committed in (by_test (λ d. a.stamp ≤ cond d a.stamp old) (ltb old a.stamp) (λ _. le_refl _) (nltb→le old a.stamp)))
      covers x false t a e = elim t [ ]

  -- what the first stamp and those of the records have in common
  newest_keeps : (P : ℕ → Type 0) (s : ℕ) → P s → (k : ℕ) → ((j : ℕ) → j < k → P (record_in v (slot S g (suc (low + j)))).stamp) → P (newest_of S v g c low k s)
  unfolding newest_of
  newest_keeps P s b zero f = b
  newest_keeps P s b (suc k) f =
      let x = record_in v (slot S g (suc (low + k))) in
      let done = newest_of S v g c low k s in
      elim (applies c x && ltb done x.stamp) as (λ q. P (cond q x.stamp done)) [ true ↦ f k (le_refl _) | false ↦ newest_keeps P s b k (λ j u. f j (omega arith)) ]

  pub newest_fit : (s : ℕ) → s < 2 ^ 32 → Fit (v TailStamp) → (k : ℕ) → newest_of S v g c low k s < 2 ^ 32
  unfolding record_in
  newest_fit s b f k = newest_keeps (λ n. n < 2 ^ 32) s b k (λ j _. f _)

  -- no stamp is after the last commit's
  pub newest_last : InOrder h → (s : ℕ) → s ≤ h.last.stamp → (k : ℕ) → low + k ≤ length recs → newest_of S v g c low k s ≤ h.last.stamp
  newest_last i s b k d = newest_keeps (λ n. n ≤ h.last.stamp) s b k (λ j u. omega (arith, (record_at_lem j (omega arith)).stamp, (commit_last h i.stamps (rec j).transaction).stamps))
