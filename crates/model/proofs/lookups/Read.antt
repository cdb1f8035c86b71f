-- The read: the page's cell, the records above its lineage, and those below where it must be, give the value that the history reads; and the row or record that set it bears
-- the setter's stamp.
use mathlib.Core.Path.{◌≡◌, refl, sym, ◌∙◌, ap, ap₂}
use mathlib.Core.Bool.{Bool, true, false, cond, ◌&&◌, ◌||◌, and-false, and-true, or-false, true≢false}
use mathlib.Core.List.{List}
use Prim.Native.Nat.{ℕ, zero, suc, ◌+◌, ◌*◌, ◌≤◌, ◌<◌, zero-le}
use native.Mathlib.Omega.{arith}
use native.Mathlib.Nat.{mod-eq_of_lt, le_refl, le_trans, not-suc-le-zero}
use native.Mathlib.Decide.{ℕ_discrete}
use lib.Dec.{T, leb, eqb, eqb→eq, leb→le}
use lib.ListN.{length, get_or, take}
use lib.Seq.{take-length}
use lib.IntN.{ℤ, pos}
use borrow.Author.Tests.{le-leb, lt-leb}
use mir.Syntax.{w32}
use mir.Val.{to_z}
use Rattle.terms.specs.declared.Shape.{Shape}
use Rattle.terms.specs.declared.Form.{Form}
use Rattle.std.specs.Prelude.{Ok}
use Rattle.terms.specs.declared.Fields.{Fields}
use Rattle.history.specs.History.{History, Record, Version, State, unknown, active, aborted, committed, Content, original, setting, ending, any, is_committed, Commit, state_of, bit, sets, new_value, inserted_value, inserted, version_in, last_setting, range_of, row_at, records_of, visible, version_of, shown, read, keeper_of, borne_by, keeper_read, cell_through, commit_of}
use Rattle.history.proofs.Lists.{by_test, parts, all_map₂, all_both, any_none, all_take, not_any}
use Rattle.history.specs.Lists.{All}
use Rattle.history.specs.Records.{among, is_original, was_set, has_original, no_record, last_of}
use Rattle.history.specs.Invariants.{is_closed, InOrder}
use Rattle.history.proofs.Order.{sound_at}
use Rattle.history.proofs.Ranges.{version_range, last_next, last_agree, last_unset}
use Rattle.history.proofs.Links.{last_of_row}
use Rattle.history.proofs.Endings.{original_reads, originals_of}
use Rattle.std.specs.Prelude.{Option, Some, None}
use Rattle.layout.specs.View.{View}
use Rattle.terms.specs.declared.ScanEntry.{ScanEntry}
use Rattle.model.specs.declared.Reader.{Reader}
use Rattle.model.specs.declared.Setter.{Setter}
use Rattle.model.specs.Stored.{PageWords, row_in, record_in, value_in, page_in, cell_in, within, original_kind, setting_kind, row_keeper, record_keeper}
use Rattle.model.specs.Reading.{sees, answers_for, walk, found_in, or_else, floor, down_to, word_in, setter_at, setter_in, commit_stamp, setter_stamp, lookup_in, shown_in, read_in, keeper_word, keeper_in}
use Rattle.model.proofs.Lists.{take_next}
use Rattle.model.specs.Represents.{state_word, ContentIs, RecordIs, TailOf, Holds, TakenBefore, Represents, WellFormed}
use Rattle.model.proofs.lookups.Heads.{slot_is, in_range, SeesAs, visible_is}

-- ---- one record
-- `found` is what is read of it: of a seen setting `new`, of a record of original values `ins`
pub record_answers : {A : Type 0} (C c : ℕ) (y : Content) (kind mask : ℕ) (value : ℕ → ℕ) (b : Bool) (found new ins further : A) → ContentIs C y kind mask value
    → (T (sets c y && b) → found ≡ new) → (T (is_original c y) → found ≡ ins)
    → cond (bit mask c && (original_kind kind || (setting_kind kind && b))) found further ≡ cond (sets c y && b) new (cond (is_original c y) ins further)
unfolding sets is_original
record_answers C c (original cs vs) kind mask value b found new ins further o e f =
    rw (o.0, and-true (bit mask c), o.1 c) (by_test (λ a. cond a found further ≡ cond a ins further) (among c cs) f (λ _. refl))
record_answers C c (setting m vs) kind mask value b found new ins further o e f =
    rw (o.0, o.1) (by_test (λ a. cond a found further ≡ cond a new further) (bit m c && b) e (λ _. refl))
record_answers C c ending kind mask value b found new ins further o e f = rw (o, and-false (bit mask c))

found_or : {A : Type 0} (b : Bool) (i : ℕ) (w : Option ℕ) (at : ℕ → A) (rest : A) → or_else (cond b (Some i) w) at rest ≡ cond b (at i) (or_else w at rest)
found_or true i w at rest = refl
found_or false i w at rest = refl

or_map : {A B : Type 0} (g : A → B) (w : Option ℕ) (at : ℕ → A) (rest : A) → g (or_else w at rest) ≡ or_else w (λ i. g (at i)) (g rest)
or_map g (Some i) at rest = refl
or_map g None at rest = refl

last_le : (l : List Record) (r n : ℕ) → last_of l r n ≤ n
last_le l r n = go (last_of l r n) refl
  where
    go : (k : ℕ) → last_of l r n ≡ k → k ≤ n
    go zero e = zero-le
    go (suc k) e = (last_of_row l r n k e).0

-- ---- the walk
-- `at` is what is read of the slot found, `of` the same of the version that the history finds: they agree on each seen setting of row and column, and on its original.
module _ (S : Shape) (v : View) (h : History) (i : InOrder h) (g r c : ℕ) (who : Reader) (f : ℕ → Bool) (w : SeesAs h who f)
    (o : TailOf S (state_of h) (records_of h g) v g) {A : Type 0} (at : ℕ → A) (of : Version → A) where
  abbrev recs : List Record
  recs = records_of h g

  -- what the history reads among the first n records
  abbrev seen_to : ℕ → Version
  seen_to n = last_setting f r c (inserted h r c) (take n (records_of h g))

  abbrev step : ℕ → ℕ → ℕ → Option ℕ
  step low n k = walk S v who g c low n k

  -- record k of the range is the row's and passes
  abbrev OfRow : (Record → Bool) → ℕ → Type 0
  OfRow q k = (k < length recs) × ((get_or recs k no_record).row ≡ r) × T (q (get_or recs k no_record))

  walk_stop : (low n k : ℕ) → k ≤ low → step low n k ≡ None
  unfolding walk
  walk_stop low zero k b = refl
  walk_stop low (suc n) k b = rw (le-leb k low b)

  module _ (setting-at : (k : ℕ) → OfRow (λ x. sets c x.content && f x.transaction) k → at (g * S.capacity + k) ≡ of (version_in c (get_or recs k no_record)))
      (original-at : (k : ℕ) → OfRow (λ x. is_original c x.content) k → at (g * S.capacity + k) ≡ of (inserted h r c)) where
    walk_go : (low n k : ℕ) (rest : A) → low ≤ k → k < length recs → (get_or recs k no_record).row ≡ r
        → or_else (step low (suc n) (suc k)) at rest
        ≡ cond (sets c (get_or recs k no_record).content && f (get_or recs k no_record).transaction) (of (version_in c (get_or recs k no_record)))
        (cond (is_original c (get_or recs k no_record).content) (of (inserted h r c)) (or_else (step low n (last_of recs r k)) at rest))
    unfolding walk answers_for SeesAs
    walk_go low n k rest b u e =
        let x : RecordIs S.columns (state_of h) (get_or recs k no_record) (record_in v (g * S.capacity + k)) (value_in S v (g * S.capacity + k)) = o.each k u in
        rw (lt-leb (suc k) low (omega arith), slot_is S g k, x.state, x.stamp, x.ordinal, x.transaction, w (get_or recs k no_record).transaction, o.links k u, e, found_or)
        (record_answers S.columns c (get_or recs k no_record).content _ _ _ (f (get_or recs k no_record).transaction) _ _ _ _ x.content
        (λ q. setting-at k (u, e, q)) (λ q. original-at k (u, e, q)))

    -- from the row's last record among the first n, down to `low`
    pub walk_is : (low : ℕ) (rest : A) (n fuel : ℕ) → low ≤ n → n ≤ length recs → last_of recs r n ≤ fuel
        → (has_original (take n recs) r c ≡ has_original (take low recs) r c → rest ≡ of (seen_to low))
        → or_else (step low fuel (last_of recs r n)) at rest ≡ of (seen_to n)
    unfolding last_of has_original
    walk_is low rest zero fuel a b d z =
        let e : low ≡ 0 = omega arith in
        rw (walk_stop low fuel 0 zero-le) (rw e at (z (rw e refl)))
    walk_is low rest (suc n) fuel a b d z =
        go (ℕ_discrete low (suc n)) fuel d (λ (fuel : ℕ) u q z. walk_is low rest n fuel u (omega arith) q z)
      where
        x : Record
        x = get_or recs n no_record

        original_here : Record → Bool
        original_here y = eqb y.row r && is_original c y.content

        AtLow : ℕ → Type 0
        AtLow n = has_original (take n recs) r c ≡ has_original (take low recs) r c → rest ≡ of (seen_to low)

        Before : Type 0
        Before = (fuel : ℕ) → low ≤ n → last_of recs r n ≤ fuel → AtLow n → or_else (step low fuel (last_of recs r n)) at rest ≡ of (seen_to n)

        down : original_here x ≡ false → AtLow n
        down q e = z (take_next recs n no_record b original_here ∙ rw q (or-false (any original_here (take n recs))) ∙ e)

        pick : (s q : Bool) (next : A) (y i old : Version) → (T q → of i ≡ of old) → (q ≡ false → next ≡ of old) → cond s (of y) (cond q (of i) next) ≡ of (cond s y old)
        pick true q next y i old f g = refl
        pick false true next y i old f g = f tt
        pick false false next y i old f g = g refl

        -- the row of record n
        at_record : (fuel : ℕ) → low ≤ n → Before → (p : Bool) → eqb x.row r ≡ p → cond p (suc n) (last_of recs r n) ≤ fuel
            → or_else (step low fuel (cond p (suc n) (last_of recs r n))) at rest ≡ of (cond (p && (sets c x.content && f x.transaction)) (version_in c x) (seen_to n))
        at_record zero u before true e d = absurd (not-suc-le-zero d)
        at_record (suc fuel) u before true e d =
            let e' : x.row ≡ r = eqb→eq x.row r (rw e tt) in
            walk_go low fuel n rest u b e'
            ∙ pick (sets c x.content && f x.transaction) (is_original c x.content) _ (version_in c x) (inserted h r c) (seen_to n)
            (λ q. sym (ap of (original_reads h g i f r c n (inserted h r c) b e' q)))
            (λ q. before fuel u (omega (arith, last_le recs r n)) (down (rw e q)))
        at_record fuel u before false e d = before fuel u d (down (rw e refl))

        go : Dec (low ≡ suc n) → (fuel : ℕ) → last_of recs r (suc n) ≤ fuel → Before → or_else (step low fuel (last_of recs r (suc n))) at rest ≡ of (seen_to (suc n))
        go (yes e) fuel d before = rw (walk_stop low fuel (last_of recs r (suc n)) (rw e (last_le recs r (suc n)))) (rw e at (z (rw e refl)))
        go (no q) fuel d before =
            at_record fuel (omega (arith, q)) before (eqb x.row r) refl d ∙ ap of (sym (last_next f r c (inserted h r c) recs n no_record b))

-- ---- the value of a record
pub setting_value : (C c : ℕ) → c < C → (y : Content) (kind mask : ℕ) (value : ℕ → ℕ) → ContentIs C y kind mask value → T (sets c y) → to_z w32 (value c) ≡ new_value c y
unfolding sets new_value
setting_value C c d (setting m vs) kind mask value o t = o.2 c d t
setting_value C c d (original columns values) kind mask value o t = elim t [ ]
setting_value C c d ending kind mask value o t = elim t [ ]

pub original_value : (C c : ℕ) → c < C → (ins : ℤ) (y : Content) (kind mask : ℕ) (value : ℕ → ℕ) → ContentIs C y kind mask value
    → ((cs : List ℕ) (vs : List ℤ) → y ≡ original cs vs → get_or vs c (pos 0) ≡ ins) → T (is_original c y) → to_z w32 (value c) ≡ ins
unfolding is_original
original_value C c d ins (original cs vs) kind mask value o e t = o.2 c d (rw (o.1 c) t) ∙ e cs vs refl
original_value C c d ins (setting _ values) kind mask value o e t = elim t [ ]
original_value C c d ins ending kind mask value o e t = elim t [ ]

-- ---- a row and column on a page
-- what a page that is not newer than the stamp holds is seen, if the reader's snapshot has the commits that it has taken in
page_seen : (h : History) (who : Reader) (n : ℕ) (f : ℕ → Bool) → SeesAs h who f → n ≤ who.stamp.0 → (k : ℕ) → T (is_closed (state_of h k))
    → ((s : Commit) → state_of h k ≡ committed s → (s.stamp ≤ n) × (s.ordinal ≤ who.commits)) → is_committed (state_of h k) ≡ f k
unfolding SeesAs sees is_committed
page_seen h who n f w b k p u = go (state_of h k) p u ∙ w k
  where
    go : (s : State) → T (is_closed s) → ((a : Commit) → s ≡ committed a → (a.stamp ≤ n) × (a.ordinal ≤ who.commits))
        → is_committed s ≡ sees who (state_word s) (commit_of s).stamp (commit_of s).ordinal k
    go aborted p u = refl
    go (committed s) p u = rw (le-leb s.stamp who.stamp.0 (le_trans (u s refl).0 b), le-leb s.ordinal who.commits (u s refl).1)
    go unknown p u = elim p [ ]
    go active p u = elim p [ ]

pub unset_take : (l : List Record) (r c n : ℕ) → was_set l r c ≡ false → was_set (take n l) r c ≡ false
unfolding was_set
unset_take l r c n e =
    any_none (λ (x : Record). eqb x.row r && sets c x.content) (all_take n (not_any (λ (x : Record). eqb x.row r && sets c x.content) l (rw e tt)))

module _ {F : Form} {S : Shape} {v : View} {ps : List ScanEntry} {h : History} (o : Represents F S v ps h) (k : WellFormed S h) (who : Reader) (f : ℕ → Bool) (w : SeesAs h who f) (r : ℕ)
    (b : r < length h.rows) (c : ℕ) (inside : c < S.columns) where
  abbrev g : ℕ
  g = range_of r

  abbrev list : List Record
  list = records_of h (range_of r)

  pub lok : TailOf S (state_of h) (records_of h (range_of r)) v (range_of r)
  lok = o.tails (range_of r) (in_range k r b)

  pub original_there : (i : ℕ) → i < length list → (get_or list i no_record).row ≡ r → (cs : List ℕ) (vs : List ℤ) → (get_or list i no_record).content ≡ original cs vs
      → get_or vs c (pos 0) ≡ inserted_value h r c
  unfolding inserted_value
  original_there i u e cs vs q = rw ((sound_at h g k.invariants.order i no_record u).values cs vs q, e)

  -- the walk from the row's link
  walked : {A : Type 0} (at : ℕ → A) (of : Version → A) (low : ℕ) (rest : A)
      → ((i : ℕ) → i < length list → T (sets c (get_or list i no_record).content) → at (g * S.capacity + i) ≡ of (version_in c (get_or list i no_record)))
      → ((i : ℕ) → i < length list → (get_or list i no_record).row ≡ r → T (is_original c (get_or list i no_record).content) → at (g * S.capacity + i) ≡ of (inserted h r c))
      → low ≤ length list → (has_original list r c ≡ has_original (take low list) r c → rest ≡ of (last_setting f r c (inserted h r c) (take low list)))
      → or_else (walk S v who g c low (row_in v r).link (row_in v r).link) at rest ≡ of (last_setting f r c (inserted h r c) list)
  walked at of low rest x y a z =
      rw (o.rows r b).link
      (rw take-length at
      (walk_is S v h k.invariants.order g r c who f w lok at of
      (λ i u. x i u.0 (parts (sets c (get_or list i no_record).content) _ u.2).0) (λ i u. y i u.0 u.1 u.2)
      low rest (length list) (last_of list r (length list)) a (le_refl _) (le_refl _) (rw take-length z)))

  -- ---- who set it, by the stamp that is shown
  commit_stamp_lem : (s : State) → commit_stamp (state_word s) (commit_of s).stamp ≡ (commit_of s).stamp
  unfolding commit_stamp
  commit_stamp_lem unknown = refl
  commit_stamp_lem active = refl
  commit_stamp_lem aborted = refl
  commit_stamp_lem (committed s) = refl

  insert_stamp : setter_stamp v r Setter.Insert ≡ (commit_of (state_of h (inserted h r c).setter)).stamp
  unfolding setter_stamp inserted
  insert_stamp = rw ((o.rows r b).state, (o.rows r b).stamp) (commit_stamp_lem (state_of h (row_at h r).inserter))

  pub kind_setting : (y : Content) (kind mask : ℕ) (value : ℕ → ℕ) → ContentIs S.columns y kind mask value → T (sets c y) → original_kind kind ≡ false
  unfolding sets
  kind_setting (setting m vs) kind mask value e t = rw e.0
  kind_setting (original columns values) kind mask value e t = elim t [ ]
  kind_setting ending kind mask value e t = elim t [ ]

  pub kind_original : (y : Content) (kind mask : ℕ) (value : ℕ → ℕ) → ContentIs S.columns y kind mask value → T (is_original c y) → original_kind kind ≡ true
  unfolding is_original
  kind_original (original cs vs) kind mask value e t = rw e.0
  kind_original (setting _ values) kind mask value e t = elim t [ ]
  kind_original ending kind mask value e t = elim t [ ]

  pub setting_stamp : (i : ℕ) → i < length list → T (sets c (get_or list i no_record).content)
      → setter_stamp v r (setter_at v (g * S.capacity + i)) ≡ (commit_of (state_of h (version_in c (get_or list i no_record)).setter)).stamp
  unfolding setter_at setter_stamp version_in
  setting_stamp i u t =
      let x = lok.each i u in
      rw (kind_setting _ _ _ _ x.content t, x.state, x.stamp) (commit_stamp_lem (state_of h (get_or list i no_record).transaction))

  pub original_stamp : (i : ℕ) → i < length list → T (is_original c (get_or list i no_record).content)
      → setter_stamp v r (setter_at v (g * S.capacity + i)) ≡ (commit_of (state_of h (inserted h r c).setter)).stamp
  unfolding setter_at
  original_stamp i u t = rw (kind_original _ _ _ _ (lok.each i u).content t) insert_stamp

  -- something of the record found from the floor on, else of the row
  found_is : {A : Type 0} (at : ℕ → A) (of : Version → A) (rest : A)
      → ((i : ℕ) → i < length list → T (sets c (get_or list i no_record).content) → at (g * S.capacity + i) ≡ of (version_in c (get_or list i no_record)))
      → ((i : ℕ) → i < length list → (get_or list i no_record).row ≡ r → T (is_original c (get_or list i no_record).content) → at (g * S.capacity + i) ≡ of (inserted h r c))
      → rest ≡ of (inserted h r c) → or_else (found_in S v who floor r c) at rest ≡ of (version_of f h r c)
  unfolding found_in last_setting
  found_is at of rest x y z = go (bit (row_in v r).mask c) ((o.rows r b).mask c) ∙ ap of (version_range h f r c)
    where
      go : (a : Bool) → a ≡ was_set list r c
          → or_else (cond a (walk S v who g c floor (row_in v r).link (row_in v r).link) None) at rest ≡ of (last_setting f r c (inserted h r c) list)
      go true e = walked at of floor rest x y zero-le (λ _. z)
      go false e = z ∙ ap of (sym (last_unset f r c (inserted h r c) list (sym e)))

  stamp_is : setter_stamp v r (setter_in S v who r c) ≡ (commit_of (state_of h (version_of f h r c).setter)).stamp
  unfolding setter_in
  stamp_is =
      or_map (setter_stamp v r) (found_in S v who floor r c) (setter_at v) Setter.Insert
      ∙ found_is (λ i. setter_stamp v r (setter_at v i)) (λ y. (commit_of (state_of h y.setter)).stamp) (setter_stamp v r Setter.Insert)
      setting_stamp (λ i u _ t. original_stamp i u t) insert_stamp

  -- ---- its keeper
  insert_keeper : row_keeper v r ≡ keeper_of h (inserted h r c).setter
  unfolding row_keeper inserted
  insert_keeper = o.keepers.of_rows r b

  setting_keeper : (i : ℕ) → i < length list → T (sets c (get_or list i no_record).content) → record_keeper v (g * S.capacity + i) ≡ keeper_of h (version_in c (get_or list i no_record)).setter
  unfolding record_keeper version_in
  setting_keeper i u t = o.keepers.of_records g i (in_range k r b) u ∙ ap (keeper_of h) (bears_own (get_or list i no_record).content _ _ t)
    where
      bears_own : (y : Content) (inserter own : ℕ) → T (sets c y) → borne_by y inserter own ≡ own
      bears_own (setting m vs) inserter own q = refl
      bears_own (original cs vs) inserter own q = absurd (unfold sets in q)
      bears_own ending inserter own q = absurd (unfold sets in q)

  original_keeper : (i : ℕ) → i < length list → (get_or list i no_record).row ≡ r → T (is_original c (get_or list i no_record).content)
      → record_keeper v (g * S.capacity + i) ≡ keeper_of h (inserted h r c).setter
  unfolding record_keeper inserted
  original_keeper i u e t =
      o.keepers.of_records g i (in_range k r b) u ∙ ap (keeper_of h) (bears_row (get_or list i no_record).content _ _ t ∙ ap (λ (j : ℕ). (row_at h j).inserter) e)
    where
      bears_row : (y : Content) (inserter own : ℕ) → T (is_original c y) → borne_by y inserter own ≡ inserter
      bears_row (original cs vs) inserter own q = refl
      bears_row (setting m vs) inserter own q = absurd (unfold is_original in q)
      bears_row ending inserter own q = absurd (unfold is_original in q)

  pub keeper_is : keeper_in S v who r c ≡ keeper_read f h r c
  unfolding keeper_in keeper_read keeper_word
  keeper_is =
      rw (visible_is o k r b who f w, found_is (record_keeper v) (λ y. keeper_of h y.setter) (row_keeper v r) setting_keeper original_keeper insert_keeper, mod-eq_of_lt (o.keepers.small (version_of f h r c).setter))

  -- ---- and what it is, on page p
  module _ (p : ℕ) (Q : ℕ → Type 0) (held : Holds h (range_of r) c Q (page_in v p) (cell_in v p))
      (taken : All (TakenBefore (state_of h) who.commits) (take (page_in v p).lineage (records_of h (range_of r)))) where
    abbrev page : PageWords
    page = page_in v p

    abbrev cell : ℕ
    cell = cell_in v p (within r)

    -- read for the value
    walk_value : (low : ℕ) → low ≤ length list
        → (has_original list r c ≡ has_original (take low list) r c → to_z w32 cell ≡ (last_setting f r c (inserted h r c) (take low list)).value)
        → to_z w32 (or_else (walk S v who g c low (row_in v r).link (row_in v r).link) (λ i. value_in S v i c) cell) ≡ (last_setting f r c (inserted h r c) list).value
    walk_value low a z =
        or_map (to_z w32) (walk S v who g c low (row_in v r).link (row_in v r).link) (λ i. value_in S v i c) cell
        ∙ walked (λ i. to_z w32 (value_in S v i c)) (λ y. y.value) low (to_z w32 cell)
        (λ i u t. setting_value S.columns c inside _ _ _ _ (lok.each i u).content t ∙ (unfold version_in in refl))
        (λ i u e t. original_value S.columns c inside (inserted_value h r c) _ _ _ _ (lok.each i u).content (original_there i u e) t ∙ (unfold inserted in refl))
        a z

    cell_is : Q r → to_z w32 cell ≡ (last_setting (λ k. is_committed (state_of h k)) r c (inserted h r c) (take page.lineage list)).value
    unfolding cell_through
    cell_is q = held.cells r refl q

    -- a page that is not newer than the stamp
    cell_seen : Q r → page.newest ≤ who.stamp.0 → to_z w32 cell ≡ (last_setting f r c (inserted h r c) (take page.lineage list)).value
    cell_seen q n =
        cell_is q
        ∙ ap (λ (y : Version). y.value)
        (last_agree (λ k. is_committed (state_of h k)) r c f (inserted h r c)
        (all_map₂ (λ (y : Record) a d s. page_seen h who page.newest f w n y.transaction a.0 (λ z e. (d s z e, a.1 z e))) (all_both held.through.closed_all taken) held.newest))

    has_original_lem : was_set list r c ≡ true → has_original list r c ≡ true
    has_original_lem e = sym (originals_of h r c k.invariants.order (omega (arith, k.small.columns)) refl) ∙ e

    down_within : down_to who page ≤ length list
    unfolding down_to
    down_within = by_test (λ a. cond a page.lineage 0 ≤ length list) (leb page.newest who.stamp.0) (λ _. held.through.within) (λ _. zero-le)

    -- where no record answers, the page is not newer than the stamp: further down the column's original had answered
    cell_answers : Q r → was_set list r c ≡ true → has_original list r c ≡ has_original (take (down_to who page) list) r c
        → to_z w32 cell ≡ (last_setting f r c (inserted h r c) (take (down_to who page) list)).value
    unfolding down_to
    cell_answers q s =
        by_test (λ a. has_original list r c ≡ has_original (take (cond a page.lineage 0) list) r c
        → to_z w32 cell ≡ (last_setting f r c (inserted h r c) (take (cond a page.lineage 0) list)).value) (leb page.newest who.stamp.0)
        (λ n _. cell_seen q (leb→le page.newest who.stamp.0 n))
        (λ _ e. absurd (true≢false (sym (has_original_lem s) ∙ e ∙ (unfold has_original in refl))))

    pub word_is : Q r → to_z w32 (word_in S v who p r c) ≡ (version_of f h r c).value
    unfolding word_in found_in
    word_is q = go (bit (row_in v r).mask c) ((o.rows r b).mask c) ∙ ap (λ (y : Version). y.value) (version_range h f r c)
      where
        go : (a : Bool) → a ≡ was_set list r c
            → to_z w32 (or_else (cond a (walk S v who g c (down_to who page) (row_in v r).link (row_in v r).link) None) (λ i. value_in S v i c) cell)
            ≡ (last_setting f r c (inserted h r c) list).value
        go true e = walk_value (down_to who page) down_within (cell_answers q (sym e))
        go false e =
            cell_is q
            ∙ ap (λ (y : Version). y.value) (last_unset _ r c (inserted h r c) (take page.lineage list) (unset_take list r c page.lineage (sym e)) ∙ sym (last_unset f r c (inserted h r c) list (sym e)))

    pub read_is : (T (visible f h r) → Q r) → read_in S v who p r c ≡ read f h r c
    unfolding read_in lookup_in shown_in read shown
    read_is q = rw (visible_is o k r b who f w)
        (by_test (λ a. cond a (Ok (Fields.Version (to_z w32 (word_in S v who p r c)) (setter_stamp v r (setter_in S v who r c)))) (Ok Fields.None) ≡ cond a (shown h (version_of f h r c)) (Ok Fields.None)) (visible f h r)
        (λ z. ap₂ (λ x y. Ok (Fields.Version x y)) (word_is (q z)) stamp_is) (λ _. refl))
