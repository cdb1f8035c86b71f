-- What each call writes lies within its footprint, in every memory: by the puts and passes that its definition is made of.
use mathlib.Core.Path.{◌≡◌, refl, ◌∙◌}
use mathlib.Core.Logic.{◌≢◌, ◌⊎◌, inl, inr, ⊎_elim, ⊎_map}
use mathlib.Core.Bool.{Bool, true, false, cond, ◌&&◌, or-true}
use mathlib.Core.List.{List, [], ◌∷◌, ◌++◌}
use Prim.Native.Nat.{ℕ, zero, suc, ◌+◌, ◌*◌, ◌-◌, ◌≤◌, ◌<◌}
use native.Mathlib.Omega.{arith}
use native.Mathlib.Nat.{suc-mul, add-mul, mul-le-mul_right}
use native.Mathlib.Decide.{ℕ_discrete, dec_lt}
use lib.Dec.{T, leb, ltb, eqb}
use lib.ListN.{length, get_or, set, length-set, get_or-eq_default}
use lib.Seq.{get_or-set_same, get_or-set_other, set_out}
use lib.IntN.{ℤ}
use lib.Bits.{bit_or}
use Rattle.terms.specs.Measures.{range_rows}
use Rattle.terms.specs.declared.Shape.{Shape}
use Rattle.terms.specs.declared.ScanEntry.{ScanEntry}
use Rattle.terms.specs.Entries.{free_entry}
use Rattle.history.specs.History.{Call, begin, insert, update, delete, commit, abort, latest, read_at, own_read, open_scan, scan_read, sum, close, merge, release, page_cell, lineage, crossings, begin_as, keeper_at, move, Commit, no_commit, unknown_keeper, range_of}
use Rattle.history.proofs.Lists.{by_cases, is_true, eqb_same, or_left, or_right, le_test}
use Rattle.loops.specs.Change.{changed, marked}
use Rattle.loops.proofs.Change.{changed_length, changed_outside}
use Rattle.layout.specs.Regions.{rows_at, transactions_at, scans_at, stamp_at, merges_at, commits_at}
use Rattle.layout.specs.View.{View, put, renew, rows_given, used_in}
use Rattle.layout.specs.declared.Region.{Region}
use Rattle.layout.specs.declared.Region.TheVariants.{Header, Opens, RowTransaction, RowState, RowStamp, RowLink, RowMask, TailTransaction, TailRow, TailKind, TailMask, TailLink, TailState, TailStamp, TailValues, Used, Current, PageState, PageChunk, PageMade, PageReplaced, PageLineage, PageNewest, Cells, Changes, RowOrdinal, TailOrdinal, RowKeeper, TailKeeper, OpenKeeper}
use Rattle.layout.specs.Parts.{Part, word, words_where, has, among, ChangedWithin}
use Rattle.layout.proofs.View.{renew_there}
use Rattle.layout.proofs.Parts.{among_append, nothing_changed, renew_within, put_within}
use Rattle.model.specs.Stored.{row_in, page_in, pages_of, current_in, within, open_index, open_keeper}
use Rattle.model.specs.Writing.{begun, noted, mark_tails, mark_all, settled, freed, next_in, committed_in, aborted_in, put_cells, inserted_at, inserted_in, appended, filled_in, new_bits_in, records_wanted, original_appended, setting_appended, updated_in, deleted_in, merged_in, releasable, released_in, next_slot, free_in}
use Rattle.layout.specs.Regions.{index, first_slot, slot}
use Rattle.layout.specs.Codes.{as_delete, as_original, as_setting, as_committed, as_aborted, as_free}
use Rattle.model.specs.Calls.{act_in, new_entry, entries_after}
use Rattle.model.specs.Footprint.{merge_footprint, cells_written, records_written, values_written, row_changed, bears_at, records_bearing, bearing, open_written, end_written, begin_written, footprint, entries_written, EntriesWithin}
use Rattle.model.proofs.changes.Insert.{cells_length}
use Rattle.model.proofs.changes.Transactions.{marks_length}
use Rattle.model.proofs.upkeep.Merge.{applied_length, applied_outside}

-- ---- parts of two lists
module _ (k : Region) (j : ℕ) (xs ys : List Part) where
  in_front : T (among k j xs) → T (among k j (xs ++ ys))
  in_front t = rw (among_append k j xs ys) (or_left (among k j xs) (among k j ys) t)

  behind : T (among k j ys) → T (among k j (xs ++ ys))
  behind t = rw (among_append k j xs ys) (or_right (among k j xs) (among k j ys) t)

-- ---- a stretch
in_stretch : (at n j : ℕ) → at ≤ j → j < at + n → (leb at j && ltb j (at + n)) ≡ true
in_stretch at n j a b = rw (is_true (leb at j) ((le_test at j).1 a), is_true (ltb j (at + n)) ((le_test (suc j) (at + n)).1 b))

-- the word from i on is word i
word_here : (i : ℕ) → (leb i i && ltb i (i + 1)) ≡ true
word_here i = in_stretch i 1 i (omega arith) (omega arith)

-- a word is outside of a stretch or one of it
by_stretch : {P Q : Type 0} (at n j : ℕ) → ((j < at) ⊎ (at + n ≤ j) → P) → ((leb at j && ltb j (at + n)) ≡ true → Q) → P ⊎ Q
by_stretch at n j f g =
    by_cases (dec_lt j at) (λ u. inl (f (inl u))) (λ u. by_cases (dec_lt j (at + n)) (λ w. inr (g (in_stretch at n j (omega arith) w))) (λ w. inl (f (inr (omega arith)))))

-- ---- a pass that changes those words of a region whose numbers pass
-- a word put back
set_back : (d l : List ℕ) (p j : ℕ) → get_or d j 0 ≡ get_or l j 0 → get_or (set d p (get_or l p 0)) j 0 ≡ get_or l j 0
set_back d l p j q =
    by_cases (ℕ_discrete j p)
    (λ e. by_cases (dec_lt p (length d)) (λ b. rw e (get_or-set_same d p (get_or l p 0) 0 b)) (λ b. rw (set_out d p (get_or l p 0) (omega arith)) q)) (λ f. get_or-set_other d p j (get_or l p 0) 0 f ∙ q)

pass_within : (f : ℕ → Bool) (w : ℕ → ℕ) (k : Region) (i : ℕ) (l : List ℕ) (n j : ℕ) → (get_or (changed (λ p x. cond (f p) (w p) x) i n l) j 0 ≡ get_or l j 0) ⊎ T (among k j (words_where f k i n))
unfolding changed
pass_within f w k i l zero j = inl refl
pass_within f w k i l (suc n) j = go (f n) (pass_within f w k i l n j)
  where
    done : List ℕ
    done = changed (λ p x. cond (f p) (w p) x) i n l

    here : has k (i + n) (word k (i + n)) ≡ true
    here = rw (eqb_same (index k)) (word_here (i + n))

    go : (b : Bool) → (get_or done j 0 ≡ get_or l j 0) ⊎ T (among k j (words_where f k i n))
        → (get_or (set done (i + n) (cond b (w n) (get_or l (i + n) 0))) j 0 ≡ get_or l j 0) ⊎ T (among k j (cond b (word k (i + n) ∷ words_where f k i n) (words_where f k i n)))
    go true before =
        by_cases (ℕ_discrete j (i + n)) (λ e. inr (rw e (or_left (has k (i + n) (word k (i + n))) _ (rw here tt))))
        (λ e. ⊎_map (λ q. get_or-set_other done (i + n) j (w n) 0 e ∙ q) (or_right (has k j (word k (i + n))) (among k j (words_where f k i n))) before)
    go false before = ⊎_map (λ q. set_back done l (i + n) j q) (λ a. a) before

module _ {xs : List Part} {v v' : View} where
  noted_within : (t : ℕ) → T (among Changes (open_index v' t) xs) → ChangedWithin xs v v' → ChangedWithin xs v (noted t v')
  unfolding noted
  noted_within t a o = put_within Changes (open_index v' t) _ a o

  freed_within : (t : ℕ) → T (among Opens (open_index v' t) xs) → T (among Changes (open_index v' t) xs) → T (among OpenKeeper (open_index v' t) xs) → ChangedWithin xs v v'
      → ChangedWithin xs v (freed t v')
  unfolding freed
  freed_within t a b c o = put_within OpenKeeper (open_index v' t) 0 c (put_within Changes (open_index v' t) 0 b (put_within Opens (open_index v' t) 0 a o))

-- ---- one tail record more, at a slot of the n from s on
module _ (xs : List Part) (s n : ℕ) where
  appended_within : {v v' : View} (S : Shape) (t keeper r kind mask : ℕ) → T (among RowLink r xs) → T (among Used (range_of r) xs) → s ≤ next_slot S v' (range_of r) → next_slot S v' (range_of r) < s + n
      → ChangedWithin (xs ++ records_written s n) v v' → ChangedWithin (xs ++ records_written s n) v (appended S t keeper r kind mask v')
  unfolding appended
  appended_within {v' = v'} S t keeper r kind mask a b from to o =
      let i = next_slot S v' (range_of r) in
      let q = in_stretch s n (next_slot S v' (range_of r)) from to in
      let records = records_written s n in
      put_within RowLink r _ (in_front RowLink r xs records a)
      (put_within Used (range_of r) _ (in_front Used (range_of r) xs records b)
      (put_within TailKeeper i keeper (behind TailKeeper i xs records (simp q tt))
      (put_within TailOrdinal i 0 (behind TailOrdinal i xs records (simp q tt))
      (put_within TailStamp i 0 (behind TailStamp i xs records (simp q tt))
      (put_within TailState i _ (behind TailState i xs records (simp q tt))
      (put_within TailLink i _ (behind TailLink i xs records (simp q tt))
      (put_within TailMask i mask (behind TailMask i xs records (simp q tt))
      (put_within TailKind i kind (behind TailKind i xs records (simp q tt))
      (put_within TailRow i r (behind TailRow i xs records (simp q tt))
      (put_within TailTransaction i t (behind TailTransaction i xs records (simp q tt)) o))))))))))

-- its values
filled_within : {xs : List Part} {v v' : View} (S : Shape) (s n k : ℕ) (f : ℕ → ℕ) → s ≤ k → k < s + n
    → ((j : ℕ) → (leb (s * S.columns) j && ltb j (s * S.columns + n * S.columns)) ≡ true → T (among TailValues j xs)) → ChangedWithin xs v v' → ChangedWithin xs v (filled_in S k f v')
unfolding filled_in
filled_within {v' = v'} S s n k f from to g o =
    let C = S.columns in
    renew_within TailValues _ (changed_length _ (k * C) (v' TailValues) C)
    (λ j.
    by_stretch (s * C) (n * C) j
    (λ d. changed_outside _ (k * C) (v' TailValues) C j (⊎_map (λ u. omega (arith, mul-le-mul_right C from)) (λ u. omega (arith, mul-le-mul_right C to, suc-mul k C, add-mul s n C)) d)) (g j)) o

-- ---- insert
-- its cells
cells_within : (S : Shape) (v : View) (r : ℕ) (vs : List ℤ) (n j : ℕ)
    → (get_or (put_cells S (v Current) (range_of r) (within r) vs n (v Cells)) j 0 ≡ get_or (v Cells) j 0) ⊎ T (among Cells j (cells_written S v r n))
unfolding current_in
cells_within S v r vs zero j = inl refl
cells_within S v r vs (suc n) j =
    by_cases (ℕ_discrete j (at n)) (λ e. inr (rw e (simp word_here tt)))
    (λ f. ⊎_map (λ e. get_or-set_other (put_cells S (v Current) (range_of r) (within r) vs n (v Cells)) (at n) j _ 0 f ∙ e) (or_right (leb (at n) j && ltb j (at n + 1)) (among Cells j (cells_written S v r n))) (cells_within S v r vs n j))
  where
    at : ℕ → ℕ
    at c = current_in S v (range_of r) c * range_rows + within r

inserted_within : (ps : List ScanEntry) (S : Shape) (t : ℕ) (vs : List ℤ) (v : View) → ChangedWithin (footprint S v ps (insert t vs)) v (inserted_in S t vs v)
unfolding footprint inserted_in inserted_at put renew open_index
inserted_within ps S t vs v =
    noted_within t (simp word_here tt)
    (put_within Header rows_at _ tt
    (renew_within Cells _ (cells_length S (v Current) _ _ vs (v Cells) S.columns) (cells_within S v (rows_given v) vs S.columns)
    (put_within RowMask _ 0 (simp word_here tt)
    (put_within RowLink _ 0 (simp word_here tt)
    (put_within RowKeeper _ _ (simp word_here tt)
    (put_within RowOrdinal _ 0 (simp word_here tt)
    (put_within RowStamp _ 0 (simp word_here tt) (put_within RowState _ _ (simp word_here tt) (put_within RowTransaction _ t (simp word_here tt) nothing_changed)))))))))

-- ---- merge: the cells of its page, a copy to which the settings are applied, and nine words
merge_within : (S : Shape) (v : View) (g c n : ℕ) → ChangedWithin (merge_footprint S v g c) v (merged_in S g c n v)
unfolding merged_in merge_footprint
merge_within S v g c n =
    put_within Header merges_at _ tt
    (put_within Current _ _ (simp word_here tt)
    (put_within PageReplaced _ _ (simp word_here tt)
    (put_within PageState old _ (simp (word_here, or-true) tt)
    (put_within PageNewest _ _ (simp word_here tt)
    (put_within PageLineage _ _ (simp word_here tt)
    (put_within PageMade _ _ (simp word_here tt)
    (put_within PageChunk _ _ (simp word_here tt)
    (put_within PageState _ _ (simp word_here tt)
    (renew_within Cells _ (applied_length S v g c p low (n - low) _ ∙ changed_length _ (p * range_rows) (v Cells) range_rows) (λ j.
    by_stretch (p * range_rows) range_rows j
    (λ d. applied_outside S v g c p low (n - low) _ j d ∙ changed_outside _ (p * range_rows) (v Cells) range_rows j d) (λ q. simp q tt)) nothing_changed)))))))))
  where
    old : ℕ
    old = current_in S v g c

    p : ℕ
    p = free_in S v

    low : ℕ
    low = (page_in v old).lineage

-- ---- update and delete: the slot of a second record is that of the first or the next
next_slot_lem : (S : Shape) (v v' : View) (g : ℕ) → v' Used ≡ set (v Used) g (used_in v g + 1) → (next_slot S v g ≤ next_slot S v' g) × (next_slot S v' g < next_slot S v g + 2)
unfolding next_slot slot
next_slot_lem S v v' g e =
    by_cases (dec_lt g (length (v Used)))
    (λ b. rw (e, get_or-set_same (v Used) g (used_in v g + 1) 0 b) (omega arith, omega arith))
    (λ b. let z = get_or-eq_default (set (v Used) g (used_in v g + 1)) 0 {n = g} (omega (arith, length-set (v Used) g (used_in v g + 1))) in rw (e, z, get_or-eq_default (v Used) 0 {n = g} (omega arith)) (omega arith, omega arith))

updated_within : (ps : List ScanEntry) (S : Shape) (t r m : ℕ) (vs : List ℤ) (v : View) → ChangedWithin (footprint S v ps (update t r m vs)) v (updated_in S t r m vs v)
unfolding footprint records_wanted updated_in setting_appended original_appended filled_in appended put renew open_index
updated_within ps S t r m vs v = go (eqb (new_bits_in v r m) 0)
  where
    g : ℕ
    g = range_of r

    s : ℕ
    s = next_slot S v g

    parts : ℕ → List Part
    parts n = (word RowMask r ∷ values_written S s n ∷ row_changed v t r) ++ records_written s n

    first : View
    first = original_appended S t r m v

    -- one record more
    taken : {u : View} (n keeper kind mask : ℕ) (f : ℕ → ℕ) → s ≤ next_slot S u g → next_slot S u g < s + n → ChangedWithin (parts n) v u → ChangedWithin (parts n) v (filled_in S (next_slot S u g) f (appended S t keeper r kind mask u))
    taken {u} n keeper kind mask f from to o =
        filled_within S s n (next_slot S u g) f from to (λ j q. simp q tt)
        (appended_within (word RowMask r ∷ values_written S s n ∷ row_changed v t r) s n S t keeper r kind mask (simp word_here tt) (simp word_here tt) from to o)

    go : (b : Bool) → ChangedWithin (parts (cond b 1 2)) v (noted t (put RowMask r (bit_or m (row_in v r).mask) (cond b (setting_appended S t (open_keeper v t) r m vs v) (setting_appended S t (open_keeper v t) r m vs first))))
    go true = noted_within t (simp word_here tt) (put_within RowMask r _ (simp word_here tt) (taken 1 _ as_setting m _ (omega arith) (omega arith) nothing_changed))
    go false =
        let q = next_slot_lem S v first g refl in
        noted_within t (simp word_here tt)
        (put_within RowMask r _ (simp word_here tt) (taken 2 _ as_setting m _ q.0 q.1 (taken 2 _ as_original (new_bits_in v r m) _ (omega arith) (omega arith) nothing_changed)))

deleted_within : (ps : List ScanEntry) (S : Shape) (t r : ℕ) (v : View) → ChangedWithin (footprint S v ps (delete t r)) v (deleted_in S t r v)
unfolding footprint deleted_in appended put renew open_index
deleted_within ps S t r v =
    noted_within t (simp word_here tt)
    (appended_within (row_changed v t r) (next_slot S v (range_of r)) 1 S t _ r as_delete 0 (simp word_here tt) (simp word_here tt) (omega arith) (omega arith) nothing_changed)

-- ---- commit and abort
records_within : (S : Shape) (used ks : List ℕ) (t w : ℕ) (k : Region) (l : List ℕ) (n j : ℕ) → (get_or (mark_tails S used ks t w n l) j 0 ≡ get_or l j 0) ⊎ T (among k j (records_bearing S used ks t k n))
records_within S used ks t w k l zero j = inl refl
records_within S used ks t w k l (suc g) j =
    let first = first_slot S.capacity g in
    let here = words_where (bears_at ks first t) k first (get_or used g 0) in
    let others = records_bearing S used ks t k g in
    ⊎_elim (λ e. ⊎_map (λ q. e ∙ q) (behind k j here others) (records_within S used ks t w k l g j)) (λ a. inr (in_front k j here others a))
    (pass_within (bears_at ks first t) (λ i. w) k first (mark_tails S used ks t w g l) (get_or used g 0) j)

marks_within : {xs : List Part} {v v' : View} (S : Shape) (t : ℕ) (rows tails : Region) (w : ℕ) → index rows ≢ index tails
    → ((k : Region) (j : ℕ) → T (among k j (bearing S v' t rows tails)) → T (among k j xs)) → ChangedWithin xs v v' → ChangedWithin xs v (mark_all S t rows tails w v')
unfolding mark_all
marks_within {v' = v'} S t rows tails w apart f o =
    let given = words_where (bears_at (v' RowTransaction) 0 t) rows 0 (rows_given v') in
    let used = records_bearing S (v' Used) (v' TailTransaction) t tails S.ranges in
    let marked-rows = marked (v' RowTransaction) 0 (rows_given v') t 0 w (v' rows) in
    let marked-tails = mark_tails S (v' Used) (v' TailTransaction) t w S.ranges (v' tails) in
    let e = renew_there rows tails marked-rows v' apart in
    renew_within tails marked-tails (rw e (marks_length S (v' Used) (v' TailTransaction) t w S.ranges (v' tails)))
    (λ j. rw e (⊎_map (λ q. q) (λ a. f tails j (behind tails j given used a)) (records_within S (v' Used) (v' TailTransaction) t w tails (v' tails) S.ranges j)))
    (renew_within rows marked-rows (changed_length _ 0 (v' rows) (rows_given v'))
    (λ j. ⊎_map (λ q. q) (λ a. f rows j (in_front rows j given used a)) (pass_within (bears_at (v' RowTransaction) 0 t) (λ i. w) rows 0 (v' rows) (rows_given v') j)) o)

settled_within : (xs : List Part) (S : Shape) (v : View) (t state : ℕ) (s : Commit) → ChangedWithin (xs ++ end_written S v t) v (settled S t state s v)
unfolding settled mark_all renew
settled_within xs S v t state s =
    let states = bearing S v t RowState TailState in
    let stamps = bearing S v t RowStamp TailStamp in
    let ordinals = bearing S v t RowOrdinal TailOrdinal in
    marks_within S t RowOrdinal TailOrdinal _ (λ e. omega arith) (λ k j a. behind k j xs (states ++ (stamps ++ ordinals)) (behind k j states (stamps ++ ordinals) (behind k j stamps ordinals a)))
    (marks_within S t RowStamp TailStamp _ (λ e. omega arith) (λ k j a. behind k j xs (states ++ (stamps ++ ordinals)) (behind k j states (stamps ++ ordinals) (in_front k j stamps ordinals a)))
    (marks_within S t RowState TailState _ (λ e. omega arith) (λ k j a. behind k j xs (states ++ (stamps ++ ordinals)) (in_front k j states (stamps ++ ordinals) a)) nothing_changed))

committed_within : (ps : List ScanEntry) (S : Shape) (t s : ℕ) (v : View) → ChangedWithin (footprint S v ps (commit t s)) v (committed_in S t s v)
unfolding footprint committed_in settled mark_all renew open_index
committed_within ps S t s v =
    put_within Header commits_at _ tt
    (put_within Header stamp_at s tt
    (freed_within t (simp word_here tt) (simp word_here tt) (simp word_here tt) (settled_within (word Header stamp_at ∷ word Header commits_at ∷ open_written (open_index v t)) S v t as_committed (next_in v s))))

aborted_within : (ps : List ScanEntry) (S : Shape) (t : ℕ) (v : View) → ChangedWithin (footprint S v ps (abort t)) v (aborted_in S t v)
unfolding footprint aborted_in settled mark_all renew open_index
aborted_within ps S t v = freed_within t (simp word_here tt) (simp word_here tt) (simp word_here tt) (settled_within (open_written (open_index v t)) S v t as_aborted no_commit)

-- ---- begin
begun_within : (x : ℕ) (v : View) → ChangedWithin (begin_written v) v (begun x v)
unfolding begun
begun_within x v =
    put_within Header transactions_at _ tt (put_within OpenKeeper _ x (simp word_here tt) (put_within Changes _ 0 (simp word_here tt) (put_within Opens _ _ (simp word_here tt) nothing_changed)))

-- ---- every call
pub act_within : (S : Shape) (v : View) (ps : List ScanEntry) (c : Call) → ChangedWithin (footprint S v ps c) v (act_in S v ps c)
unfolding act_in footprint released_in
act_within S v ps begin = begun_within unknown_keeper v
act_within S v ps (begin_as x) = begun_within x v
act_within S v ps (keeper_at s r c) = nothing_changed
act_within S v ps (insert t vs) = inserted_within ps S t vs v
act_within S v ps (update t r m vs) = updated_within ps S t r m vs v
act_within S v ps (delete t r) = deleted_within ps S t r v
act_within S v ps (commit t s) = committed_within ps S t s v
act_within S v ps (abort t) = aborted_within ps S t v
act_within S v ps (latest r c) = nothing_changed
act_within S v ps (read_at s r c) = nothing_changed
act_within S v ps (own_read t r c) = nothing_changed
act_within S v ps (open_scan s) = put_within Header scans_at _ tt nothing_changed
act_within S v ps (scan_read k r c) = nothing_changed
act_within S v ps (sum k c) = nothing_changed
act_within S v ps (close k) = nothing_changed
act_within S v ps (merge g c n) = merge_within S v g c n
act_within S v ps release =
    renew_within PageState _ (changed_length _ 0 (v PageState) (pages_of S)) (pass_within (releasable ps v) (λ p. as_free) PageState 0 (v PageState) (pages_of S)) nothing_changed
act_within S v ps (page_cell c r) = nothing_changed
act_within S v ps (lineage g c) = nothing_changed
act_within S v ps (crossings r c mark from to stamps) = nothing_changed
act_within S v ps (move to second) = nothing_changed

-- ---- the scan list: an opened scan takes one entry, a closed one leaves one
entry_within : (ps : List ScanEntry) (i : ℕ) (e : ScanEntry) → EntriesWithin (i ∷ []) ps (set ps i e)
entry_within ps i e =
    (length-set ps i e, λ j. by_cases (ℕ_discrete j i) (λ q. inr (rw (q, eqb_same i) tt)) (λ f. inl (get_or-set_other ps i j e free_entry f)))

pub entries_within : (v : View) (ps : List ScanEntry) (c : Call) → EntriesWithin (entries_written ps c) ps (entries_after v ps c)
unfolding entries_written entries_after
entries_within v ps begin = (refl, λ i. inl refl)
entries_within v ps (insert t vs) = (refl, λ i. inl refl)
entries_within v ps (update t r m vs) = (refl, λ i. inl refl)
entries_within v ps (delete t r) = (refl, λ i. inl refl)
entries_within v ps (commit t s) = (refl, λ i. inl refl)
entries_within v ps (abort t) = (refl, λ i. inl refl)
entries_within v ps (latest r c) = (refl, λ i. inl refl)
entries_within v ps (read_at s r c) = (refl, λ i. inl refl)
entries_within v ps (own_read t r c) = (refl, λ i. inl refl)
entries_within v ps (open_scan s) = entry_within ps _ (new_entry v s)
entries_within v ps (scan_read k r c) = (refl, λ i. inl refl)
entries_within v ps (sum k c) = (refl, λ i. inl refl)
entries_within v ps (close k) = entry_within ps _ free_entry
entries_within v ps (merge g c n) = (refl, λ i. inl refl)
entries_within v ps release = (refl, λ i. inl refl)
entries_within v ps (page_cell c r) = (refl, λ i. inl refl)
entries_within v ps (lineage g c) = (refl, λ i. inl refl)
entries_within v ps (crossings r c mark from to stamps) = (refl, λ i. inl refl)
entries_within v ps (begin_as x) = (refl, λ i. inl refl)
entries_within v ps (keeper_at s r c) = (refl, λ i. inl refl)
entries_within v ps (move to second) = (refl, λ i. inl refl)
